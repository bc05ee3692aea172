-- 01, Items and packets: what a call of a request writer wrote, read by the packet and item rules, gives back its opcode, id and items,
-- since what is sent of any items is read as those items, and what is sent of any packet as that packet.
use mathlib.Core.Path.{◌≡◌, refl, ap, ◌∙◌}
use mathlib.Core.Bool.{Bool, true, false, cond}
use mathlib.Core.List.{List, [], ◌∷◌, ◌++◌}
use mathlib.Core.Option.{some}
use Prim.Native.Nat.{ℕ, ◌+◌, ◌≤◌}
use native.Mathlib.Omega.{arith}
use lib.Dec.{leb, ltb}
use lib.ListN.{length, take, get_or, length-append}
use lib.Seq.{take-append_seam, drop-append_seam}
use borrow.Author.Tests.{le-leb, ltb-false}
use Rattle.std.specs.Prelude.{Option, Some, None, Result, Ok}
use Rattle.refusals.specs.Numbers.{short_output, bad_name, bad_fragment}
use Rattle.slices.proofs.Impossible.{impossible}
use Rattle.slices.specs.HighFirst.{word_of, pair_of}
use Rattle.slices.proofs.HighFirstLaws.{word_back, pair_back}
use Rattle.slices.specs.Put.{put_at}
use Rattle.slices.specs.Written.{written, refused, fitted, WritesAs}
use Rattle.refusals.specs.declared.Refusal.{Refusal}
use Rattle.slices.proofs.PutLaws.{put_told}
use Rattle.slices.proofs.Lent.{Slice}
use Rattle.packet.specs.Items.{Item, in_front, empty_if_eof, eofs_empty, if_eofs_empty, items_filling, items_of, item_bytes, items_bytes, value_in}
use Rattle.packet.specs.Packet.{Packet, packet, is_data, with_items, packet_of, judged_items, packet_items, packet_bytes}
use Rattle.packet.specs.Names.{valid_name, valid_location}
use Rattle.packet.specs.Answers.{head_of_packet, reading_of}
use Rattle.packet.specs.Requests.{name_item, location_item, offset_item, offset_items, get_packet, file_packet, fetched_packet, stop_packet, property_get, file_request, fetched_request, stop_request}
use Rattle.packet.specs.declared.reading.Head.{Head}
use Rattle.packet.proofs.ItemLaws.{items_end, items_rule}
use Rattle.packet.proofs.WriteLaws.{get_fits, file_fits, fetched_fits, stop_fits}
use Rattle.packet.proofs.RequestCalls.{ReadPacketCall, CountAllCall, ValueCall, PropertyGetCall, FileRequestCall, FetchedCall, StopCall, packet_was_read, items_were_counted, value_was_read, get_was_written, file_was_written, fetched_was_written, stop_was_written}

-- the bytes of items are read as those items (over numbers: a length is a byte where a value has at most 255 bytes, as names and
-- locations have)
pub items_back : (items : List Item) → items_filling (items_bytes items) ≡ some items
unfolding items_bytes item_bytes in_front
items_back [] = items_end
items_back (item ∷ items) =
    let size : length (item.value ++ items_bytes items) ≡ length item.value + length (items_bytes items) = length-append item.value (items_bytes items) in
    let fits : length item.value ≤ length (item.value ++ items_bytes items) = omega arith in
    rw (items_rule item.kind (length item.value) (item.value ++ items_bytes items), le-leb (length item.value) (length (item.value ++ items_bytes items)) fits, take-append_seam item.value (items_bytes items), drop-append_seam item.value (items_bytes items), items_back items)

-- a packet as it is sent is read as that packet
pub packet_back : (p : Packet) → eofs_empty p.items ≡ true → packet_of (packet_bytes p) ≡ packet p
unfolding packet_of packet_bytes is_data items_of if_eofs_empty with_items
packet_back p empty =
    let id : pair_of (get_or (packet_bytes p) 2 0) (get_or (packet_bytes p) 3 0) ≡ p.id = pair_back p.id in
    let long : leb 4 (length (packet_bytes p)) ≡ true = le-leb 4 (length (packet_bytes p)) (omega arith) in
    let head : is_data (packet_bytes p) ≡ true = rw long in
    rw (head, id, items_back p.items, empty)

-- what bytes are read as: by the packet and item rules the packet, with its items; by every call of `read_packet` its opcode and id, of
-- `count_all` the number of its items, and of `value` the value of its first item of the kind
pub record ReadAs (p : Packet) (bytes : List ℕ) : Type 0 where
  pub by_the_rules : packet_of bytes ≡ packet p
  pub items_are : packet_items bytes ≡ p.items
  pub by_a_call : (answer : Result Head Refusal) → ReadPacketCall bytes answer → answer ≡ Ok (head_of_packet p)
  pub counted : (answer : ℕ) → CountAllCall bytes answer → answer ≡ length p.items
  pub value_read : (kind : ℕ) (answer : Slice) → ValueCall kind bytes answer → answer.now ≡ value_in kind p.items

read_as : (p : Packet) (bytes : List ℕ) → packet_of bytes ≡ packet p → ReadAs p bytes
unfolding packet_items judged_items reading_of
read_as p bytes e =
    let items : packet_items bytes ≡ p.items = ap judged_items e in
    record {
      by_the_rules = e;
      items_are = items;
      by_a_call = λ answer c. packet_was_read c ∙ ap reading_of e;
      counted = λ answer c. items_were_counted c ∙ ap length items;
      value_read = λ kind answer c. value_was_read c ∙ ap (value_in kind) items;
    }

-- the bytes that a writer put, read as a packet, whatever else the output holds
written_back :
    (p : Packet) (t : Bool) (r : Refusal) (out after : List ℕ) (n : ℕ)
    → eofs_empty p.items ≡ true
    → WritesAs (cond t (fitted (length out) (packet_bytes p)) (refused r)) out (Ok n) after
    → ReadAs p (take n after)
unfolding fitted
written_back p false r out after n empty w = let a = w.answers in impossible cc
written_back p true r out after n empty w = cases (ltb (length out) (length (packet_bytes p))) refl
  where
    cases : (short : Bool) → ltb (length out) (length (packet_bytes p)) ≡ short → ReadAs p (take n after)
    cases true e = let a = rw e at w.answers in impossible cc
    cases false e =
        let a : Ok n ≡ Ok (length (packet_bytes p)) = rw e at w.answers in
        let size : n ≡ length (packet_bytes p) = cc in
        let put : after ≡ put_at out 0 (packet_bytes p) = rw e at w.put in
        let fits = ltb-false (length out) (length (packet_bytes p)) e in
        let first : take n after ≡ packet_bytes p = put_told out after (packet_bytes p) n put size fits in
        read_as p (take n after) (ap packet_of first ∙ packet_back p empty)

-- THEOREMS. 01, Items and packets, the four requests: behind a call of the writer that answered n, the first n bytes of its output are read
-- as its packet.
module _ (id : ℕ) (before : List ℕ) (n : ℕ) (after : List ℕ) where
  pub property_get_back : (name : List ℕ) → PropertyGetCall id name before (Ok n) after → ReadAs (get_packet id name) (take n after)
  unfolding property_get get_packet name_item eofs_empty empty_if_eof
  property_get_back name c = written_back (get_packet id name) (valid_name name) bad_name before after n refl (get_was_written c)

  pub file_request_back : (location : List ℕ) (offset : Option ℕ) → FileRequestCall id location offset before (Ok n) after
      → ReadAs (file_packet id location offset) (take n after)
  unfolding file_request file_packet location_item offset_item offset_items eofs_empty empty_if_eof
  file_request_back location (Some place) c =
      written_back (file_packet id location (Some place)) (valid_location location) bad_fragment before after n refl (file_was_written c)
  file_request_back location None c =
      written_back (file_packet id location None) (valid_location location) bad_fragment before after n refl (file_was_written c)

  pub fetched_back : (location : List ℕ) → FetchedCall id location before (Ok n) after → ReadAs (fetched_packet id location) (take n after)
  unfolding fetched_request fetched_packet location_item eofs_empty empty_if_eof
  fetched_back location c = written_back (fetched_packet id location) (valid_location location) bad_fragment before after n refl (fetched_was_written c)

  pub stop_back : StopCall id before (Ok n) after → ReadAs (stop_packet id) (take n after)
  unfolding stop_request stop_packet eofs_empty
  stop_back c = written_back (stop_packet id) true short_output before after n refl (stop_was_written c)

-- THEOREMS. With a valid name or location and room for the packet, every call writes it and answers its length.
module _ (id : ℕ) (before : List ℕ) (answer : Result ℕ Refusal) (after : List ℕ) where
  pub property_get_writes : (name : List ℕ) → valid_name name ≡ true → length (packet_bytes (get_packet id name)) ≤ length before
      → PropertyGetCall id name before answer after → WritesAs (written (packet_bytes (get_packet id name))) before answer after
  property_get_writes name valid room c = rw (get_fits id name (length before) valid room) at (get_was_written c)

  pub file_request_writes : (location : List ℕ) (offset : Option ℕ) → valid_location location ≡ true
      → length (packet_bytes (file_packet id location offset)) ≤ length before
      → FileRequestCall id location offset before answer after → WritesAs (written (packet_bytes (file_packet id location offset))) before answer after
  file_request_writes location offset valid room c = rw (file_fits id location offset (length before) valid room) at (file_was_written c)

  pub fetched_writes : (location : List ℕ) → valid_location location ≡ true → length (packet_bytes (fetched_packet id location)) ≤ length before
      → FetchedCall id location before answer after → WritesAs (written (packet_bytes (fetched_packet id location))) before answer after
  fetched_writes location valid room c = rw (fetched_fits id location (length before) valid room) at (fetched_was_written c)

  pub stop_writes : length (packet_bytes (stop_packet id)) ≤ length before → StopCall id before answer after
      → WritesAs (written (packet_bytes (stop_packet id))) before answer after
  stop_writes room c = rw (stop_fits id (length before) room) at (stop_was_written c)

-- the four bytes of an Offset item are the offset, high byte first
pub offset_back : (offset : ℕ) → word_of (offset_item offset).value ≡ offset
unfolding offset_item
offset_back offset = word_back 3 offset
