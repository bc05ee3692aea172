-- A law for callers: what a look at a packet for a kind answers, over the list of the packet's items. It is said of every call of `look_for`, by
-- the contract that the toolchain reads off the source (`Learnt`), and there is such a call for all bytes of any length.
use mathlib.Core.Path.{◌≡◌, refl, sym, ◌∙◌}
use mathlib.Core.List.{List}
use Prim.Native.Nat.{ℕ}
use lib.ListN.{length}
use Rattle.std.specs.Prelude.{Result, Ok, Err, None}
use Rattle.std.specs.Result.{result_map_both}
use Rattle.refusals.specs.declared.Refusal.{Refusal}
use Rattle.slices.proofs.Lent.{Slice, lent, InCall, in_call}
use Rattle.packet.specs.Items.{count_of, first_of, value_bytes, value_in, behind_of}
use Rattle.packet.specs.Packet.{head_length, Packet, packet, refused, packet_of, judged_items, packet_items}
use Rattle.packet.specs.Answers.{Found, head_of_packet, find_in, behind_in, item_at, look_at, look_by, look_of}
use Rattle.packet.proofs.PacketLaws.{seen, head_seen, all_seen, count_seen, first_seen, behind_seen}
use Rattle.packet.specs.declared.reading.Look.{Look}
use Rattle.packet.specs.declared.reading.Head.{Head}
use Rattle.packet.proofs.FoundLaws.{Reads, find_reads, value_found, behind_found_reads}
use Rattle.packet.proofs.RequestCalls.{ReadPacketCall, CountAllCall, ValueCall, packet_was_read, items_were_counted, value_was_read}
use Rattle.packet.proofs.reading.look_for.Reads as look_for
use Rattle.packet.proofs.reading.count.Reads as count
use Rattle.packet.proofs.reading.find.Reads as find
use Rattle.packet.proofs.reading.behind.Reads as behind
use Rattle.packet.proofs.reading.value_at.Reads as value_at

abbrev pub LookCall : (kind : ℕ) (bytes : List ℕ) (answer : Result Look Refusal) → Type 0
LookCall kind = InCall look_for.Asked look_for.Learnt (λ bytes. (bytes, (kind, tt)))

pub every_look_is_taken : (kind : ℕ) (bytes : List ℕ) → LookCall kind bytes (look_of kind bytes)
every_look_is_taken kind bytes = in_call tt refl

-- the look at a packet: its opcode and id, how many items it has and how many of the kind, the first of these and the item right behind it. An
-- item that is found lies within the packet, and its value is read there; at which place, the contract says (`find_in`, `behind_in`).
pub record LooksAt (kind : ℕ) (bytes : List ℕ) (p : Packet) (look : Look) : Type 0 where
  pub opened : look.head ≡ head_of_packet p
  pub counted : look.all ≡ length p.items
  pub of_the_kind : look.count ≡ count_of kind p.items
  pub first_one : Reads bytes look.first (first_of kind p.items)
  pub behind_it : Reads bytes look.behind (behind_of kind p.items)

-- an answer that is such a look
pub record Looked (kind : ℕ) (bytes : List ℕ) (p : Packet) (answer : Result Look Refusal) : Type 0 where
  pub look : Look
  pub is : answer ≡ Ok look
  pub tells : LooksAt kind bytes p look

module _ {kind : ℕ} {bytes : List ℕ} {answer : Result Look Refusal} (call : LookCall kind bytes answer) where
  taken : answer ≡ look_of kind bytes
  taken = rw call.input_lent.holds at call.learnt

  pub look_at_packet : (p : Packet) → packet_of bytes ≡ packet p → Looked kind bytes p answer
  unfolding look_by packet_items judged_items
  look_at_packet p e =
      let first = rw e at (find_reads bytes kind) in
      let behind = rw e at (behind_found_reads bytes kind) in
      record {
        look = look_at kind p;
        is = taken ∙ rw e;
        tells = record { opened = refl; counted = refl; of_the_kind = refl; first_one = first; behind_it = behind };
      }

  -- the look at a packet that is refused; that it has no items, the laws below say of each function that answers one thing alone
  pub look_at_refused : (r : Refusal) → packet_of bytes ≡ refused r → answer ≡ Err r
  unfolding look_by
  look_at_refused r e = taken ∙ rw e

-- each function that answers one thing alone answers what the look does
abbrev pub CountCall : (kind : ℕ) (bytes : List ℕ) (answer : ℕ) → Type 0
CountCall kind = InCall count.Asked count.Learnt (λ bytes. (bytes, (kind, tt)))

abbrev pub FindCall : (kind : ℕ) (bytes : List ℕ) (answer : Found) → Type 0
FindCall kind = InCall find.Asked find.Learnt (λ bytes. (bytes, (kind, tt)))

abbrev pub BehindCall : (kind : ℕ) (bytes : List ℕ) (answer : Found) → Type 0
BehindCall kind = InCall behind.Asked behind.Learnt (λ bytes. (bytes, (kind, tt)))

-- the answer of each, by the look's: where that is a refusal, `seen` gives nothing
module _ {kind : ℕ} {bytes : List ℕ} {look : Result Look Refusal} (call : LookCall kind bytes look) where
  pub reading_of_look : {answer : Result Head Refusal} → ReadPacketCall bytes answer → answer ≡ result_map_both (λ (look : Look). look.head) (λ r. r) look
  reading_of_look c = rw (taken call) (packet_was_read c ∙ head_seen kind (packet_of bytes))

  pub all_of_look : {answer : ℕ} → CountAllCall bytes answer → answer ≡ seen (λ look. look.all) 0 look
  unfolding packet_items
  all_of_look c = rw (taken call) (items_were_counted c ∙ sym (all_seen kind (packet_of bytes)))

  pub count_of_look : {answer : ℕ} → CountCall kind bytes answer → answer ≡ seen (λ look. look.count) 0 look
  unfolding packet_items
  count_of_look c = rw (taken call) ((rw c.input_lent.holds at c.learnt) ∙ sym (count_seen kind (packet_of bytes)))

  pub find_of_look : {answer : Found} → FindCall kind bytes answer → answer ≡ seen (λ look. look.first) None look
  unfolding packet_items
  find_of_look c = rw (taken call) ((rw c.input_lent.holds at c.learnt) ∙ sym (first_seen kind (packet_of bytes)))

  pub behind_of_look : {answer : Found} → BehindCall kind bytes answer → answer ≡ seen (λ look. look.behind) None look
  unfolding packet_items
  behind_of_look c = rw (taken call) ((rw c.input_lent.holds at c.learnt) ∙ sym (behind_seen kind (packet_of bytes)))

-- there is such a call for all bytes
module _ (kind : ℕ) (bytes : List ℕ) where
  pub every_kind_is_counted : CountCall kind bytes (count_of kind (packet_items bytes))
  every_kind_is_counted = in_call tt refl

  pub every_first_is_found : FindCall kind bytes (find_in head_length kind (packet_items bytes))
  every_first_is_found = in_call tt refl

  pub every_next_is_found : BehindCall kind bytes (behind_in head_length kind (packet_items bytes))
  every_next_is_found = in_call tt refl

-- the bytes of an item: of one that a look found they are its value, and so what `value` answers
abbrev pub ValueAtCall : (item : Found) (bytes : List ℕ) (answer : Slice) → Type 0
ValueAtCall item = InCall value_at.Asked value_at.Learnt (λ bytes. (bytes, (item, tt)))

pub every_item_is_read : (item : Found) (bytes : List ℕ) → ValueAtCall item bytes (lent (value_bytes (item_at bytes item))).slice
every_item_is_read item bytes = in_call tt refl

pub value_of_item : {item : Found} {bytes : List ℕ} {answer : Slice} → ValueAtCall item bytes answer → answer.now ≡ value_bytes (item_at bytes item)
value_of_item c = rw c.input_lent.holds at c.learnt

module _ {kind : ℕ} {bytes : List ℕ} {look : Result Look Refusal} {answer : Slice} (call : LookCall kind bytes look) (c : ValueAtCall (seen (λ look. look.first) None look) bytes answer) where
  pub value_of_look : answer.now ≡ value_in kind (packet_items bytes)
  unfolding packet_items
  value_of_look = value_of_item c ∙ value_found bytes kind (seen (λ look. look.first) None look) (rw (taken call) (sym (first_seen kind (packet_of bytes))))

  pub value_alike : {other : Slice} → ValueCall kind bytes other → other.now ≡ answer.now
  value_alike v = value_was_read v ∙ sym value_of_look
