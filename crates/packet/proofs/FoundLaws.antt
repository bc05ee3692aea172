-- The places that `find` and `behind` answer are those of the items: the value read there is the item's value. The items stand
-- one behind the other from the fifth byte on, so each place is the number of bytes before it.
use mathlib.Core.Path.{◌≡◌, refl, sym, ap, ◌∙◌}
use mathlib.Core.Bool.{Bool, true, false, cond}
use mathlib.Core.List.{List, [], ◌∷◌, ◌++◌, append_assoc}
use mathlib.Core.Option.{Option, none, some}
use Prim.Native.Nat.{ℕ, ◌+◌, ◌≤◌}
use native.Mathlib.Omega.{arith}
use lib.Dec.{eqb}
use lib.ListN.{length, take, drop, get_or, length-append, take-append-drop}
use lib.Seq.{take-append_seam, drop-append-add, length-take-le}
use Rattle.std.specs.Prelude.{Some, None}
use Rattle.refusals.specs.Numbers.{no_data_packet}
use Rattle.slices.proofs.Impossible.{impossible}
use Rattle.slices.specs.HighFirst.{pair_of}
use Rattle.packet.specs.Items.{Item, items_of, item_bytes, items_bytes, head_of, first_of, value_bytes, value_in, behind_of}
use Rattle.packet.specs.Packet.{refused, is_data, with_items, packet_of, judged_items, packet_items}
use Rattle.packet.specs.Answers.{Found, placed, past, head_in, find_in, behind_in, item_at}
use Rattle.packet.specs.declared.items.Item as code
use Rattle.packet.proofs.ItemLaws.{items_fill}
use Rattle.packet.proofs.PacketLaws.{data_length}

-- an answer whose item lies within the bytes and is the one wanted
pub record Reads (bytes : List ℕ) (found : Found) (item : Option Item) : Type 0 where
  pub same : item_at bytes found ≡ item
  pub within : (place : code.Item) → found ≡ Some place → place.start + place.length ≤ length bytes

nothing_reads : (bytes : List ℕ) → Reads bytes None none
unfolding item_at
nothing_reads bytes = record { same = refl; within = λ place e. impossible cc }

-- an item behind some bytes
module _ (before : List ℕ) (item : Item) (items : List Item) where
  placed_reads : Reads (before ++ items_bytes (item ∷ items)) (Some (placed (length before) item)) (some item)
  unfolding item_at placed items_bytes item_bytes
  placed_reads =
      record {
        same = rw (drop-append-add before (item.kind ∷ length item.value ∷ item.value ++ items_bytes items) 2, take-append_seam item.value (items_bytes items));
        within = λ place e.
            let s : length before + 2 ≡ place.start = cc in
            let n : length item.value ≡ place.length = cc in
            let outer : length (before ++ (item.kind ∷ length item.value ∷ item.value ++ items_bytes items)) ≡ length before + length (item.kind ∷ length item.value ∷ item.value ++ items_bytes items) = length-append before (item.kind ∷ length item.value ∷ item.value ++ items_bytes items) in
            let inner : length (item.value ++ items_bytes items) ≡ length item.value + length (items_bytes items) = length-append item.value (items_bytes items) in
            omega arith;
      }

  -- the items behind it stand behind its bytes too
  bytes_on : (before ++ item_bytes item) ++ items_bytes items ≡ before ++ items_bytes (item ∷ items)
  unfolding items_bytes
  bytes_on = append_assoc before (item_bytes item) (items_bytes items)

  place_on : length (before ++ item_bytes item) ≡ past (length before) item
  unfolding past item_bytes
  place_on =
      let e : length (before ++ (item.kind ∷ length item.value ∷ item.value)) ≡ length before + length (item.kind ∷ length item.value ∷ item.value) = length-append before (item.kind ∷ length item.value ∷ item.value) in
      omega arith

either : (t : Bool) (bytes : List ℕ) (f g : Found) (a b : Option Item) → Reads bytes f a → Reads bytes g b → Reads bytes (cond t f g) (cond t a b)
either true bytes f g a b r q = r
either false bytes f g a b r q = q

head_reads : (before : List ℕ) (items : List Item) → Reads (before ++ items_bytes items) (head_in (length before) items) (head_of items)
unfolding head_in head_of
head_reads before [] = nothing_reads (before ++ items_bytes [])
head_reads before (item ∷ items) = placed_reads before item items

first_reads : (kind : ℕ) (before : List ℕ) (items : List Item) → Reads (before ++ items_bytes items) (find_in (length before) kind items) (first_of kind items)
unfolding find_in first_of
first_reads kind before [] = nothing_reads (before ++ items_bytes [])
first_reads kind before (item ∷ items) =
    let rest = rw (bytes_on before item items, place_on before item items) at (first_reads kind (before ++ item_bytes item) items) in
    either (eqb item.kind kind) (before ++ items_bytes (item ∷ items)) (Some (placed (length before) item)) (find_in (past (length before) item) kind items) (some item) (first_of kind items) (placed_reads before item items) rest

behind_reads : (kind : ℕ) (before : List ℕ) (items : List Item) → Reads (before ++ items_bytes items) (behind_in (length before) kind items) (behind_of kind items)
unfolding behind_in behind_of
behind_reads kind before [] = nothing_reads (before ++ items_bytes [])
behind_reads kind before (item ∷ items) =
    let next = rw (bytes_on before item items, place_on before item items) at (head_reads (before ++ item_bytes item) items) in
    let rest = rw (bytes_on before item items, place_on before item items) at (behind_reads kind (before ++ item_bytes item) items) in
    either (eqb item.kind kind) (before ++ items_bytes (item ∷ items)) (head_in (past (length before) item) items) (behind_in (past (length before) item) kind items) (head_of items) (behind_of kind items) next rest

-- what holds of no items, and of the items behind a data packet's first four bytes, holds of a packet's items
module _ (bytes : List ℕ) (P : List Item → Type 0) (none_held_law : P []) (held : (items : List Item) → 4 ≤ length bytes → items_of (drop 4 bytes) ≡ some items → P items) where
  pub packet_items_law : P (packet_items bytes)
  unfolding packet_items packet_of judged_items with_items
  packet_items_law = cases (is_data bytes) (items_of (drop 4 bytes)) refl refl
    where
      cases : (t : Bool) (read : Option (List Item)) → is_data bytes ≡ t → items_of (drop 4 bytes) ≡ read → P (judged_items (cond t (with_items (get_or bytes 1 0) (pair_of (get_or bytes 2 0) (get_or bytes 3 0)) read) (refused no_data_packet)))
      cases false read h e = none_held_law
      cases true none h e = none_held_law
      cases true (some items) h e = held items (data_length bytes h) e

-- a packet's bytes are its first four and those of its items
split : (bytes : List ℕ) (items : List Item) → items_of (drop 4 bytes) ≡ some items → take 4 bytes ++ items_bytes items ≡ bytes
split bytes items e = rw (items_fill (drop 4 bytes) items e) (take-append-drop 4 bytes)

module _ (bytes : List ℕ) (kind : ℕ) where
  -- what `find` answers is the first item of the kind
  pub find_reads : Reads bytes (find_in 4 kind (packet_items bytes)) (first_of kind (packet_items bytes))
  unfolding find_in first_of
  find_reads =
      packet_items_law bytes (λ (items : List Item). Reads bytes (find_in 4 kind items) (first_of kind items)) (nothing_reads bytes)
      (λ items long e. rw (split bytes items e, length-take-le 4 bytes long) at (first_reads kind (take 4 bytes) items))

  -- the bytes at the place that `find` answers are the value of the first item of the kind
  pub value_found : (found : Found) → find_in 4 kind (packet_items bytes) ≡ found → value_bytes (item_at bytes found) ≡ value_in kind (packet_items bytes)
  unfolding value_in
  value_found found e = ap value_bytes (ap (item_at bytes) (sym e) ∙ find_reads.same)

  -- what `behind` answers is the item right behind it
  pub behind_found_reads : Reads bytes (behind_in 4 kind (packet_items bytes)) (behind_of kind (packet_items bytes))
  unfolding behind_in behind_of
  behind_found_reads =
      packet_items_law bytes (λ (items : List Item). Reads bytes (behind_in 4 kind items) (behind_of kind items)) (nothing_reads bytes)
      (λ items long e. rw (split bytes items e, length-take-le 4 bytes long) at (behind_reads kind (take 4 bytes) items))
