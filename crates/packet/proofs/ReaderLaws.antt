-- The item reader, item by item: what is still to be read settles what it finds, and each of its steps leaves that as it was.
use mathlib.Core.Path.{◌≡◌, ◌∙◌}
use mathlib.Core.Bool.{Bool, true, false, cond}
use mathlib.Core.List.{List}
use Prim.Native.Nat.{ℕ, ◌+◌, ◌≤◌, ◌<◌}
use native.Mathlib.Omega.{arith}
use lib.Dec.{eqb}
use lib.ListN.{length, get_or, drop, length-drop, drop_of_length-le}
use lib.Seq.{drop-drop}
use Rattle.std.specs.Prelude.{Some, None}
use Rattle.packet.specs.Items.{Item, in_front, items_of}
use Rattle.packet.specs.Packet.{head_length}
use Rattle.packet.specs.Answers.{placed, past}
use Rattle.packet.specs.ReaderSteps.{item_from, no_items, with_item, tally_of}
use Rattle.packet.specs.declared.items.Item as code
use Rattle.packet.specs.declared.items.Survey.{Survey}
use Rattle.packet.proofs.ItemLaws.{good_end}
use Rattle.packet.proofs.FirstItem.{Begins, first_item, begins_room, whole, broken, begins_with, begins_not}
use Rattle.packet.proofs.SurveyLaws.{tally_from, tally_on, tally_first, tally_last, tally_broken}

counted : (count all : ℕ) (t : Bool) → count ≤ all → cond t (count + 1) count ≤ all + 1
counted count all true h = omega arith
counted count all false h = omega arith

-- where the reader stands in a packet: the items read so far are few enough to be counted, and what it finds from here on is what
-- there is to be found
pub record Reached (bytes : List ℕ) (kind : ℕ) (survey : Survey) (at : ℕ) : Type 0 where
  pub within : at ≤ length bytes
  pub few : survey.all ≤ at
  pub among : survey.count ≤ survey.all
  pub still : tally_from survey at kind (items_of (drop at bytes)) ≡ tally_of head_length kind (items_of (drop head_length bytes))

-- an item that the reader found at the place at: it lies behind that place, and once it is read the reader stands behind it
pub record Passed (bytes : List ℕ) (kind : ℕ) (survey : Survey) (at : ℕ) (item : code.Item) : Type 0 where
  pub further : at < item.start + item.length
  pub reached : Reached bytes kind (with_item survey item (eqb item.kind kind)) (item.start + item.length)

module _ (bytes : List ℕ) (kind : ℕ) where
  pub reached_first : head_length ≤ length bytes → Reached bytes kind no_items head_length
  reached_first long =
      record { within = long; few = omega arith; among = omega arith; still = tally_first head_length kind (items_of (drop head_length bytes)) }

  module _ (survey : Survey) (at : ℕ) (here : Reached bytes kind survey at) where
    -- neither the end nor an item
    pub reached_broken : at < length bytes → item_from at (drop at bytes) ≡ None → None ≡ tally_of head_length kind (items_of (drop head_length bytes))
    reached_broken more e =
        let some_left : 0 < length (drop at bytes) = simp length-drop (omega arith) in
        let none_read = broken (drop at bytes) some_left (begins_not at (drop at bytes) e) in
        rw (none_read, tally_broken survey at kind) at here.still

    -- the end
    pub reached_last : length bytes ≤ at → Some survey ≡ tally_of head_length kind (items_of (drop head_length bytes))
    reached_last ended = rw (drop_of_length-le bytes ended, good_end, tally_last survey at kind) at here.still

    module _ (item : code.Item) (e : item_from at (drop at bytes) ≡ Some item) where
      found : Begins at (drop at bytes) item
      found = begins_with at (drop at bytes) item e

      within : item.start + item.length ≤ length bytes
      within =
          let room : get_or (drop at bytes) 1 0 + 2 ≤ length (drop at bytes) = begins_room (drop at bytes) found.begins in
          omega (arith, length-drop at bytes, found.sized, found.starts, here.within)

      -- the items from here on are it and those behind it
      rest_read : items_of (drop at bytes) ≡ in_front (first_item (drop at bytes)) (items_of (drop (item.start + item.length) bytes))
      rest_read =
          let on : at + (get_or (drop at bytes) 1 0 + 2) ≡ item.start + item.length = omega (arith, found.sized, found.starts) in
          rw (drop-drop (get_or (drop at bytes) 1 0 + 2) at bytes, on) at (whole (drop at bytes) found.begins)

      still_told : (it : Item) → placed at it ≡ item → past at it ≡ item.start + item.length → it.kind ≡ item.kind
          → items_of (drop at bytes) ≡ in_front it (items_of (drop (item.start + item.length) bytes))
          → tally_from (with_item survey item (eqb item.kind kind)) (item.start + item.length) kind (items_of (drop (item.start + item.length) bytes)) ≡ tally_of head_length kind (items_of (drop head_length bytes))
      still_told it is passed kinded read =
          let next = tally_on survey at kind it (items_of (drop (item.start + item.length) bytes)) in
          (rw (← read, is, passed, kinded) at next) ∙ here.still

      pub item_read : Passed bytes kind survey at item
      item_read =
          record {
            further = omega (arith, found.starts);
            reached = record {
              within = within;
              few = omega (arith, here.few, found.starts);
              among = counted survey.count survey.all (eqb item.kind kind) here.among;
              still = still_told (first_item (drop at bytes)) found.is found.passed found.kinded rest_read;
            };
          }
