-- The laws of the board's reading, one for each way through the code: what the tests on the way say of the packet settles the
-- verdict.
use mathlib.Core.Path.{◌≡◌, refl, sym, ap, ◌∙◌}
use mathlib.Core.Bool.{Bool, true, false, cond, ◌&&◌}
use mathlib.Core.List.{List}
use mathlib.Core.Option.{Option, some, none}
use Prim.Native.Nat.{ℕ}
use lib.Dec.{eqb, ltb}
use lib.IntN.{ℤ}
use Rattle.std.specs.Prelude.{Some, None, Ok, Err}
use Rattle.value.specs.Value.{value_of, as_value}
use Rattle.value.proofs.ValueLaws.{value_number, value_bad}
use Rattle.board.specs.declared.reading.Reading.{Reading}
use Rattle.refusals.specs.Numbers.{other_opcode, bad_name, bad_value, not_watched}
use Rattle.packet.specs.ItemTypes.{name_kind, eof_kind}
use Rattle.packet.specs.Names.{between, valid_name}
use Rattle.packet.specs.Items.{Item, count_of, first_of, value_bytes, behind_of}
use Rattle.packet.specs.Packet.{head_length, Judged, packet_of, judged_items, packet_items}
use Rattle.packet.specs.Packet as judged
use Rattle.packet.specs.Answers.{Found, find_in, behind_in, item_at, look_at, look_by}
use Rattle.packet.specs.declared.items.Item as code
use Rattle.packet.specs.declared.reading.Look.{Look}
use Rattle.packet.proofs.FoundLaws.{find_reads, behind_found_reads}
use Rattle.rows.specs.Names.{place_of, is_some, is_in}
use Rattle.rows.specs.Rows.{row_names, watched}
use Rattle.rows.specs.declared.Board.{Board}
use Rattle.rows.proofs.NameLaws.{in_used}
use Rattle.board.specs.Reading.{update_opcode, refused, end_mark, update, value_of_item, with_value, with_name, update_of, verdict_of_items, verdict_of, if_watched, updated, applied, refused_with}
use Rattle.board.specs.ReadingSteps.{task_of_items, task_by, task_of, verdict_by, read_update}
use Rattle.board.specs.declared.reading.Task.TheVariants.{Finish, Apply}
use Rattle.board.proofs.NameLaws.{valid_fit}

-- a look that found the Names of the items
record Finds (bytes : List ℕ) (names : Look) (items : List Item) : Type 0 where
  number : names.count ≡ count_of name_kind items
  name : item_at bytes names.first ≡ first_of name_kind items
  value : item_at bytes names.behind ≡ behind_of name_kind items

-- by it the verdict is the one that the task comes to
module _ (bytes : List ℕ) where
  items_by_task : (names : Look) (items : List Item) → Finds bytes names items → verdict_of_items names.head.id items ≡ verdict_by bytes (task_of_items names (count_of eof_kind items))
  unfolding verdict_of_items task_of_items update_of
  items_by_task names items found =
      rw found.number (cases (eqb (count_of name_kind items) 0 && ltb 0 (count_of eof_kind items)) (eqb (count_of name_kind items) 1))
    where
      cases : (t u : Bool) → cond t (end_mark names.head.id) (cond u (update_of names.head.id items) (refused bad_name)) ≡ verdict_by bytes (cond t (Ok (Finish names.head.id)) (cond u (Ok (Apply names.head.id names.first names.behind)) (Err bad_name)))
      cases true u = refl
      cases false true = rw (found.name, found.value)
      cases false false = refl

  judged_by_task : (j : Judged) → item_at bytes (find_in head_length name_kind (judged_items j)) ≡ first_of name_kind (judged_items j)
      → item_at bytes (behind_in head_length name_kind (judged_items j)) ≡ behind_of name_kind (judged_items j)
      → verdict_of j ≡ verdict_by bytes (task_by (look_by name_kind j) (count_of eof_kind (judged_items j)))
  unfolding verdict_of look_by judged_items
  judged_by_task (judged.refused r) name value = refl
  judged_by_task (judged.packet p) name value = cases (eqb p.opcode update_opcode)
    where
      cases : (t : Bool) → cond t (verdict_of_items p.id p.items) (refused other_opcode) ≡ verdict_by bytes (cond t (task_of_items (look_at name_kind p) (count_of eof_kind p.items)) (Err other_opcode))
      cases true = items_by_task (look_at name_kind p) p.items (record { number = refl; name = name; value = value })
      cases false = refl

pub by_task : (bytes : List ℕ) → verdict_of (packet_of bytes) ≡ verdict_by bytes (task_of bytes)
unfolding packet_items
by_task bytes = judged_by_task bytes (packet_of bytes) (find_reads bytes name_kind).same (behind_found_reads bytes name_kind).same

-- without a Name there are no bytes, which are no valid name
by_name : (id : ℕ) (name : Option Item) (value : Option ℤ) → with_name id name value ≡ cond (valid_name (value_bytes name)) (with_value id (value_bytes name) value) (refused bad_name)
unfolding with_name value_bytes valid_name between
by_name id none value = refl
by_name id (some item) value = refl

module _ (board : Board) (id : ℕ) (packet : List ℕ) (name behind : Found) where
  abbrev item : Found → Option Item
  item found = item_at packet found

  abbrev answer : Reading
  answer = read_update board id (item name) (item behind)

  -- the Name's bytes, and by them the verdict
  module _ {bytes : List ℕ} (there : bytes ≡ value_bytes (item name)) where
    named : answer ≡ applied board (if_watched (watched board) (cond (valid_name bytes) (with_value id bytes (value_of_item (item behind))) (refused bad_name)))
    unfolding read_update
    named = rw (there, by_name id (item name) (value_of_item (item behind)))

    pub update_bad_name : false ≡ valid_name bytes → refused_with board bad_name ≡ answer
    unfolding if_watched applied
    update_bad_name bad = rw (named, ← bad)

    module _ (valid : true ≡ valid_name bytes) where
      no_value : value_of_item (item behind) ≡ none → refused_with board bad_value ≡ answer
      unfolding with_value if_watched applied
      no_value bad = rw (named, ← valid, bad)

      -- nothing behind the Name
      pub update_ends : behind ≡ None → refused_with board bad_value ≡ answer
      unfolding item_at value_of_item
      update_ends nothing = no_value (rw nothing)

      -- the item behind it, with the bytes of its value
      module _ {found : code.Item} {value_there : List ℕ} (is : behind ≡ Some found) (at : value_there ≡ value_bytes (item (Some found))) where
        value_is : value_of_item (item behind) ≡ value_of found.kind value_there
        unfolding item_at value_of_item value_bytes
        value_is = rw (at, is)

        pub update_bad_value : None ≡ as_value (value_of found.kind value_there) → refused_with board bad_value ≡ answer
        update_bad_value bad = no_value (value_is ∙ value_bad _ (sym bad))

        -- no unused row has a valid name
        in_rows : is_in bytes (watched board) ≡ is_in bytes (row_names board)
        in_rows = in_used bytes (row_names board) (valid_fit bytes (sym valid)).some

        pub update_value : {value : ℤ} → Some value ≡ as_value (value_of found.kind value_there) → updated board id value (place_of bytes (row_names board)) ≡ answer
        unfolding with_value if_watched applied updated
        update_value {value} good =
            rw (named, ← valid, value_is, value_number _ value (sym good), in_rows) (cases (place_of bytes (row_names board)) refl)
          where
            cases : (o : Option ℕ) → place_of bytes (row_names board) ≡ o → updated board id value o ≡ applied board (cond (is_some o) (update id bytes value) (refused not_watched))
            cases (some row) e = sym (ap (updated board id value) e)
            cases none e = refl
