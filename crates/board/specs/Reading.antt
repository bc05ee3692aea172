-- 01, Items and packets: the board's reading of a packet. All but the last part speaks of the watched names and the bytes
-- alone.
use Rattle.std.specs.Prelude.{ℕ, cond, ◌&&◌, List, eqb, ltb, ℤ, Ok, Err}
use Rattle.std.proofs.Math.Option.{Option, some, none}
use Rattle.refusals.specs.Numbers.{other_opcode, bad_name, bad_value, not_watched}
use Rattle.refusals.specs.declared.Refusal.{Refusal}
use Rattle.packet.specs.Names.{valid_name}
use Rattle.packet.specs.ItemTypes.{name_kind, eof_kind}
use Rattle.packet.specs.Items.{Item, count_of, first_of, behind_of}
use Rattle.packet.specs.Packet as judged
use Rattle.packet.specs.Packet.{Judged, packet_of}
use Rattle.rows.specs.Names.{place_of, is_in}
use Rattle.value.specs.Value.{value_of}
use Rattle.rows.specs.Rows.{row_names, watched, update_board}
use Rattle.rows.specs.declared.Board.{Board}
use Rattle.board.specs.declared.reading.Done.TheVariants as done
use Rattle.board.specs.declared.reading.Reading.{Reading}

-- 01, Items and packets: the board reads opcode 03
abbrev pub update_opcode : ℕ
update_opcode = 0x03

-- what a packet is to the board: refused, or with its request id an end mark or an update of a name
pub data Verdict : Type 0 where
  refused : Refusal → Verdict
  end_mark : ℕ → Verdict
  update : ℕ → List ℕ → ℤ → Verdict

-- 01, Items and packets: the item behind the Name is the value. A Name item with nothing behind it has no value.
unfoldable pub value_of_item : Option Item → Option ℤ
value_of_item none = none
value_of_item (some item) = value_of item.kind item.value

-- 01, Refusal numbers, 13: the value item is missing or bad
unfoldable pub with_value : ℕ → List ℕ → Option ℤ → Verdict
with_value id name none = refused bad_value
with_value id name (some value) = update id name value

-- 01, Refusal numbers, 12: Name missing, twice, or not a valid name
unfoldable pub with_name : ℕ → Option Item → Option ℤ → Verdict
with_name id none value = refused bad_name
with_name id (some item) value = cond (valid_name item.value) (with_value id item.value value) (refused bad_name)

-- items with one Name
unfoldable pub update_of : ℕ → List Item → Verdict
update_of id items = with_name id (first_of name_kind items) (value_of_item (behind_of name_kind items))

-- 01, Items and packets: no Name but an EOF item: an end mark. Otherwise exactly one Name.
unfoldable pub verdict_of_items : ℕ → List Item → Verdict
verdict_of_items id items =
    cond (eqb (count_of name_kind items) 0 && ltb 0 (count_of eof_kind items))
    (end_mark id)
    (cond (eqb (count_of name_kind items) 1) (update_of id items) (refused bad_name))

-- 01, Refusal numbers: 9 and 10 as the packet is judged, then 11, an opcode that this reader does not read
unfoldable pub verdict_of : Judged → Verdict
verdict_of (judged.refused r) = refused r
verdict_of (judged.packet p) = cond (eqb p.opcode update_opcode) (verdict_of_items p.id p.items) (refused other_opcode)

-- 01, Refusal numbers, 14: the name is not watched. It comes last in the order.
unfoldable pub if_watched : List (List ℕ) → Verdict → Verdict
if_watched names (refused r) = refused r
if_watched names (end_mark id) = end_mark id
if_watched names (update id name value) = cond (is_in name names) (update id name value) (refused not_watched)

-- what a packet is to a board that watches the names
unfoldable pub reading_of : List (List ℕ) → List ℕ → Verdict
reading_of names bytes = if_watched names (verdict_of (packet_of bytes))

-- 01, Refusal numbers: a refusal returns its number, the board stays as it was
abbrev pub refused_with : Board → Refusal → Reading
refused_with board r = record { board = board; answer = Err r }

-- 01, The board: an accepted update makes the row current with age 0
unfoldable pub updated : Board → ℕ → ℤ → Option ℕ → Reading
updated board id value (some row) = record { board = update_board row value board; answer = Ok (done.Updated row id) }
updated board id value none = refused_with board not_watched

-- what becomes of the board. At an end mark nothing changes.
unfoldable pub applied : Board → Verdict → Reading
applied board (refused r) = refused_with board r
applied board (end_mark id) = record { board = board; answer = Ok (done.EndMark id) }
applied board (update id name value) = updated board id value (place_of name (row_names board))

-- the board after a packet, and the answer
unfoldable pub read_board : Board → List ℕ → Reading
read_board board bytes = applied board (reading_of (watched board) bytes)
