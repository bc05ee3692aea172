-- 01, File fragments: what a packet's items say as a fragment, and when they have a good form.
use Rattle.std.specs.Prelude.{ℕ, ◌+◌, Bool, cond, ◌&&◌, ◌||◌, List, leb, ltb, eqb, length, Some, None}
use Rattle.std.specs.declared.option.Option as rust
use Rattle.std.proofs.Math.Option.{Option, none, some}
use Rattle.slices.specs.HighFirst.{word_of}
use Rattle.packet.specs.ItemTypes.{binary_kind, offset_kind, length_kind, location_kind, eof_kind}
use Rattle.packet.specs.Items.{Item, count_of, value_in}
use Rattle.packet.specs.Names.{valid_location}

-- 01, File fragments: Offset and Length are unsigned, 1, 2 or 4 bytes. The high byte is first, as in all of 01.
unfoldable pub number_of : List ℕ → Option ℕ
number_of bytes =
    cond (eqb (length bytes) 1 || eqb (length bytes) 2 || eqb (length bytes) 4) (some (word_of bytes)) none

-- 01, File fragments: exactly one Location, one Offset, one Binary, at most one Length and at most one EOF, in any order,
-- and nothing else: these are all the items
unfoldable pub right_items : List Item → Bool
right_items items =
    eqb (count_of location_kind items) 1
    && eqb (count_of offset_kind items) 1
    && eqb (count_of binary_kind items) 1
    && leb (count_of length_kind items) 1
    && leb (count_of eof_kind items) 1
    && eqb (length items) (count_of length_kind items + count_of eof_kind items + 3)

-- whether there is an EOF item
unfoldable pub is_last : List Item → Bool
is_last items = ltb 0 (count_of eof_kind items)

-- 01, File fragments: empty Binary needs EOF
unfoldable pub right_binary : List Item → Bool
right_binary items = ltb 0 (length (value_in binary_kind items)) || is_last items

-- 01, Items and packets: locations have 1 to 64 bytes
unfoldable pub right_location : List Item → Bool
right_location items = valid_location (value_in location_kind items)

-- the length of the file, once a fragment has declared it
abbrev pub Declared : Type 0
Declared = rust.Option ℕ

-- the form of a fragment: where it is good, its offset, the length that it declares, and whether it is the last
pub data Form : Type 0 where
  good : (offset : ℕ) (declared : Declared) (last : Bool) → Form
  bad : Form

-- a fragment at the offset, with the length that its Length item declares
unfoldable pub declaring : ℕ → Bool → Option ℕ → Form
declaring offset last (some total) = good offset (Some total) last
declaring offset last none = bad

-- 01, File fragments: Length may stand only at offset 0
unfoldable pub form_at : List Item → Option ℕ → Form
form_at items none = bad
form_at items (some offset) =
    cond (eqb (count_of length_kind items) 0)
    (good offset None (is_last items))
    (cond (eqb offset 0) (declaring offset (is_last items) (number_of (value_in length_kind items))) bad)

-- 01, File fragments: all else is 20
unfoldable pub form_of : List Item → Form
form_of items =
    cond (right_items items && right_location items && right_binary items) (form_at items (number_of (value_in offset_kind items))) bad
