-- 01, The board: the watch list is stored as tagged fields: one-byte tag, two-byte length (high byte first), value. Tag 01 is a name. At
-- most so many names as there are rows, 0 allowed, no name twice; a bad name, another tag or a cut field is refusal 15 too.
use Rattle.std.specs.Prelude.{ℕ, zero, suc, ◌≤◌, ◌≡◌, Bool, true, cond, not, ◌&&◌, List, [], ◌∷◌, ◌++◌, eqb, leb, ltb, length, take, Ok, Err}
use Rattle.std.proofs.Math.Option.{Option, some, none}
use Rattle.refusals.specs.Numbers.{bad_list}
use Rattle.slices.specs.HighFirst.{pair_of, high_first}
use Rattle.packet.specs.Names.{valid_name}
use Rattle.rows.specs.Names.{place_of, is_in}
use Rattle.rows.specs.Rows.{row_names, watched, fresh_row, put_row, board_of}
use Rattle.rows.specs.declared.Board.{Board}
use Rattle.board.specs.declared.list.Watched.{Watched}

-- whether a name may join the names before it: a valid name, none of them, and fewer than the limit before it
unfoldable pub may_join : ℕ → List (List ℕ) → List ℕ → Bool
may_join limit names name = valid_name name && (not (is_in name names) && ltb (length names) limit)

-- what a watch list says of its names: each is valid, none stands twice, and there are no more than the limit
unfoldable pub all_valid : List (List ℕ) → Bool
all_valid [] = true
all_valid (name ∷ names) = valid_name name && all_valid names

unfoldable pub distinct : List (List ℕ) → Bool
distinct [] = true
distinct (name ∷ names) = not (is_in name names) && distinct names

pub record Good (limit : ℕ) (names : List (List ℕ)) : Type 0 where
  pub valid : all_valid names ≡ true
  pub once : distinct names ≡ true
  pub few : length names ≤ limit

-- tag 01 is a name
abbrev pub name_tag : ℕ
name_tag = 0x01

-- whether a field is a whole name: the value is no longer than the rest behind the length
abbrev pub is_whole : ℕ → ℕ → List ℕ → Bool
is_whole tag size rest = eqb tag name_tag && leb size (length rest)

-- the names of the fields, behind those before them; none where a field is refused. `skip` bytes of a name that has joined
-- are passed over first.
unfoldable pub names_from : ℕ → ℕ → List (List ℕ) → List ℕ → Option (List (List ℕ))
names_from limit zero names [] = some names
names_from limit zero names (tag ∷ []) = none
names_from limit zero names (tag ∷ high ∷ []) = none
names_from limit zero names (tag ∷ high ∷ low ∷ rest) =
    cond (is_whole tag (pair_of high low) rest && may_join limit names (take (pair_of high low) rest))
    (names_from limit (pair_of high low) (names ++ (take (pair_of high low) rest ∷ [])) rest)
    none
names_from limit (suc skip) names [] = none
names_from limit (suc skip) names (byte ∷ rest) = names_from limit skip names rest

-- the names of a watch list, in its order, or none where it is refused
abbrev pub watch_names : ℕ → List ℕ → Option (List (List ℕ))
watch_names limit fields = names_from limit 0 [] fields

-- a name as a field, and names as a list of fields
abbrev pub name_field : List ℕ → List ℕ
name_field name = name_tag ∷ high_first 2 (length name) ++ name

unfoldable pub fields_of : List (List ℕ) → List ℕ
fields_of [] = []
fields_of (name ∷ names) = name_field name ++ fields_of names

-- how the code answers a watch list or a name that is refused
abbrev pub refused_with : Board → Watched
refused_with board = record { board = board; answer = Err bad_list }

abbrev pub accepted_with : Board → Watched
accepted_with board = record { board = board; answer = Ok tt }

-- the answer to a watch list: the board of its names, and where it is refused a board that shows nothing of it
abbrev pub as_watched : ℕ → Option (List (List ℕ)) → Watched
as_watched limit (some names) = accepted_with (board_of limit names)
as_watched limit none = refused_with (board_of limit [])

-- the board with the name in the row at place
abbrev pub join_board : Board → List ℕ → Option ℕ → Board
join_board board name (some place) = put_row place (fresh_row name) board
join_board board name none = board

-- one name more: in the first unused row, or refused with the board as it was
unfoldable pub watch_board : ℕ → Board → List ℕ → Watched
watch_board limit board name =
    cond (may_join limit (watched board) name) (accepted_with (join_board board name (place_of [] (row_names board)))) (refused_with board)
