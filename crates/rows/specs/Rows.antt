-- 01, The board: the rows, ticks and updates.
use Rattle.std.specs.Prelude.{ℕ, zero, suc, ◌+◌, ◌-◌, cond, List, [], ◌∷◌, ◌++◌, map, ltb, ℤ, length, replicate}
use Rattle.std.specs.Prelude.{Some, None}
use Rattle.std.specs.declared.option.Option as rust
use Rattle.std.proofs.Math.Option.{Option, some, none}
use Rattle.slices.specs.FixedBytes.{fixed_of, shown}
use Rattle.rows.specs.declared.State.{State}
use Rattle.rows.specs.declared.State.TheVariants.{Never, Current, Silent}
use Rattle.rows.specs.declared.Row.{Row}
use Rattle.rows.specs.declared.Board.{Board}
use Rattle.rows.specs.Names.{used}

-- 02, C-20: the board holds forty rows, in place of 01's sixteen
abbrev pub row_count : ℕ
row_count = 40

-- 01, The board: each with its own name bytes; names have up to 27
abbrev pub name_room : ℕ
name_room = 27

-- 01, The board: at 30 the row is silent
abbrev pub silent_age : ℕ
silent_age = 30

-- the name of a row: as many of its name bytes as its length says
abbrev pub row_name : Row → List ℕ
row_name row = shown row.name

-- the names of all rows, that of an unused row is empty
abbrev pub row_names : Board → List (List ℕ)
row_names board = map row_name board.rows

-- the watched names
abbrev pub watched : Board → List (List ℕ)
watched board = used (row_names board)

-- the row with another state
abbrev pub with_state : State → Row → Row
with_state state row = record { name = row.name; state = state }

-- 01, The board: a tick adds 1 to each current age; at 30 the row is silent and shows no value
abbrev pub tick_state : State → State
tick_state Never = Never
tick_state (Current value age) = cond (ltb (age + 1) silent_age) (Current value (age + 1)) Silent
tick_state Silent = Silent

abbrev pub tick_row : Row → Row
tick_row row = with_state (tick_state row.state) row

-- the board with other rows
abbrev pub with_rows : Board → List Row → Board
with_rows board rows = record { rows = rows }

abbrev pub tick_board : Board → Board
tick_board board = with_rows board (map tick_row board.rows)

-- 01, The board: an accepted update makes it current with age 0
abbrev pub update_row : ℤ → Row → Row
update_row value row = with_state (Current value 0) row

-- a row that has had no update. Behind the name its bytes are 0.
abbrev pub fresh_row : List ℕ → Row
fresh_row name = record { name = fixed_of name_room name; state = Never }

-- the rows with f done to the one at place
unfoldable pub change_at : (Row → Row) → ℕ → List Row → List Row
change_at f place [] = []
change_at f zero (row ∷ rows) = f row ∷ rows
change_at f (suc place) (row ∷ rows) = row ∷ change_at f place rows

-- the board with another row at place
abbrev pub put_row : ℕ → Row → Board → Board
put_row place row board = with_rows board (change_at (λ (old : Row). row) place board.rows)

-- the board with the row at place updated
abbrev pub update_board : ℕ → ℤ → Board → Board
update_board place value board = with_rows board (change_at (update_row value) place board.rows)

-- 01, The board: the list's names first and in its order; the rows behind them, up to so many in all, are unused
abbrev pub board_of : ℕ → List (List ℕ) → Board
board_of count names = record { rows = map fresh_row (names ++ replicate (count - length names) []) }

-- how the code answers a place
abbrev pub as_place : Option ℕ → rust.Option ℕ
as_place (some row) = Some row
as_place none = None
