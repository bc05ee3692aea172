-- What a board shows: the name and the state of each row in use, in the rows' order. All that is said of boards above the
-- rows is said of this list and of the one board that shows it, so that a further field of a row changes nothing there.
use Rattle.std.specs.Prelude.{ℕ, ◌-◌, cond, List, [], ◌∷◌, ◌++◌, map, ℤ, length, replicate}
use Rattle.slices.specs.Same.{same_bytes}
use Rattle.rows.specs.Rows.{tick_state, with_state, fresh_row}
use Rattle.rows.specs.declared.Board.{Board}
use Rattle.rows.specs.declared.Row.{Row}
use Rattle.rows.specs.declared.State.{State}
use Rattle.rows.specs.declared.State.TheVariants.{Never, Current}

pub record Entry : Type 0 where
  pub name : List ℕ
  pub state : State

abbrev pub entry_name : Entry → List ℕ
entry_name entry = entry.name

-- the row that shows an entry
abbrev pub row_showing : Entry → Row
row_showing entry = with_state entry.state (fresh_row entry.name)

-- 01, The board: the list's names first and in its order; the rows behind them, up to so many in all, are unused
abbrev pub board_showing : ℕ → List Entry → Board
board_showing count entries = record { rows = map row_showing entries ++ replicate (count - length entries) (fresh_row []) }

-- 01, The board: a row is never until its first update
abbrev pub fresh_entry : List ℕ → Entry
fresh_entry name = record { name = name; state = Never }

-- 01, The board: a tick
abbrev pub tick_entry : Entry → Entry
tick_entry entry = record { name = entry.name; state = tick_state entry.state }

-- 01, The board: an accepted update makes the name's entry current with age 0
unfoldable pub update_entries : List ℕ → ℤ → List Entry → List Entry
update_entries name value [] = []
update_entries name value (entry ∷ entries) =
    cond (same_bytes entry.name name)
    (record { name = entry.name; state = Current value 0 } ∷ entries)
    (entry ∷ update_entries name value entries)
