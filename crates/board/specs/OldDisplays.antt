-- 02, C-20: "Watch lists of up to 16 names are read as before, to the same rows; an old display refuses a longer list with 15 and shows
-- none of it." An old display is that of 01: it reads by the definitions of WatchList, with 16 for the limit and for the number of rows.
use Rattle.std.specs.Prelude.{ℕ, ◌≡◌, cond, List, leb, length}
use Rattle.std.proofs.Math.Option.{Option, some, none}
use Rattle.rows.specs.OldRows.{old_row_count, SameRows}
use Rattle.rows.specs.Rows.{board_of}
use Rattle.board.specs.WatchList.{watch_names, as_watched, watch_board}
use Rattle.board.specs.declared.list.Watched.{Watched}

-- what an old display makes of a watch list as bytes
abbrev pub old_listed : List ℕ → Watched
old_listed fields = as_watched old_row_count (watch_names old_row_count fields)

-- and of one name more, on its board of the names before it
abbrev pub old_watched : List (List ℕ) → List ℕ → Watched
old_watched names name = watch_board old_row_count (board_of old_row_count names) name

-- the names, where they are no more than a limit
abbrev pub at_most : ℕ → Option (List (List ℕ)) → Option (List (List ℕ))
at_most limit (some names) = cond (leb (length names) limit) (some names) none
at_most limit none = none

-- read as before, to the same rows
pub record ReadAsBefore (old today : Watched) : Type 0 where
  pub answer : today.answer ≡ old.answer
  pub rows : SameRows old.board today.board
