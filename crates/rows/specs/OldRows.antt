-- 02, C-20: "Watch lists of up to 16 names are read as before, to the same rows". An old display holds the sixteen rows of 01.
use Rattle.std.specs.Prelude.{ℕ, ◌-◌, ◌≡◌, [], take, drop, replicate}
use Rattle.rows.specs.Rows.{row_count, fresh_row}
use Rattle.rows.specs.declared.Board.{Board}

-- 01, The board: at most 16 names; the board holds sixteen rows
abbrev pub old_row_count : ℕ
old_row_count = 16

-- 02, C-20: the first sixteen rows of a board are those of an old display, and the rows behind them are unused
pub record SameRows (old board : Board) : Type 0 where
  pub first : take old_row_count board.rows ≡ old.rows
  pub others : drop old_row_count board.rows ≡ replicate (row_count - old_row_count) (fresh_row [])
