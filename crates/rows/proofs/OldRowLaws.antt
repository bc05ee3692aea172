-- Two boards that show the same entries have the same rows for them: the one with more rows has unused ones behind these.
use mathlib.Core.Path.{◌≡◌, sym, ap, ◌∙◌}
use mathlib.Core.List.{List, [], ◌++◌, map, append_assoc}
use Prim.Native.Nat.{ℕ, ◌+◌, ◌-◌, ◌≤◌}
use native.Mathlib.Omega.{arith}
use lib.ListN.{length, take, drop, replicate, length-append, length-map, length-replicate, replicate-append-replicate}
use lib.Seq.{take_at, drop_at}
use Rattle.rows.specs.Entries.{Entry, row_showing, board_showing, fresh_entry}
use Rattle.rows.specs.OldRows.{old_row_count, SameRows}
use Rattle.rows.specs.Rows.{row_count, fresh_row, board_of}
use Rattle.rows.specs.declared.Row.{Row}
use Rattle.rows.proofs.EntryLaws.{fresh_showing}

-- some rows, with unused ones behind them up to a number in all
module _ (rows : List Row) (small large : ℕ) (few : length rows ≤ small) (less : small ≤ large) where
  abbrev filled : ℕ → List Row
  filled count = rows ++ replicate (count - length rows) (fresh_row [])

  abbrev more : List Row
  more = replicate (large - small) (fresh_row [])

  filled_on : filled large ≡ filled small ++ more
  filled_on =
      let parts : (small - length rows) + (large - small) ≡ large - length rows = omega arith in
      ap (λ (k : ℕ). rows ++ replicate k (fresh_row [])) (sym parts)
      ∙ ap (λ (r : List Row). rows ++ r) (sym (replicate-append-replicate (small - length rows) (large - small) (fresh_row [])))
      ∙ sym (append_assoc rows (replicate (small - length rows) (fresh_row [])) more)

  filled_length : length (filled small) ≡ small
  filled_length =
      let unused = small - length rows in
      let all = length-append rows (replicate unused (fresh_row [])) in
      let rest = length-replicate unused (fresh_row []) in
      omega arith

  filled_first : take small (filled large) ≡ filled small
  filled_first = rw filled_on (take_at (filled small) more small filled_length)

  filled_others : drop small (filled large) ≡ more
  filled_others = rw filled_on (drop_at (filled small) more small filled_length)

-- 02, C-20: up to sixteen entries
pub same_rows : (es : List Entry) → length es ≤ old_row_count → SameRows (board_showing old_row_count es) (board_showing row_count es)
same_rows es few =
    let all = length-map es row_showing in
    let fit : length (map row_showing es) ≤ old_row_count = omega arith in
    record {
      first = rw all at (filled_first (map row_showing es) old_row_count row_count fit (omega arith));
      others = rw all at (filled_others (map row_showing es) old_row_count row_count fit (omega arith));
    }

-- 02, C-20: up to sixteen names
pub same_fresh : (names : List (List ℕ)) → length names ≤ old_row_count → SameRows (board_of old_row_count names) (board_of row_count names)
same_fresh names few =
    let all = length-map names fresh_entry in
    rw (fresh_showing old_row_count names, fresh_showing row_count names) (same_rows (map fresh_entry names) (omega arith))
