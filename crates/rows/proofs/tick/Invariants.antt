-- `rows::tick` meets its contract. The invariant: the rows before the present one are ticked, the others are as they
-- were.
use Rattle.std.proofs.Common.{◌≡◌, ◌++◌, take, drop}
use Rattle.std.specs.Prelude.{map}
use Rattle.rows.specs.Rows.{tick_row}
use Rattle.rows.proofs.tick.Given as goal

abbrev pub invariant-loop-row : goal.invariant-loop-row
invariant-loop-row l = l.row-items ≡ map tick_row (take l.row-index l.initial.row-items) ++ drop l.row-index l.initial.row-items
