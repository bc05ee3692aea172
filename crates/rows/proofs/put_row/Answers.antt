use Rattle.std.proofs.Common.{arith}
use Rattle.std.proofs.lemmas.Grind.{common_steps}
use Rattle.rows.proofs.RowLaws.{change_set, change_out}
use Rattle.rows.proofs.put_row.Goals as goal

pub returns-then-place-lt-ROWS : goal.returns-then-place-lt-ROWS
returns-then-place-lt-ROWS c = grind (arith, common_steps, change_set)

pub returns-else-place-lt-ROWS : goal.returns-else-place-lt-ROWS
returns-else-place-lt-ROWS c = grind (arith, common_steps, change_out)
