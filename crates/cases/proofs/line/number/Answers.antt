-- `cases::line::number` meets its contract: what folds the bytes is what makes the number of them.
use Rattle.std.proofs.Common.{rules}
use Rattle.cases.proofs.LineLaws.{number_fold}
use Rattle.cases.proofs.line.number.Goals as goal

pub returns : goal.returns
returns c = rw (number_fold 0 c.args.bytes.now) (search rules)
