-- `cases::line::bytes` meets its contract: each turn stores the byte of one group, and the groups behind it are left.
use Rattle.cases.specs.Line.{bytes_of}
use Rattle.cases.proofs.ReadingLaws.{Left}
use Rattle.cases.proofs.line.bytes.Given as goal

abbrev pub invariant-loop-count : goal.invariant-loop-count
invariant-loop-count l = Left (bytes_of l.initial.left) l.initial.out (bytes_of l.left) l.out l.count
