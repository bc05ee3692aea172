-- `ash::stuffing::unstuff` meets its contract. The invariant says that what was unstuffed stands in the array and in front of what the
-- sent bytes left give.
use Rattle.ash.proofs.UnstuffLaws.{Held}
use Rattle.ash.proofs.stuffing.unstuff.Given as goal

abbrev pub invariant-loop-byte : goal.invariant-loop-byte
invariant-loop-byte l = Held l.sent l.initial.payload l.payload l.escaped l.byte-index l.held
