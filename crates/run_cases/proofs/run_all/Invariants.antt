-- `run_cases::run_all` ends, since each line is behind the one before it.
use Rattle.std.proofs.Common.{◌≡◌, ◌-◌, length}
use Rattle.run_cases.proofs.run_all.Given as goal

abbrev pub invariant-loop-at : goal.invariant-loop-at
invariant-loop-at g l = length l.file ≡ length l.initial.file

abbrev pub decreases-loop-at : goal.decreases-loop-at
decreases-loop-at g l = length l.text - l.at
