-- `cutter::state::Cutter::walk` meets its contract: the loop's invariant says what is still to be walked.
use Rattle.cutter.specs.Calls.{walk_of}
use Rattle.cutter.specs.Turns.{place_now}
use Rattle.cutter.proofs.WalkLaws.{Walking}
use Rattle.cutter.proofs.state.Cutter.walk.Given as goal

abbrev pub invariant-loop-i : goal.invariant-loop-i
invariant-loop-i l = Walking l.piece (walk_of l.piece (place_now l.initial.self) 0) l.self l.i
