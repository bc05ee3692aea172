use native.Mathlib.Omega.{arith}
use Rattle.cutter.proofs.WalkLaws.{walks_on, walk_hands_on, walk_ends}
use Rattle.cutter.proofs.state.Cutter.walk.Goals as goal

pub returns-in-Some : goal.returns-in-Some
returns-in-Some c = walk_hands_on c.loop-i.invariant c.loop-i-test.true c.step.new.self c.in-Some.place c.in-Some.ensures

pub loop-i-preserved : goal.loop-i-preserved
loop-i-preserved c = walks_on c.loop-i.invariant c.loop-i-test.true c.step.new.self c.in_default.ensures

pub returns : goal.returns
returns c = walk_ends c.loop-i.invariant (omega arith)
