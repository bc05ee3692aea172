use Rattle.std.proofs.Common.{arith}
use Rattle.cases.specs.Buffer.{byte_digits}
use Rattle.slices.proofs.EachPut.{one_put, all_put}
use Rattle.cases.proofs.buffer.put_digits.Goals as goal

pub loop-place-preserved : goal.loop-place-preserved
loop-place-preserved c =
    one_put byte_digits _ _ _ _ _ _ c.loop-place.invariant c.loop-place-test.true _ _ (omega arith) c.put.auto.dst (rw (c.digit.ensures, c.digit-in-loop-place.ensures) at c.put.ensures)

pub returns : goal.returns
returns c =
    let all = all_put byte_digits _ _ _ _ _ _ c.loop-place.invariant c.loop-place-test.false in
    (omega (arith, all.0, c.loop-place.invariant.within), all.1)
