use native.Mathlib.Omega.{arith}
use Rattle.slices.proofs.EachPut.{next_place, one_put, all_put}
use Rattle.frame.specs.Stuffing.{stuff_byte}
use Rattle.frame.proofs.writer.put_stuffed.Goals as goal

pub put_byte-to-requires : goal.put_byte-to-requires
put_byte-to-requires c =
    omega (arith, next_place stuff_byte _ _ _ _ _ _ c.loop-byte.invariant c.loop-byte-test.true)

pub loop-byte-preserved : goal.loop-byte-preserved
loop-byte-preserved c =
    one_put stuff_byte _ _ _ _ _ _ c.loop-byte.invariant c.loop-byte-test.true _ _ c.put_byte-to.ensures.0 c.put_byte-to.auto.out c.put_byte-to.ensures.1

pub returns : goal.returns
returns c = all_put stuff_byte _ _ _ _ _ _ c.loop-byte.invariant c.loop-byte-test.false
