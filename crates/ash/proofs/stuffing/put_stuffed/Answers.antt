use mathlib.Core.Path.{ap, ◌∙◌}
use Prim.Native.Nat.{◌+◌}
use native.Mathlib.Nat.{zero-add}
use native.Mathlib.Omega.{arith}
use Rattle.slices.proofs.EachPut.{next_place, one_put, all_put}
use Rattle.ash.specs.Stuffing.{stuff_byte}
use Rattle.ash.proofs.StuffLaws.{length_stuff}
use Rattle.ash.proofs.stuffing.put_stuffed.Goals as goal

pub overflow_add-to : goal.overflow_add-to
overflow_add-to c =
    omega (arith, next_place stuff_byte _ _ _ _ _ _ c.loop-byte.invariant c.loop-byte-test.true, length_stuff c.args.payload.now, c.put_byte-to.ensures.0)

pub loop-byte-preserved : goal.loop-byte-preserved
loop-byte-preserved c =
    one_put stuff_byte _ _ _ _ _ _ c.loop-byte.invariant c.loop-byte-test.true _ _ (ap (λ n. c.loop-byte.to + n) c.put_byte-to.ensures.0) c.put_byte-to.auto.out c.put_byte-to.ensures.1

pub returns : goal.returns
returns c =
    let all = all_put stuff_byte _ _ _ _ _ _ c.loop-byte.invariant c.loop-byte-test.false in
    (all.0 ∙ zero-add _, all.1)
