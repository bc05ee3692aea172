use native.Mathlib.Omega.{arith}
use Rattle.slices.proofs.EachLaws.{size_from, size_none}
use Rattle.frame.specs.Stuffing.{stuff_byte}
use Rattle.frame.proofs.StuffLaws.{length_stuff}
use Rattle.frame.proofs.writer.stuffed_length.Goals as goal

pub overflow_add-total : goal.overflow_add-total
overflow_add-total c =
    omega (arith, size_from stuff_byte c.args.content.now c.loop-byte.byte-index c.loop-byte-test.true, length_stuff c.args.content.now)

pub loop-byte-preserved : goal.loop-byte-preserved
loop-byte-preserved c =
    omega (arith, size_from stuff_byte c.args.content.now c.loop-byte.byte-index c.loop-byte-test.true)

pub returns : goal.returns
returns c =
    omega (arith, size_none stuff_byte c.args.content.now c.loop-byte.byte-index c.loop-byte-test.false, length_stuff c.args.content.now)
