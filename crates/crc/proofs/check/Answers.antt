use mathlib.Core.Path.{◌≡◌, ◌∙◌}
use Prim.Native.Nat.{◌/◌}
use native.Mathlib.Omega.{arith}
use lib.ListN.{length}
use Rattle.std.specs.Simd.{first_chunks}
use Rattle.crc.proofs.ReadBytes.{part_read}
use Rattle.crc.proofs.check.Goals as goal

pub loop-eight-preserved : goal.loop-eight-preserved
loop-eight-preserved c =
    let parts : c.as_chunks.result.0.now ≡ first_chunks 8 (length c.args.bytes.now / 8) c.args.bytes.now = c.as_chunks.ensures.front in
    part_read 8 (length c.args.bytes.now / 8) c.args.bytes.now c.loop-eight.eight-index c.loop-eight.register c.add_eight-register.result (omega arith)
    (rw (← parts) c.add_eight-register.ensures)
    ∙ c.loop-eight.invariant
