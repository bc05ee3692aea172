use mathlib.Core.Path.{sym, ◌∙◌}
use native.Mathlib.Omega.{arith}
use Rattle.crc.proofs.CrcLaws.{all_added, byte_added}
use Rattle.bitwise_bench.proofs.check.Goals as goal

pub loop-byte-preserved : goal.loop-byte-preserved
loop-byte-preserved c =
    rw c.add_byte-register.ensures (byte_added c.loop-byte.register c.args.bytes.now c.loop-byte.byte-index (omega arith) ∙ c.loop-byte.invariant)

pub returns : goal.returns
returns c = sym (all_added c.loop-byte.register c.args.bytes.now c.loop-byte.byte-index (omega arith)) ∙ c.loop-byte.invariant
