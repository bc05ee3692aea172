use mathlib.Core.Path.{◌≡◌, sym, ◌∙◌}
use Prim.Native.Nat.{◌/◌, ◌*◌, ◌≤◌}
use native.Mathlib.Omega.{arith}
use lib.ListN.{length}
use Rattle.std.specs.Simd.{first_chunks}
use Rattle.crc.proofs.CrcLaws.{all_added}
use Rattle.crc.proofs.ReadBytes.{pair_read}
use Rattle.crc.proofs.check_by_two.Goals as goal

pub loop-first-preserved : goal.loop-first-preserved
loop-first-preserved c =
    let parts : c.as_chunks.result.0.now ≡ first_chunks 2 (length c.args.bytes.now / 2) c.args.bytes.now = c.as_chunks.ensures.front in
    pair_read (length c.args.bytes.now / 2) c.args.bytes.now c.loop-first.first-index c.loop-first.register c.check_pair-register.result (omega arith) (omega arith)
    (rw (← parts) c.check_pair-register.ensures)
    ∙ c.loop-first.invariant

pub returns-then-is_empty : goal.returns-then-is_empty
returns-then-is_empty c =
    let all : length c.args.bytes.now ≤ c.loop-first.first-index * 2 = grind arith in
    sym (all_added c.loop-first.register c.args.bytes.now (c.loop-first.first-index * 2) all) ∙ c.loop-first.invariant
