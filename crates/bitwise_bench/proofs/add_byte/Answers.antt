use mathlib.Core.Path.{◌≡◌, ◌∙◌}
use Prim.Native.Nat.{ℕ, suc, ◌+◌, ◌-◌, ◌<◌}
use native.Mathlib.Omega.{arith}
use Rattle.crc.specs.Crc.{shift_bit, shift_bits, add_byte}
use Rattle.bitwise_bench.proofs.add_byte.Goals as goal

-- one bit less to shift
shift_one : (i r : ℕ) → i < 8 → shift_bits (8 - (i + 1)) (shift_bit r) ≡ shift_bits (8 - i) r
unfolding shift_bits
shift_one i r h =
    let e : 8 - i ≡ suc (8 - (i + 1)) = omega arith in
    rw e

pub loop-preserved : goal.loop-preserved
loop-preserved c = rw c.shift_bit-next.ensures (shift_one c.loop.counter c.loop.next (omega arith) ∙ c.loop.invariant)

pub returns : goal.returns
unfolding add_byte shift_bits
returns c =
    let none : 8 - c.loop.counter ≡ 0 = omega arith in
    rw none at c.loop.invariant
