-- What a step over one bit adds to the register.
use mathlib.Core.Path.{◌≡◌, refl, sym}
use mathlib.Core.Bool.{cond}
use Prim.Native.Nat.{ℕ, zero, suc, ◌*◌, ◌<◌}
use native.Mathlib.Omega.{arith}
use lib.Bits.{bit_xor, xor_zero_r}
use lib.Dec.{eqb}
use Rattle.crc.specs.Crc.{polynomial}

-- what is added is the polynomial times the bit that falls out
pub times_bit : (shifted bit : ℕ) → bit < 2 → cond (eqb bit 1) (bit_xor shifted polynomial) shifted ≡ bit_xor shifted (bit * polynomial)
times_bit shifted zero h = sym (xor_zero_r shifted)
times_bit shifted (suc zero) h = refl
times_bit shifted (suc (suc more)) h = absurd (omega arith)
