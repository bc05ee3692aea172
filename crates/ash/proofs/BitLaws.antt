-- What a mask leaves of a byte, as the definitions say it by division: each byte is tried.
use mathlib.Core.Path.{◌≡◌, refl}
use Prim.Native.Nat.{ℕ, ◌*◌, ◌/◌, ◌%◌, ◌<◌}
use lib.Bits.{bit_and}
use Rattle.crc.proofs.Values.{same_values}
use Rattle.ash.specs.Check.{without_bit4}

pub all_but_bit4 : (b : ℕ) → b < 0x100 → bit_and b 0xef ≡ without_bit4 b
all_but_bit4 = same_values (λ b. bit_and b 0xef) without_bit4 0x100 refl

pub bit6_alone : (b : ℕ) → b < 0x100 → bit_and b 0x40 ≡ b / 0x40 % 2 * 0x40
bit6_alone = same_values (λ b. bit_and b 0x40) (λ b. b / 0x40 % 2 * 0x40) 0x100 refl
