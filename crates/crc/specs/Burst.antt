-- 02, C-19: damage within 16 adjacent bits, high bit first.
use Rattle.std.specs.Prelude.{ℕ, List}
use Rattle.slices.specs.Bits.{bits_of, Bytes}
use Rattle.slices.specs.Difference.{DifferWithin}

abbrev pub burst_bits : ℕ
burst_bits = 16

-- two contents that differ so; contents are strings of bytes
pub record Burst (xs ys : List ℕ) : Type 0 where
  pub bytes : Bytes xs
  pub other_bytes : Bytes ys
  pub damage : DifferWithin burst_bits (bits_of xs) (bits_of ys)
