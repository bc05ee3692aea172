-- A string of bytes as bits, the high bit of each byte first.
use Rattle.std.specs.Prelude.{ℕ, zero, suc, ◌/◌, ◌%◌, ◌^◌, ◌<◌, Bool, List, [], ◌∷◌, ◌++◌, eqb, get_or}

-- the n low bits of a number, the highest of them first
unfoldable pub low_bits : ℕ → ℕ → List Bool
low_bits zero number = []
low_bits (suc n) number = eqb (number / 2 ^ n % 2) 1 ∷ low_bits n number

unfoldable pub bits_of : List ℕ → List Bool
bits_of [] = []
bits_of (byte ∷ bytes) = low_bits 8 byte ++ bits_of bytes

-- each of the numbers is a byte
abbrev pub Bytes : List ℕ → Type 0
Bytes string = (i : ℕ) → get_or string i 0 < 0x100
