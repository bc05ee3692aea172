-- 01, Frames: the 16-bit CRC with polynomial 0x1021, high bit first, nothing inverted. The start value is a parameter:
-- this link starts at 0xffff.
use Rattle.std.specs.Prelude.{ℕ, zero, suc, ◌*◌, ◌/◌, ◌%◌, cond, List, [], ◌∷◌, eqb}
use Rattle.std.specs.Int.Bits.{bit_xor}
use Rattle.slices.specs.HighFirst.{high_first}

-- the start value of this link's check
abbrev pub link_start : ℕ
link_start = 0xffff

abbrev pub polynomial : ℕ
polynomial = 0x1021

-- one bit: the register moves up by a place; where a 1 falls out at the top, the polynomial is added
unfoldable pub shift_bit : ℕ → ℕ
shift_bit r = cond (eqb (r / 0x8000 % 2) 1) (bit_xor (r % 0x8000 * 2) polynomial) (r % 0x8000 * 2)

-- n bits, one after the other
unfoldable pub shift_bits : ℕ → ℕ → ℕ
shift_bits zero r = r
shift_bits (suc n) r = shift_bits n (shift_bit r)

-- one byte: it is added to the register's high half, and its eight bits are shifted out, the high bit first
unfoldable pub add_byte : ℕ → ℕ → ℕ
add_byte r b = shift_bits 8 (bit_xor r (b * 0x100))

-- the CRC of a string of bytes, from the start value r
unfoldable pub crc_of : ℕ → List ℕ → ℕ
crc_of r [] = r
crc_of r (b ∷ bs) = crc_of (add_byte r b) bs

-- 01, Frames: the check goes out as two bytes, high byte first
abbrev pub check_bytes : ℕ → List ℕ
check_bytes c = high_first 2 c
