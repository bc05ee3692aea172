-- One byte by the table. The byte is added to the register's high half, which falls out whole: what is left is the remainder of what fell
-- out, and the low half moved up.
use mathlib.Core.Path.{◌≡◌, refl, ap, ap₂, ◌∙◌}
use mathlib.Core.List.{List, [], ◌∷◌}
use Prim.Native.Nat.{ℕ, ◌*◌, ◌/◌, ◌%◌, ◌<◌}
use native.Mathlib.Omega.{arith}
use lib.Bits.{bit_xor, xor_lt}
use lib.ListN.{get_or}
use Rattle.slices.proofs.XorLaws.{xor_swap}
use Rattle.crc.specs.Crc.{shift_bit, shift_bits, add_byte, crc_of}
use Rattle.crc.specs.Table.{Remainders}
use Rattle.crc.proofs.LinearLaws.{add_xor}
use Rattle.crc.proofs.Values.{values, value_at}
use Rattle.crc.proofs.SingleBits.{Linear₂, linear_added, linear_down, linear_low, linear_then, linear_up, agree}

-- the rule holds of the table that is computed by it, and so of each that has these entries
pub computed_table : Remainders (values (λ byte. crc_of 0 (byte ∷ [])) 256)
computed_table = value_at (λ byte. crc_of 0 (byte ∷ [])) 256

-- what the code does with a table of remainders
abbrev index : ℕ → ℕ → ℕ
index r b = bit_xor (r / 0x100) b

abbrev fallen : ℕ → ℕ → ℕ
fallen r b = add_byte 0 (index r b)

abbrev moved : ℕ → ℕ
moved r = r % 0x100 * 0x100

abbrev by_table : ℕ → ℕ → ℕ
by_table r b = bit_xor (fallen r b) (moved r)

by_table_linear : Linear₂ by_table
by_table_linear q r a b =
    ap₂ bit_xor (linear_added (add_byte 0) (λ x. x / 0x100) (add_xor 0 0) (linear_down 8) q r a b)
    (linear_then (λ x. x % 0x100) (λ x. x * 0x100) (linear_low 8) (linear_up 8) q r)
    ∙ xor_swap (fallen q a) (fallen r b) (moved q) (moved r)

by_table_adds : (r b : ℕ) → r < 0x10000 → b < 0x100 → by_table r b ≡ add_byte r b
unfolding add_byte shift_bits shift_bit
by_table_adds = agree by_table add_byte by_table_linear add_xor 8 refl

-- one byte by the table
pub byte_by_table : (table : List ℕ) (r b : ℕ) → Remainders table → r < 0x10000 → b < 0x100
    → bit_xor (get_or table (index r b) 0) (moved r) ≡ add_byte r b
unfolding crc_of
byte_by_table table r b rule register byte =
    ap (λ (entry : ℕ). bit_xor entry (moved r)) (rule (index r b) (xor_lt 8 (r / 0x100) b (omega arith) byte)) ∙ by_table_adds r b register byte
