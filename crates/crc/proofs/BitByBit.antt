-- The check bit by bit: a string's bits go to the register one after the other. Up to 16 of them are a number that is added to it at once; and the
-- same bits move on what two registers differ by, whatever the bits are.
use mathlib.Core.Path.{◌≡◌, refl, sym, ap, ap₂, ◌∙◌}
use mathlib.Core.Bool.{Bool}
use mathlib.Core.List.{List, [], ◌∷◌, ◌++◌}
use Prim.Native.Nat.{ℕ, suc, ◌*◌, ◌≤◌, ◌<◌}
use native.Mathlib.Nat.{mod-eq_of_lt}
use native.Mathlib.Omega.{arith}
use lib.Bits.{bit_xor, xor_shifted, xor_zero_r, xor_assoc}
use lib.ListN.{length}
use Rattle.slices.specs.Bits.{low_bits, bits_of, Bytes}
use Rattle.slices.proofs.DigitLaws.{digit, in_digits, digits_small, digits_up, low_length, low_digits}
use Rattle.slices.proofs.XorLaws.{xor_added}
use Rattle.crc.specs.Crc.{shift_bit, shift_bits, add_byte, crc_of}
use Rattle.crc.proofs.CrcLaws.{shift_low}
use Rattle.crc.proofs.LinearLaws.{shift_xor}

-- a bit is added to the register's highest, which is then shifted out
abbrev pub add_bits : ℕ → List Bool → ℕ
add_bits r [] = r
add_bits r (bit ∷ bits) = add_bits (shift_bit (bit_xor r (digit bit * 0x8000))) bits

pub add_append : (r : ℕ) (xs ys : List Bool) → add_bits r (xs ++ ys) ≡ add_bits (add_bits r xs) ys
add_append r [] ys = refl
add_append r (x ∷ xs) ys = add_append (shift_bit (bit_xor r (digit x * 0x8000))) xs ys

-- up to 16 bits are added to the register at once, and shifted out
pub at_once : (bits : List Bool) (r : ℕ) → length bits ≤ 16 → add_bits r bits ≡ shift_bits (length bits) (bit_xor r (in_digits 16 bits))
unfolding shift_bits
at_once [] r h = sym (xor_zero_r r)
at_once (bit ∷ bits) r h =
    let first : ℕ = digit bit * 0x8000 in
    let rest : ℕ = in_digits 15 bits in
    at_once bits (shift_bit (bit_xor r first)) (omega arith)
    ∙ ap (shift_bits (length bits))
    (ap (bit_xor (shift_bit (bit_xor r first))) (sym (shift_low rest (digits_small 15 bits) ∙ digits_up 15 bits (omega arith)))
    ∙ sym (shift_xor (bit_xor r first) rest) ∙ ap shift_bit (xor_assoc r first rest ∙ ap (bit_xor r) (xor_shifted (digit bit) 15 rest (digits_small 15 bits))))

-- by the same bits what two registers differ by is only moved on
pub moved_on : (bits : List Bool) (q r : ℕ) → bit_xor (add_bits q bits) (add_bits r bits) ≡ shift_bits (length bits) (bit_xor q r)
unfolding shift_bits
moved_on [] q r = refl
moved_on (bit ∷ bits) q r =
    let added : ℕ = digit bit * 0x8000 in
    moved_on bits (shift_bit (bit_xor q added)) (shift_bit (bit_xor r added))
    ∙ ap (shift_bits (length bits)) (sym (shift_xor (bit_xor q added) (bit_xor r added)) ∙ ap shift_bit (xor_added q r added))

byte_bits : (r byte : ℕ) → byte < 0x100 → add_bits r (low_bits 8 byte) ≡ add_byte r byte
unfolding add_byte
byte_bits r byte h =
    at_once (low_bits 8 byte) r (omega (arith, low_length 8 byte))
    ∙ ap₂ (λ (n number : ℕ). shift_bits n (bit_xor r number)) (low_length 8 byte) (low_digits 8 8 byte ∙ ap (λ (x : ℕ). x * 0x100) (mod-eq_of_lt h))

pub crc_bits : (r : ℕ) (string : List ℕ) → Bytes string → crc_of r string ≡ add_bits r (bits_of string)
unfolding crc_of bits_of
crc_bits r [] h = refl
crc_bits r (byte ∷ bytes) h =
    crc_bits (add_byte r byte) bytes (λ i. h (suc i)) ∙ ap (λ (q : ℕ). add_bits q (bits_of bytes)) (sym (byte_bits r byte (h 0)))
    ∙ sym (add_append r (low_bits 8 byte) (bits_of bytes))
