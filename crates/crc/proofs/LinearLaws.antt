-- The CRC is linear: the exclusive-or of two registers goes through each bit, each byte and each string.
use mathlib.Core.Path.{◌≡◌, refl, sym, ap, ap₂, ◌∙◌}
use mathlib.Core.List.{List, [], ◌∷◌}
use Prim.Native.Nat.{ℕ, zero, suc, ◌*◌, ◌/◌, ◌%◌, ◌<◌}
use native.Mathlib.Nat.{suc_inj}
use native.Mathlib.Omega.{arith}
use lib.Bits.{bit_xor, xor_mod, xor_shr}
use lib.ListN.{length}
use Rattle.slices.specs.ExclusiveOr.{xor_of}
use Rattle.slices.proofs.XorLaws.{xor_swap, xor_shl}
use Rattle.crc.specs.Crc.{polynomial, shift_bit, shift_bits, add_byte, crc_of}
use Rattle.crc.proofs.FallingBit.{times_bit}

pub shift_sum : (r : ℕ) → shift_bit r ≡ bit_xor (r % 0x8000 * 2) (r / 0x8000 % 2 * polynomial)
unfolding shift_bit
shift_sum r = times_bit (r % 0x8000 * 2) (r / 0x8000 % 2) (omega arith)

bits_times : (x y : ℕ) → x < 2 → y < 2 → bit_xor x y * polynomial ≡ bit_xor (x * polynomial) (y * polynomial)
bits_times zero y h k = refl
bits_times (suc zero) zero h k = refl
bits_times (suc zero) (suc zero) h k = refl
bits_times (suc zero) (suc (suc y)) h k = absurd (omega arith)
bits_times (suc (suc x)) y h k = absurd (omega arith)

-- one bit: what stays and what falls out are each the exclusive-or of the two registers' parts
pub shift_xor : (q r : ℕ) → shift_bit (bit_xor q r) ≡ bit_xor (shift_bit q) (shift_bit r)
shift_xor q r =
    shift_sum (bit_xor q r) ∙ ap₂ bit_xor stays falls ∙ xor_swap (q % 0x8000 * 2) (r % 0x8000 * 2) (q / 0x8000 % 2 * polynomial) (r / 0x8000 % 2 * polynomial)
    ∙ sym (ap₂ bit_xor (shift_sum q) (shift_sum r))
  where
    stays : bit_xor q r % 0x8000 * 2 ≡ bit_xor (q % 0x8000 * 2) (r % 0x8000 * 2)
    stays = ap (λ (x : ℕ). x * 2) (xor_mod q r 15) ∙ sym (xor_shl 1 (q % 0x8000) (r % 0x8000))

    falls : bit_xor q r / 0x8000 % 2 * polynomial ≡ bit_xor (q / 0x8000 % 2 * polynomial) (r / 0x8000 % 2 * polynomial)
    falls =
        ap (λ (x : ℕ). x % 2 * polynomial) (xor_shr q r 15) ∙ ap (λ (x : ℕ). x * polynomial) (xor_mod (q / 0x8000) (r / 0x8000) 1)
        ∙ bits_times (q / 0x8000 % 2) (r / 0x8000 % 2) (omega arith) (omega arith)

pub shifts_xor : (n q r : ℕ) → shift_bits n (bit_xor q r) ≡ bit_xor (shift_bits n q) (shift_bits n r)
unfolding shift_bits
shifts_xor zero q r = refl
shifts_xor (suc n) q r = ap (shift_bits n) (shift_xor q r) ∙ shifts_xor n (shift_bit q) (shift_bit r)

pub add_xor : (q r a b : ℕ) → add_byte (bit_xor q r) (bit_xor a b) ≡ bit_xor (add_byte q a) (add_byte r b)
unfolding add_byte
add_xor q r a b =
    ap (λ (x : ℕ). shift_bits 8 (bit_xor (bit_xor q r) x)) (sym (xor_shl 8 a b)) ∙ ap (shift_bits 8) (xor_swap q r (a * 0x100) (b * 0x100))
    ∙ shifts_xor 8 (bit_xor q (a * 0x100)) (bit_xor r (b * 0x100))

-- two strings of equal length, each from a start value of its own
pub crc_xor : (q r : ℕ) (xs ys : List ℕ) → length xs ≡ length ys → crc_of (bit_xor q r) (xor_of xs ys) ≡ bit_xor (crc_of q xs) (crc_of r ys)
unfolding crc_of xor_of
crc_xor q r [] [] same = refl
crc_xor q r [] (y ∷ ys) same = absurd (omega arith)
crc_xor q r (x ∷ xs) [] same = absurd (omega arith)
crc_xor q r (x ∷ xs) (y ∷ ys) same =
    ap (λ (register : ℕ). crc_of register (xor_of xs ys)) (add_xor q r x y) ∙ crc_xor (add_byte q x) (add_byte r y) xs ys (suc_inj same)
