-- The laws of the CRC hold from every start value: it goes byte by byte, so over joined strings it goes on where the first left
-- off; and the two check bytes clear the two halves of the register, so over content with its check it is 0.
use mathlib.Core.Path.{◌≡◌, refl, sym, ap, ap₂, ◌∙◌}
use mathlib.Core.List.{List, [], ◌∷◌, ◌++◌}
use Prim.Native.Nat.{ℕ, zero, suc, ◌+◌, ◌*◌, ◌/◌, ◌%◌, ◌^◌, ◌≤◌, ◌<◌}
use native.Mathlib.Numerals.{add-one}
use native.Mathlib.Omega.{arith}
use native.Mathlib.Nat.{mul_assoc, pow-succ', le-mul_of_pos_right, zero-add}
use lib.Bits.{bit_xor, xor_block, xor_self, xor_zero_r}
use lib.ListN.{length, take, drop, get_or, drop_of_length-le, take-append-drop}
use lib.Pow.{pow_pos}
use lib.Seq.{drop-cons, drop-drop}
use borrow.Author.Tests.{ne_eqb}
use Rattle.crc.specs.Crc.{shift_bit, shift_bits, add_byte, crc_of, check_bytes}

-- the CRC of two strings joined is the second's, started from the first's
pub crc_append : (r : ℕ) (xs ys : List ℕ) → crc_of r (xs ++ ys) ≡ crc_of (crc_of r xs) ys
unfolding crc_of
crc_append r [] ys = refl
crc_append r (b ∷ bs) ys = crc_append (add_byte r b) bs ys

-- one byte less to add
pub byte_added : (r : ℕ) (s : List ℕ) (i : ℕ) → i < length s → crc_of (add_byte r (get_or s i 0)) (drop (i + 1) s) ≡ crc_of r (drop i s)
unfolding crc_of
byte_added r s i h = rw (add-one, drop-cons s i 0 h)

-- n bytes less to add
pub part_added : (s : List ℕ) (i n r : ℕ) → crc_of (crc_of r (take n (drop i s))) (drop (i + n) s) ≡ crc_of r (drop i s)
part_added s i n r =
    ap (crc_of (crc_of r (take n (drop i s)))) (sym (drop-drop n i s))
    ∙ sym (crc_append r (take n (drop i s)) (drop n (drop i s))) ∙ ap (crc_of r) (take-append-drop n (drop i s))

-- nothing is left to add
pub all_added : (r : ℕ) (s : List ℕ) (i : ℕ) → length s ≤ i → crc_of r (drop i s) ≡ r
unfolding crc_of
all_added r s i h = rw (drop_of_length-le s h)

-- where no 1 falls out, a bit doubles the register
pub shift_low : (x : ℕ) → x < 0x8000 → shift_bit x ≡ x * 2
unfolding shift_bit
shift_low x h =
    let fallen : x / 0x8000 % 2 ≡ 1 → ⊥ = λ e. omega arith in
    rw (ne_eqb (x / 0x8000 % 2) 1 fallen) (omega arith)

-- n bits of which none falls out as a 1
shifts_low : (n x : ℕ) → x * 2 ^ n < 0x10000 → shift_bits n x ≡ x * 2 ^ n
unfolding shift_bits
shifts_low zero x h = omega arith
shifts_low (suc n) x h =
    let doubled : x * 2 ^ suc n ≡ x * 2 * 2 ^ n = rw (pow-succ' 2 n) (sym (mul_assoc x 2 (2 ^ n))) in
    let low : x * 2 ≤ x * 2 * 2 ^ n = le-mul_of_pos_right (x * 2) (pow_pos n) in
    rw (shift_low x (omega arith), doubled) (shifts_low n (x * 2) (omega arith))

-- a register whose high half has been added to itself there
high_cleared : (c : ℕ) → bit_xor c (c / 0x100 * 0x100) ≡ c % 0x100
high_cleared c =
    let whole : c ≡ c / 0x100 * 0x100 + c % 0x100 = omega arith in
    let high : c / 0x100 * 0x100 ≡ c / 0x100 * 0x100 + 0 = omega arith in
    ap₂ bit_xor whole high ∙ xor_block 8 (c / 0x100) (c / 0x100) (c % 0x100) 0 (omega arith) (omega arith)
    ∙ ap₂ (λ (x y : ℕ). x * 0x100 + y) (xor_self (c / 0x100)) (xor_zero_r (c % 0x100)) ∙ zero-add (c % 0x100)

-- the check bytes of a register take it to 0
pub residue : (c : ℕ) → crc_of c (check_bytes c) ≡ 0
unfolding crc_of add_byte
residue c =
    let low : ℕ = c % 0x100 in
    let first : add_byte c (c / 0x100) ≡ low * 0x100 =
    ap (shift_bits 8) (high_cleared c) ∙ shifts_low 8 low (omega arith) in
    ap (λ (r : ℕ). add_byte r low) first ∙ ap (shift_bits 8) (xor_self (low * 0x100)) ∙ shifts_low 8 0 (omega arith)

-- 01, Frames: over content with its check the CRC gives 0
pub crc_checked : (r : ℕ) (xs : List ℕ) → crc_of r (xs ++ check_bytes (crc_of r xs)) ≡ 0
crc_checked r xs = crc_append r xs (check_bytes (crc_of r xs)) ∙ residue (crc_of r xs)
