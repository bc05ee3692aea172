-- Two strings that differ only within 16 adjacent bits have different checks: what these bits differ by is a number, which all later bits only move
-- on, and no bit moves it to 0, since the polynomial is odd.
use mathlib.Core.Path.{◌≡◌, refl, sym, ap, ap₂, ◌∙◌}
use mathlib.Core.Bool.{Bool}
use mathlib.Core.List.{List, ◌++◌}
use Prim.Native.Nat.{ℕ, zero, suc, ◌+◌, ◌*◌, ◌/◌, ◌%◌, ◌≤◌, ◌<◌}
use native.Mathlib.Nat.{zero-add}
use native.Mathlib.Omega.{arith}
use lib.Bits.{bit_xor, xor_lt, xor_self, xor_comm}
use lib.ListN.{length}
use Rattle.slices.specs.Bits.{bits_of, Bytes}
use Rattle.slices.specs.Difference.{DifferWithin}
use Rattle.slices.proofs.BitLaws.{bits_differ}
use Rattle.slices.proofs.DigitLaws.{in_digits, digits_small, same_digits}
use Rattle.slices.proofs.XorLaws.{xor_none, xor_added}
use Rattle.crc.specs.Crc.{polynomial, shift_bit, shift_bits, crc_of}
use Rattle.crc.specs.Burst.{burst_bits, Burst}
use Rattle.crc.proofs.BitByBit.{add_bits, add_append, at_once, moved_on, crc_bits}
use Rattle.crc.proofs.LinearLaws.{shift_sum, shifts_xor}

shift_small : (r : ℕ) → shift_bit r < 0x10000
shift_small r = rw shift_sum (xor_lt 16 (r % 0x8000 * 2) (r / 0x8000 % 2 * polynomial) (omega arith) (omega arith))

-- the polynomial is odd, so it is no register that was moved up by a place
nothing_left : (stays falls : ℕ) → falls < 2 → stays * 2 ≡ falls * polynomial → (stays ≡ 0) × (falls ≡ 0)
nothing_left stays zero h e = (omega arith, refl)
nothing_left stays (suc zero) h e = absurd (omega arith)
nothing_left stays (suc (suc more)) h e = absurd (omega arith)

shift_none : (r : ℕ) → r < 0x10000 → shift_bit r ≡ 0 → r ≡ 0
shift_none r small e =
    let none = nothing_left (r % 0x8000) (r / 0x8000 % 2) (omega arith)
    (xor_none (r % 0x8000 * 2) (r / 0x8000 % 2 * polynomial) (sym (shift_sum r) ∙ e)) in
    omega (arith, none.0, none.1)

shifts_none : (n r : ℕ) → r < 0x10000 → shift_bits n r ≡ 0 → r ≡ 0
unfolding shift_bits
shifts_none zero r small e = e
shifts_none (suc n) r small e = shift_none r small (shifts_none n (shift_bit r) (shift_small r) e)

shifts_on : (n m r : ℕ) → shift_bits n (shift_bits m r) ≡ shift_bits (m + n) r
unfolding shift_bits
shifts_on n zero r = ap (λ (k : ℕ). shift_bits k r) (sym (zero-add n))
shifts_on n (suc m) r =
    let more : suc m + n ≡ suc (m + n) = omega arith in
    shifts_on n m (shift_bit r) ∙ sym (ap (λ (k : ℕ). shift_bits k r) more)

-- what the checks of two strings of bits differ by, where up to 16 bits are others
window : (r : ℕ) (xs ys behind : List Bool) → length xs ≡ length ys → length xs ≤ 16
    → bit_xor (add_bits r (xs ++ behind)) (add_bits r (ys ++ behind)) ≡ shift_bits (length xs + length behind) (bit_xor (in_digits 16 xs) (in_digits 16 ys))
window r xs ys behind same short =
    let other : length ys ≤ 16 = omega arith in
    let number : ℕ = in_digits 16 xs in
    let number₁ : ℕ = in_digits 16 ys in
    ap₂ bit_xor (add_append r xs behind) (add_append r ys behind) ∙ moved_on behind (add_bits r xs) (add_bits r ys)
    ∙ ap (shift_bits (length behind))
    (ap₂ bit_xor (at_once xs r short) (at_once ys r other ∙ ap (λ (n : ℕ). shift_bits n (bit_xor r number₁)) (sym same))
    ∙ sym (shifts_xor (length xs) (bit_xor r number) (bit_xor r number₁))
    ∙ ap (shift_bits (length xs)) (ap₂ bit_xor (xor_comm r number) (xor_comm r number₁) ∙ xor_added number number₁ r))
    ∙ shifts_on (length behind) (length xs) (bit_xor number number₁)

same_window : (r : ℕ) (xs ys behind : List Bool) → length xs ≡ length ys → length xs ≤ 16 → add_bits r (xs ++ behind) ≡ add_bits r (ys ++ behind) → xs ≡ ys
same_window r xs ys behind same short e =
    let number : ℕ = in_digits 16 xs in
    let number₁ : ℕ = in_digits 16 ys in
    let small : bit_xor number number₁ < 0x10000 = xor_lt 16 number number₁ (digits_small 16 xs) (digits_small 16 ys) in
    let none : bit_xor (add_bits r (xs ++ behind)) (add_bits r (ys ++ behind)) ≡ 0 = rw e (xor_self (add_bits r (ys ++ behind))) in
    same_digits 16 xs ys same short
    (xor_none number number₁ (shifts_none (length xs + length behind) (bit_xor number number₁) small (sym (window r xs ys behind same short) ∙ none)))

bits_seen : (r : ℕ) (xs ys : List Bool) → DifferWithin burst_bits xs ys → add_bits r xs ≡ add_bits r ys → ⊥
bits_seen r xs ys d e =
    let first = ap (add_bits r) d.first ∙ add_append r d.before (d.part ++ d.behind) in
    let second = ap (add_bits r) d.second ∙ add_append r d.before (d.other ++ d.behind) in
    d.differ (same_window (add_bits r d.before) d.part d.other d.behind d.same_length d.adjacent (sym first ∙ e ∙ second))

-- the checks of two strings that differ, and only within 16 adjacent bits, differ
pub burst_seen : (start : ℕ) (xs ys : List ℕ) → Burst xs ys → crc_of start xs ≡ crc_of start ys → ⊥
burst_seen start xs ys b e =
    bits_seen start (bits_of xs) (bits_of ys) b.damage (sym (crc_bits start xs b.bytes) ∙ e ∙ crc_bits start ys b.other_bytes)

-- two neighbouring bytes are 16 adjacent bits
pub pair_burst : (xs ys : List ℕ) → Bytes xs → Bytes ys → DifferWithin 2 xs ys → Burst xs ys
pair_burst xs ys h k d = record { bytes = h; other_bytes = k; damage = bits_differ 2 xs ys h k d }
