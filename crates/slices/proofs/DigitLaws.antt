-- Bits as the digits of a number: with so many places there is one number for the bits, and one string of so many bits for a number.
use mathlib.Core.Path.{◌≡◌, refl, sym, ap, ap₂, ◌∙◌, subst}
use mathlib.Core.Bool.{Bool, true, false}
use mathlib.Core.List.{List, [], ◌∷◌}
use Prim.Native.Nat.{ℕ, zero, suc, ◌+◌, ◌*◌, ◌/◌, ◌%◌, ◌^◌, ◌≤◌, ◌<◌}
use native.Mathlib.Nat.{suc_inj, add-mul, mul_assoc, mul_comm, mod-one, pow-suc, zero-mul}
use native.Mathlib.Numerals.{one-add}
use native.Mathlib.Omega.{arith}
use lib.Arith.{digits_lt}
use lib.Dec.{eqb}
use lib.ListN.{length}
use lib.Pow.{pow_pos, pow-add, high, low, mod-pow-add}
use Rattle.slices.specs.Bits.{low_bits}

abbrev pub digit : Bool → ℕ
digit true = 1
digit false = 0

digit_small : (bit : Bool) → digit bit < 2
digit_small true = omega arith
digit_small false = omega arith

same_digit : (a b : Bool) → digit a ≡ digit b → a ≡ b
same_digit true true e = refl
same_digit true false e = absurd (omega arith)
same_digit false true e = absurd (omega arith)
same_digit false false e = refl

digit_of : (number : ℕ) → number < 2 → digit (eqb number 1) ≡ number
digit_of zero h = refl
digit_of (suc zero) h = refl
digit_of (suc (suc more)) h = absurd (omega arith)

-- the number whose highest of so many digits are the bits
abbrev pub in_digits : ℕ → List Bool → ℕ
in_digits places [] = 0
in_digits zero (bit ∷ bits) = 0
in_digits (suc places) (bit ∷ bits) = digit bit * 2 ^ places + in_digits places bits

pub digits_small : (places : ℕ) (bits : List Bool) → in_digits places bits < 2 ^ places
digits_small places [] = pow_pos places
digits_small zero (bit ∷ bits) = omega arith
digits_small (suc places) (bit ∷ bits) =
    subst (λ (limit : ℕ). digit bit * 2 ^ places + in_digits places bits < limit) (mul_comm 2 (2 ^ places) ∙ sym (pow-suc 2 places))
    (digits_lt (digit_small bit) (digits_small places bits))

-- one place more
pub digits_up : (places : ℕ) (bits : List Bool) → length bits ≤ places → in_digits places bits * 2 ≡ in_digits (suc places) bits
digits_up places [] h = refl
digits_up zero (bit ∷ bits) h = absurd (omega arith)
digits_up (suc places) (bit ∷ bits) h =
    add-mul (digit bit * 2 ^ places) (in_digits places bits) 2
    ∙ ap₂ (λ (x y : ℕ). x + y) (mul_assoc (digit bit) (2 ^ places) 2 ∙ ap (λ (x : ℕ). digit bit * x) (sym (pow-suc 2 places)))
    (digits_up places bits (omega arith))

pub same_digits : (places : ℕ) (xs ys : List Bool) → length xs ≡ length ys → length xs ≤ places → in_digits places xs ≡ in_digits places ys → xs ≡ ys
same_digits places [] [] same h e = refl
same_digits places [] (y ∷ ys) same h e = absurd (omega arith)
same_digits places (x ∷ xs) [] same h e = absurd (omega arith)
same_digits zero (x ∷ xs) (y ∷ ys) same h e = absurd (omega arith)
same_digits (suc places) (x ∷ xs) (y ∷ ys) same h e =
    ap₂ (λ (bit : Bool) (bits : List Bool). bit ∷ bits)
    (same_digit x y (sym (high (digit x) places (digits_small places xs)) ∙ ap (λ (number : ℕ). number / 2 ^ places) e ∙ high (digit y) places (digits_small places ys)))
    (same_digits places xs ys (suc_inj same) (omega arith)
    (sym (low (digit x) places (digits_small places xs)) ∙ ap (λ (number : ℕ). number % 2 ^ places) e ∙ low (digit y) places (digits_small places ys)))

pub low_length : (n number : ℕ) → length (low_bits n number) ≡ n
unfolding low_bits
low_length zero number = refl
low_length (suc n) number = ap suc (low_length n number)

-- a number's low bits, with so many places behind them
pub low_digits : (n places number : ℕ) → in_digits (n + places) (low_bits n number) ≡ number % 2 ^ n * 2 ^ places
unfolding low_bits
low_digits zero places number = sym (ap (λ (x : ℕ). x * 2 ^ places) (mod-one number) ∙ zero-mul (2 ^ places))
low_digits (suc n) places number =
    let bit = number / 2 ^ n % 2 in
    let more : suc n + places ≡ suc (n + places) = omega arith in
    ap (λ (k : ℕ). in_digits k (low_bits (suc n) number)) more
    ∙ ap₂ (λ (x y : ℕ). x * 2 ^ (n + places) + y) (digit_of bit (omega arith)) (low_digits n places number)
    ∙ ap (λ (x : ℕ). x + number % 2 ^ n * 2 ^ places) (ap (λ (x : ℕ). bit * x) (pow-add 2 n places) ∙ sym (mul_assoc bit (2 ^ n) (2 ^ places)))
    ∙ sym (add-mul (bit * 2 ^ n) (number % 2 ^ n) (2 ^ places)) ∙ ap (λ (x : ℕ). x * 2 ^ places) (sym (mod-pow-add number 1 n) ∙ ap (λ (k : ℕ). number % 2 ^ k) (one-add n))
