-- A number is spelled from its last digit on: each turn divides it by ten and puts a digit before those put so far, until one
-- digit is left.
use mathlib.Core.Path.{◌≡◌, refl, sym, ◌∙◌}
use mathlib.Core.List.{List, ◌∷◌}
use Prim.Native.Nat.{ℕ, zero, suc, ◌-◌, ◌/◌, ◌%◌, ◌≤◌, ◌<◌}
use native.Mathlib.Omega.{arith}
use borrow.Author.Tests.{lt-ltb, le-ltb}
use lib.ListN.{length, take, drop, set, length-set, length-drop}
use lib.Seq.{take_all}
use Rattle.std.proofs.lemmas.List.{drop-set}
use native.Mathlib.Numerals.{add-one}
use mathlib.Core.Bool.{true}
use lib.IntN.{ℤ, pos, negsuc, nat_abs}
use lib.Signed.{lt_z}
use mir.Syntax.{w64}
use mir.Val.{SFits, to_z, of_z}
use mir.ValLaws.{to_z-of_z}
use borrow.Author.Tests.{ltb-true}
use Rattle.history.specs.Numbers.{digit, digits_before, decimal_of, signed_of}

-- how far the spelling is: rest is still to be spelled, into the places before left, before what stands from there on
abbrev pub Spelling : ℕ → List ℕ → ℕ → ℕ → Type 0
Spelling number digits left rest = (length digits ≡ 20) × (digits_before left rest (drop left digits) ≡ decimal_of number)

-- what stands from a place on, in as many places as there are
abbrev pub text_from : ℕ → List ℕ → List ℕ
text_from first digits = take (20 - first) (drop first digits)

from_length : (first : ℕ) (digits : List ℕ) → length digits ≡ 20 → text_from first digits ≡ drop first digits
from_length first digits size = take_all (20 - first) (drop first digits) (simp length-drop (omega (arith, size)))

-- the last digit of the rest is put before them, and the rest is divided by ten
pub next_digit : (number : ℕ) (digits : List ℕ) (left rest : ℕ) → 0 < left → left ≤ 20 → (rest / 10 ≡ 0 → ⊥) → Spelling number digits left rest
    → Spelling number (set digits (left - 1) (digit (rest % 10))) (left - 1) (rest / 10)
unfolding digits_before
next_digit number digits zero rest some room more s = absurd (omega arith)
next_digit number digits (suc left) rest some room more s =
    let there : suc left - 1 ≡ left = omega arith in
    let behind = drop (suc left) digits in
    let step : digits_before (suc left) rest behind ≡ digits_before left (rest / 10) (digit (rest % 10) ∷ behind) = rw (le-ltb rest 10 (omega arith)) in
    rw there (simp length-set s.0, rw (drop-set digits left (digit (rest % 10)) (omega arith), add-one) (sym step ∙ s.1))

-- the first digit makes the text whole
pub first_digit : (number : ℕ) (digits : List ℕ) (left rest : ℕ) → 0 < left → left ≤ 20 → rest / 10 ≡ 0 → Spelling number digits left rest
    → text_from (left - 1) (set digits (left - 1) (digit (rest % 10))) ≡ decimal_of number
unfolding digits_before
first_digit number digits zero rest some room none s = absurd (omega arith)
first_digit number digits (suc left) rest some room none s =
    let there : suc left - 1 ≡ left = omega arith in
    let one : rest % 10 ≡ rest = omega arith in
    let whole : digits_before (suc left) rest (drop (suc left) digits) ≡ digit rest ∷ drop (suc left) digits = rw (lt-ltb rest 10 (omega arith)) in
    let all = from_length left (set digits left (digit rest)) (simp length-set s.0) in
    rw (there, one) (all ∙ rw (drop-set digits left (digit rest) (omega arith), add-one) (sym whole ∙ s.1))

-- and so do as many digits as there are places
pub all_digits : (number : ℕ) (digits : List ℕ) (left rest : ℕ) → left ≤ 0 → Spelling number digits left rest → text_from 0 digits ≡ decimal_of number
unfolding digits_before
all_digits number digits zero rest none s = from_length 0 digits s.0 ∙ s.1
all_digits number digits (suc left) rest none s = absurd (omega arith)

-- the text of a negative number
pub signed_negative : (z : ℤ) → SFits w64 z → lt_z (to_z w64 (of_z w64 z)) (pos 0) ≡ true → 45 ∷ decimal_of (nat_abs z) ≡ signed_of z
signed_negative (pos n) f e =
    let below = rw (to_z-of_z w64 (pos n) f) at e in
    let none : n < 0 = ltb-true n 0 below in
    absurd (omega arith)
signed_negative (negsuc n) f e = refl
