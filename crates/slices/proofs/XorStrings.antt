-- The exclusive-or of two strings of equal length has that length, and at each place the exclusive-or of the two bytes there; and that of
-- two numbers, as bytes, is that of their bytes.
use mathlib.Core.Path.{◌≡◌, refl, sym, ap, ap₂, ◌∙◌}
use mathlib.Core.List.{List, [], ◌∷◌, ◌++◌}
use Prim.Native.Nat.{ℕ, zero, suc, ◌/◌, ◌%◌}
use native.Mathlib.Nat.{suc_inj}
use native.Mathlib.Omega.{arith}
use lib.Bits.{bit_xor, xor_mod, xor_shr}
use lib.ListN.{length, get_or}
use Rattle.slices.specs.ExclusiveOr.{xor_of}
use Rattle.slices.specs.HighFirst.{high_first}
use Rattle.slices.proofs.HighFirstLaws.{high_length}

pub xor_length : (xs ys : List ℕ) → length xs ≡ length ys → length (xor_of xs ys) ≡ length xs
unfolding xor_of
xor_length [] ys same = refl
xor_length (x ∷ xs) [] same = absurd (omega arith)
xor_length (x ∷ xs) (y ∷ ys) same = ap suc (xor_length xs ys (suc_inj same))

pub xor_at : (xs ys : List ℕ) → length xs ≡ length ys → (i : ℕ) → get_or (xor_of xs ys) i 0 ≡ bit_xor (get_or xs i 0) (get_or ys i 0)
unfolding xor_of
xor_at [] [] same i = refl
xor_at [] (y ∷ ys) same i = absurd (omega arith)
xor_at (x ∷ xs) [] same i = absurd (omega arith)
xor_at (x ∷ xs) (y ∷ ys) same zero = refl
xor_at (x ∷ xs) (y ∷ ys) same (suc i) = xor_at xs ys (suc_inj same) i

-- one byte more behind both
xor_last : (xs ys : List ℕ) (x y : ℕ) → length xs ≡ length ys → xor_of (xs ++ (x ∷ [])) (ys ++ (y ∷ [])) ≡ xor_of xs ys ++ (bit_xor x y ∷ [])
unfolding xor_of
xor_last [] [] x y same = refl
xor_last [] (b ∷ ys) x y same = absurd (omega arith)
xor_last (a ∷ xs) [] x y same = absurd (omega arith)
xor_last (a ∷ xs) (b ∷ ys) x y same = ap (◌∷◌ (bit_xor a b)) (xor_last xs ys x y (suc_inj same))

pub high_xor : (count a b : ℕ) → high_first count (bit_xor a b) ≡ xor_of (high_first count a) (high_first count b)
unfolding xor_of
high_xor zero a b = refl
high_xor (suc zero) a b = refl
high_xor (suc (suc more)) a b =
    let same = high_length (suc more) (a / 256) ∙ sym (high_length (suc more) (b / 256)) in
    ap₂ (λ (bytes : List ℕ) (byte : ℕ). bytes ++ (byte ∷ []))
    (ap (high_first (suc more)) (xor_shr a b 8) ∙ high_xor (suc more) (a / 256) (b / 256)) (xor_mod a b 8)
    ∙ sym (xor_last (high_first (suc more) (a / 256)) (high_first (suc more) (b / 256)) (a % 256) (b % 256) same)
