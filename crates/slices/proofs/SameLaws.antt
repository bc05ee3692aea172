-- `same_bytes` answers as `==` does: true exactly for equal lists.
use mathlib.Core.Path.{◌≡◌, refl, sym, ap, ◌∙◌}
use mathlib.Core.Bool.{Bool, true, false, cond, ◌&&◌}
use mathlib.Core.List.{List, [], ◌∷◌}
use Prim.Native.Nat.{ℕ}
use lib.Dec.{eqb}
use lib.ListN.{length}
use Rattle.std.specs.Cmp.Lexicographic.{pointwise}
use Rattle.std.proofs.lemmas.Bool.{false_from_ne_true}
use Rattle.std.proofs.lemmas.Slice.Eq.{bytes_eq-Decides}
use Rattle.slices.specs.Same.{same_bytes}

both : (t u : Bool) → (t && u) ≡ cond t u false
both true u = refl
both false u = refl

-- what `==` answers of two slices
pub same_pointwise : (a b : List ℕ) → pointwise eqb a b ≡ same_bytes a b
unfolding same_bytes
same_pointwise [] [] = refl
same_pointwise [] (y ∷ ys) = refl
same_pointwise (x ∷ xs) [] = refl
same_pointwise (x ∷ xs) (y ∷ ys) = ap (λ (rest : Bool). eqb x y && rest) (same_pointwise xs ys) ∙ both (eqb x y) (same_bytes xs ys)

-- the answer true says that the lists are equal
pub same_equal : (a b : List ℕ) → same_bytes a b ≡ true → a ≡ b
same_equal a b h = (bytes_eq-Decides a b).0 (same_pointwise a b ∙ h)

-- and equal lists get it
pub same_refl : (a : List ℕ) → same_bytes a a ≡ true
same_refl a = sym (same_pointwise a a) ∙ (bytes_eq-Decides a a).1 refl

-- lists of different lengths are not the same
pub same_lengths : (a b : List ℕ) → (length a ≡ length b → ⊥) → same_bytes a b ≡ false
same_lengths a b h = false_from_ne_true (same_bytes a b) (λ e. h (ap length (same_equal a b e)))
