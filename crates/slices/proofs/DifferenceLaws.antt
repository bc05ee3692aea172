-- Lists that differ are not empty: what stands between their like parts is as long in both, and of no length there is one list alone.
use mathlib.Core.Path.{◌≡◌, refl, ap}
use mathlib.Core.List.{List, [], ◌∷◌, ◌++◌}
use Prim.Native.Nat.{ℕ, ◌<◌}
use native.Mathlib.Omega.{arith}
use lib.ListN.{length, length-append}
use Rattle.slices.specs.Difference.{DifferWithin}

pub differ_some : {A : Type 0} (size : ℕ) (xs ys : List A) → DifferWithin size xs ys → 0 < length ys
differ_some {A = A} size xs ys d = cases d.part d.other d.same_length d.differ (ap length d.second)
  where
    cases : (part other : List A) → length part ≡ length other → (part ≡ other → ⊥) → length ys ≡ length (d.before ++ (other ++ d.behind)) → 0 < length ys
    cases [] [] same differ whole = absurd (differ refl)
    cases [] (y ∷ other) same differ whole = absurd (omega arith)
    cases (x ∷ part) other same differ whole =
        omega (arith, whole, same, length-append d.before (other ++ d.behind), length-append other d.behind)
