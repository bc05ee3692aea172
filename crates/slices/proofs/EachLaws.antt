-- What is made byte by byte goes byte by byte: over joined strings, from a place on, and in its length.
use mathlib.Core.Path.{◌≡◌, refl, sym, ap, ◌∙◌}
use mathlib.Core.List.{List, [], ◌∷◌, ◌++◌, append_assoc}
use Prim.Native.Nat.{ℕ, ◌+◌, ◌*◌, ◌≤◌, ◌<◌}
use native.Mathlib.Numerals.{add-one}
use native.Mathlib.Omega.{arith}
use lib.ListN.{length, drop, get_or, length-append, drop_of_length-le}
use lib.Seq.{drop-cons}
use Rattle.slices.specs.Each.{each}

module _ (f : ℕ → List ℕ) where
  pub each_append : (xs ys : List ℕ) → each f (xs ++ ys) ≡ each f xs ++ each f ys
  unfolding each
  each_append [] ys = refl
  each_append (x ∷ xs) ys = rw (each_append xs ys) (sym (append_assoc (f x) (each f xs) (each f ys)))

  -- where no byte becomes more than two
  pub length_each : ((b : ℕ) → length (f b) ≤ 2) → (s : List ℕ) → length (each f s) ≤ 2 * length s
  unfolding each
  length_each most [] = omega arith
  length_each most (b ∷ bs) =
      let one = most b in
      let more = length_each most bs in
      rw length-append (omega arith)

  -- where each becomes one at least
  pub least_each : ((b : ℕ) → 1 ≤ length (f b)) → (s : List ℕ) → length s ≤ length (each f s)
  unfolding each
  least_each least [] = omega arith
  least_each least (b ∷ bs) =
      let one = least b in
      let more = least_each least bs in
      rw length-append (omega arith)

  -- the bytes from a place on: what the byte there becomes, then the rest
  module _ (s : List ℕ) (i : ℕ) where
    pub each_from : i < length s → each f (drop i s) ≡ f (get_or s i 0) ++ each f (drop (i + 1) s)
    unfolding each
    each_from h = rw (add-one, drop-cons s i 0 h)

    pub each_none : length s ≤ i → each f (drop i s) ≡ []
    unfolding each
    each_none h = rw (drop_of_length-le s h)

    -- and their number
    pub size_from : i < length s → length (each f (drop i s)) ≡ length (f (get_or s i 0)) + length (each f (drop (i + 1) s))
    size_from h = ap length (each_from h) ∙ length-append (f (get_or s i 0)) (each f (drop (i + 1) s))

    pub size_none : length s ≤ i → length (each f (drop i s)) ≡ 0
    size_none h = rw (each_none h)
