-- The bytes of a string are put one after the other, each as what it becomes. What is still to do is the bytes left, put from the present
-- place on: that gives what the whole string put at the first place gives.
use mathlib.Core.Path.{◌≡◌, ◌∙◌}
use mathlib.Core.List.{List}
use Prim.Native.Nat.{ℕ, ◌+◌, ◌≤◌, ◌<◌}
use native.Mathlib.Omega.{arith}
use lib.ListN.{length, drop, get_or}
use Rattle.slices.specs.Each.{each}
use Rattle.slices.specs.Put.{put_at}
use Rattle.slices.proofs.EachLaws.{each_from, each_none, size_from, size_none}
use Rattle.slices.proofs.PutLaws.{put_append}

-- i bytes of s were put, and the next goes to the place `to`
pub record Putting (f : ℕ → List ℕ) (out₀ : List ℕ) (at : ℕ) (s out : List ℕ) (to i : ℕ) : Type 0 where
  pub within : i ≤ length s
  pub place : to + length (each f (drop i s)) ≡ at + length (each f s)
  pub kept : length out ≡ length out₀
  pub rest : put_at out to (each f (drop i s)) ≡ put_at out₀ at (each f s)

module _ (f : ℕ → List ℕ) (out₀ : List ℕ) (at : ℕ) (s : List ℕ) where
  module _ (out : List ℕ) (to i : ℕ) (so_far : Putting f out₀ at s out to i) where
    -- the next byte goes where the room for all is
    pub next_place : i < length s → to + length (f (get_or s i 0)) ≤ at + length (each f s)
    next_place more = omega (arith, size_from f s i more, so_far.place)

    pub one_put : i < length s → (out₁ : List ℕ) (to₁ : ℕ) → to₁ ≡ to + length (f (get_or s i 0)) → length out₁ ≡ length out
        → out₁ ≡ put_at out to (f (get_or s i 0)) → Putting f out₀ at s out₁ to₁ (i + 1)
    one_put more out₁ to₁ behind same put =
        record {
          within = omega arith;
          place = omega (arith, size_from f s i more, so_far.place);
          kept = same ∙ so_far.kept;
          rest = rw (behind, put, put_append, ← each_from f s i more) so_far.rest;
        }

    pub all_put : length s ≤ i → (to ≡ at + length (each f s)) × (out ≡ put_at out₀ at (each f s))
    all_put done = (omega (arith, size_none f s i done, so_far.place), rw (each_none f s i done) at so_far.rest)
