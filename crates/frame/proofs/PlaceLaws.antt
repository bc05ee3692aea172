-- Content has no place: where unstuffing gives content, it gives it whatever place the counting starts from.
use mathlib.Core.Path.{◌≡◌, sym, ap, ◌∙◌}
use mathlib.Core.Bool.{Bool, true, false, cond}
use mathlib.Core.List.{List, [], ◌∷◌}
use Prim.Native.Nat.{ℕ, suc}
use lib.Dec.{ltb}
use Rattle.refusals.specs.Numbers.{long_content}
use Rattle.slices.proofs.Impossible.{impossible}
use Rattle.frame.specs.Stuffing.{State, plain, escaped, Meaning, escapes_next, stands_for, faulty, meaning, Unstuffed, content, refused, joined, taken, content_max, unstuff_from}
use Rattle.frame.proofs.BoundLaws.{stood_for}

taken_anywhere : (m : Meaning) (held at at₁ : ℕ) (rest rest₁ : State → ℕ → Unstuffed) (c : List ℕ)
    → ((s : State) (held₁ : ℕ) (c₁ : List ℕ) → rest s held₁ ≡ content c₁ → rest₁ s held₁ ≡ content c₁)
    → taken m held at rest ≡ content c → taken m held at₁ rest₁ ≡ content c
taken_anywhere escapes_next held at at₁ rest rest₁ c known e = known escaped held c e
taken_anywhere (stands_for v) held at at₁ rest rest₁ c known e = cases (ltb held content_max) e
  where
    there : rest₁ plain (suc held) ≡ content (stood_for v held at rest c e).rest
    there = let j = stood_for v held at rest c e in known plain (suc held) j.rest j.is

    cases : (t : Bool) → cond t (joined v (rest plain (suc held))) (refused long_content at) ≡ content c
        → cond t (joined v (rest₁ plain (suc held))) (refused long_content at₁) ≡ content c
    cases true f = ap (joined v) there ∙ sym (ap content (stood_for v held at rest c e).whole)
    cases false f = impossible cc
taken_anywhere faulty held at at₁ rest rest₁ c known e = impossible cc

pub content_anywhere : (s : State) (held before before₁ : ℕ) (bytes c : List ℕ) → unstuff_from s held before bytes ≡ content c
    → unstuff_from s held before₁ bytes ≡ content c
unfolding unstuff_from
content_anywhere plain held before before₁ [] c e = e
content_anywhere escaped held before before₁ [] c e = impossible cc
content_anywhere s held before before₁ (b ∷ bs) c e =
    taken_anywhere (meaning s b) held (suc before) (suc before₁) (λ s₁ held₁. unstuff_from s₁ held₁ (suc before) bs)
    (λ s₁ held₁. unstuff_from s₁ held₁ (suc before₁) bs) c
    (λ s₁ held₁ c₁. content_anywhere s₁ held₁ (suc before) (suc before₁) bs c₁) e
