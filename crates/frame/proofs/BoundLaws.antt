-- Unstuffed content has at most 387 bytes, so an array of that length holds all of it, and no more than were sent.
use mathlib.Core.Path.{◌≡◌, refl}
use mathlib.Core.Bool.{Bool, true, false, cond}
use mathlib.Core.List.{List, [], ◌∷◌}
use Prim.Native.Nat.{ℕ, suc, ◌+◌, ◌≤◌, ◌<◌}
use native.Mathlib.Omega.{arith}
use lib.Dec.{ltb}
use lib.ListN.{length}
use borrow.Author.Tests.{ltb-true}
use Rattle.refusals.specs.Numbers.{long_content}
use Rattle.refusals.specs.declared.Refusal.{Refusal}
use Rattle.slices.proofs.Impossible.{impossible}
use Rattle.frame.specs.Stuffing.{State, plain, escaped, Meaning, escapes_next, stands_for, faulty, meaning, Unstuffed, content, refused, joined, taken, content_max, unstuff_from}

-- content with a byte in front comes from content behind it
pub record Joined (v : ℕ) (found : Unstuffed) (c : List ℕ) : Type 0 where
  pub rest : List ℕ
  pub is : found ≡ content rest
  pub whole : c ≡ v ∷ rest

joined_content : (v : ℕ) (found : Unstuffed) (c : List ℕ) → joined v found ≡ content c → Joined v found c
joined_content v (content d) c e = record { rest = d; is = refl; whole = let same : c ≡ v ∷ d = cc in same }
joined_content v (refused n place) c e = impossible cc

-- and a refusal with a byte in front is that refusal
pub joined_refused : (v : ℕ) (found : Unstuffed) (n : Refusal) (place : ℕ) → joined v found ≡ refused n place → found ≡ refused n place
joined_refused v (content c) n place e = impossible cc
joined_refused v (refused m at) n place e = e

-- a byte of content stands first in the content that is unstuffed
pub stood_for : (v held place : ℕ) (rest : State → ℕ → Unstuffed) (c : List ℕ) → taken (stands_for v) held place rest ≡ content c → Joined v (rest plain (suc held)) c
stood_for v held place rest c e = cases (ltb held content_max) e
  where
    cases : (t : Bool) → cond t (joined v (rest plain (suc held))) (refused long_content place) ≡ content c → Joined v (rest plain (suc held)) c
    cases true e = joined_content v (rest plain (suc held)) c e
    cases false e = impossible cc

-- one byte more keeps the bound, if the rest does
module _ (held place : ℕ) (rest : State → ℕ → Unstuffed) (c : List ℕ)
    (bounded : (s₁ : State) (held₁ : ℕ) (c₁ : List ℕ) → held₁ ≤ content_max → rest s₁ held₁ ≡ content c₁ → held₁ + length c₁ ≤ content_max) where
  byte_bounded : (v : ℕ) (t : Bool) → ltb held content_max ≡ t
      → cond t (joined v (rest plain (suc held))) (refused long_content place) ≡ content c → held + length c ≤ content_max
  byte_bounded v true f e =
      let j = joined_content v (rest plain (suc held)) c e in
      let room : held < content_max = ltb-true held content_max f in
      let more = bounded plain (suc held) j.rest room j.is in
      rw j.whole (omega arith)
  byte_bounded v false f e = impossible cc

  taken_bounded : (m : Meaning) → held ≤ content_max → taken m held place rest ≡ content c → held + length c ≤ content_max
  taken_bounded escapes_next h e = bounded escaped held c h e
  taken_bounded (stands_for v) h e = byte_bounded v (ltb held content_max) refl e
  taken_bounded faulty h e = impossible cc

pub unstuff_bounded : (s : State) (held place : ℕ) (bytes c : List ℕ) → held ≤ content_max → unstuff_from s held place bytes ≡ content c
    → held + length c ≤ content_max
unfolding unstuff_from
unstuff_bounded plain held place [] c h e = let none : c ≡ [] = cc in rw none (omega arith)
unstuff_bounded escaped held place [] c h e = impossible cc
unstuff_bounded s held place (b ∷ bs) c h e =
    taken_bounded held (suc place) (λ s₁ held₁. unstuff_from s₁ held₁ (suc place) bs) c (λ s₁ held₁ c₁. unstuff_bounded s₁ held₁ (suc place) bs c₁) (meaning s b) h e

module _ (held place : ℕ) (bytes : List ℕ) (rest : State → ℕ → Unstuffed)
    (known : (s : State) (held₁ : ℕ) (c₁ : List ℕ) → rest s held₁ ≡ content c₁ → length c₁ ≤ length bytes) where
  taken_shorter : (m : Meaning) (c : List ℕ) → taken m held place rest ≡ content c → length c ≤ suc (length bytes)
  taken_shorter escapes_next c e = let shorter = known escaped held c e in omega arith
  taken_shorter (stands_for v) c e =
      let j = stood_for v held place rest c e in
      let shorter = known plain (suc held) j.rest j.is in
      rw j.whole (omega arith)
  taken_shorter faulty c e = impossible cc

pub content_shorter : (s : State) (held before : ℕ) (bytes c : List ℕ) → unstuff_from s held before bytes ≡ content c → length c ≤ length bytes
unfolding unstuff_from
content_shorter plain held before [] c e = let none : c ≡ [] = cc in rw none (omega arith)
content_shorter escaped held before [] c e = impossible cc
content_shorter s held before (b ∷ bs) c e =
    taken_shorter held (suc before) bs (λ s₁ held₁. unstuff_from s₁ held₁ (suc before) bs)
    (λ s₁ held₁ c₁. content_shorter s₁ held₁ (suc before) bs c₁) (meaning s b) c e
