-- What follows sent bytes that were unstuffed to content is unstuffed behind that content, from their end on: byte by byte.
use mathlib.Core.Path.{◌≡◌, refl, sym, ap, ap₂, ◌∙◌}
use mathlib.Core.Bool.{Bool, true, false, cond}
use mathlib.Core.List.{List, [], ◌∷◌, ◌++◌}
use Prim.Native.Nat.{ℕ, suc, ◌+◌}
use native.Mathlib.Nat.{add-zero}
use native.Mathlib.Omega.{arith}
use lib.Dec.{ltb}
use lib.ListN.{length}
use Rattle.refusals.specs.Numbers.{long_content}
use Rattle.slices.proofs.Impossible.{impossible}
use Rattle.frame.specs.Stuffing.{content_max, State, plain, escaped, Meaning, escapes_next, stands_for, faulty, meaning, Unstuffed, content, refused, joined, taken, unstuff_from, unstuff}
use Rattle.frame.proofs.BoundLaws.{stood_for}

-- content in front of what the rest gives
abbrev pub prefixed : List ℕ → Unstuffed → Unstuffed
prefixed c (content d) = content (c ++ d)
prefixed c (refused n place) = refused n place

joined_prefixed : (v : ℕ) (c : List ℕ) (found : Unstuffed) → joined v (prefixed c found) ≡ prefixed (v ∷ c) found
joined_prefixed v c (content d) = refl
joined_prefixed v c (refused n place) = refl

pub prefixed_none : (found : Unstuffed) → found ≡ prefixed [] found
prefixed_none (content d) = refl
prefixed_none (refused n place) = refl

-- what follows sent bytes that were unstuffed to content is unstuffed behind that content, from their end on
abbrev Follows : State → ℕ → ℕ → List ℕ → List ℕ → List ℕ → Type 0
Follows s held before past c rest =
    unstuff_from s held before past ≡ content c
    → unstuff_from s held before (past ++ rest) ≡ prefixed c (unstuff_from plain (held + length c) (before + length past) rest)

module _ (held before : ℕ) (past c rest : List ℕ) (follows : (s : State) (held₁ : ℕ) (c₁ : List ℕ) → Follows s held₁ (suc before) past c₁ rest) where
  abbrev over : List ℕ → State → ℕ → Unstuffed
  over bytes s held₁ = unstuff_from s held₁ (suc before) bytes

  abbrev Ends : Unstuffed → Type 0
  Ends found = found ≡ prefixed c (unstuff_from plain (held + length c) (suc before + length past) rest)

  byte_follows : (v : ℕ) → taken (stands_for v) held (suc before) (over past) ≡ content c → Ends (taken (stands_for v) held (suc before) (over (past ++ rest)))
  byte_follows v e = cases (ltb held content_max) e
    where
      cases : (t : Bool) → cond t (joined v (over past plain (suc held))) (refused long_content (suc before)) ≡ content c
          → Ends (cond t (joined v (over (past ++ rest) plain (suc held))) (refused long_content (suc before)))
      cases true f =
          let j = stood_for v held (suc before) (over past) c e in
          let more : suc held + length j.rest ≡ held + suc (length j.rest) = omega arith in
          ap (joined v) (follows plain (suc held) j.rest j.is)
          ∙ joined_prefixed v j.rest (unstuff_from plain (suc held + length j.rest) (suc before + length past) rest)
          ∙ ap (λ (n : ℕ). prefixed (v ∷ j.rest) (unstuff_from plain n (suc before + length past) rest)) more
          ∙ ap (λ (d : List ℕ). prefixed d (unstuff_from plain (held + length d) (suc before + length past) rest)) (sym j.whole)
      cases false f = impossible cc

  taken_follows : (m : Meaning) → taken m held (suc before) (over past) ≡ content c → Ends (taken m held (suc before) (over (past ++ rest)))
  taken_follows escapes_next e = follows escaped held c e
  taken_follows (stands_for v) e = byte_follows v e
  taken_follows faulty e = impossible cc

append_from : (s : State) (held before : ℕ) (past c rest : List ℕ) → Follows s held before past c rest
unfolding unstuff_from
append_from escaped held before [] c rest e = impossible cc
append_from plain held before [] c rest e =
    let none : [] ≡ c = cc in
    prefixed_none (unstuff_from plain held before rest)
    ∙ ap₂ (λ (n m : ℕ). prefixed [] (unstuff_from plain n m rest)) (sym (add-zero held)) (sym (add-zero before))
    ∙ ap (λ (d : List ℕ). prefixed d (unstuff_from plain (held + length d) (before + 0) rest)) none
append_from s held before (b ∷ past) c rest e =
    let later : suc before + length past ≡ before + suc (length past) = omega arith in
    taken_follows held before past c rest (λ s₁ held₁ c₁. append_from s₁ held₁ (suc before) past c₁ rest) (meaning s b) e
    ∙ ap (λ (m : ℕ). prefixed c (unstuff_from plain (held + length c) m rest)) later

pub unstuff_append : (past c rest : List ℕ) → unstuff past ≡ content c
    → unstuff (past ++ rest) ≡ prefixed c (unstuff_from plain (length c) (length past) rest)
unfolding unstuff
unstuff_append past c rest e = append_from plain 0 0 past c rest e ∙ ap₂ (λ (n m : ℕ). prefixed c (unstuff_from plain n m rest)) (omega arith) (omega arith)

-- one byte more of content
pub one_more : (past c : List ℕ) → unstuff past ≡ content c → (sent : List ℕ) (v : ℕ) → unstuff_from plain (length c) (length past) sent ≡ content (v ∷ [])
    → unstuff (past ++ sent) ≡ content (c ++ (v ∷ []))
one_more past c e sent v f = unstuff_append past c sent e ∙ ap (prefixed c) f
