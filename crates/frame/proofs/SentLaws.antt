-- So many sent bytes settle the verdict of a run, whatever follows: each byte of content takes at most two, and the 388th is refused.
use mathlib.Core.Path.{◌≡◌, refl, ap}
use mathlib.Core.Bool.{Bool, true, false, cond}
use mathlib.Core.List.{List, [], ◌∷◌}
use Prim.Native.Nat.{ℕ, zero, suc, ◌+◌, ◌-◌, ◌*◌, ◌≤◌, ◌<◌}
use native.Mathlib.Omega.{arith}
use lib.Dec.{eqb, ltb}
use lib.ListN.{take}
use borrow.Author.Tests.{ltb-true}
use Rattle.refusals.specs.Numbers.{long_content}
use Rattle.refusals.specs.declared.Refusal.{Refusal}
use Rattle.slices.proofs.Impossible.{impossible}
use Rattle.frame.proofs.BoundLaws.{joined_refused}
use Rattle.frame.specs.Stuffing.{State, plain, escaped, Meaning, escapes_next, stands_for, faulty, meaning, Unstuffed, refused, joined, taken, content_max, sent_max, unstuff_from, unstuff}

-- how many they are, with `held` bytes of content before them
abbrev Enough : State → ℕ → ℕ → Type 0
Enough plain held n = 2 * (suc content_max - held) ≤ n
Enough escaped held n = 2 * (suc content_max - held) ≤ n + 1

taken_alike : (m : Meaning) (held place : ℕ) (f g : State → ℕ → Unstuffed) → (m ≡ escapes_next → f escaped held ≡ g escaped held)
    → (held < content_max → f plain (suc held) ≡ g plain (suc held)) → taken m held place f ≡ taken m held place g
taken_alike escapes_next held place f g escape byte = escape refl
taken_alike (stands_for v) held place f g escape byte = cases (ltb held content_max) refl
  where
    cases : (t : Bool) → ltb held content_max ≡ t
        → cond t (joined v (f plain (suc held))) (refused long_content place) ≡ cond t (joined v (g plain (suc held))) (refused long_content place)
    cases true e = ap (joined v) (byte (ltb-true held content_max e))
    cases false e = refl
taken_alike faulty held place f g escape byte = refl

pub no_escape : (b : ℕ) → meaning escaped b ≡ escapes_next → ⊥
no_escape b e = cases (eqb b 0x5e) (eqb b 0x5d) e
  where
    cases : (t u : Bool) → cond t (stands_for 0x7e) (cond u (stands_for 0x7d) faulty) ≡ escapes_next → ⊥
    cases true u e = impossible cc
    cases false true e = impossible cc
    cases false false e = impossible cc

take_enough : (s : State) (held place n : ℕ) (bytes : List ℕ) → held ≤ content_max → Enough s held n
    → unstuff_from s held place (take n bytes) ≡ unstuff_from s held place bytes
unfolding unstuff_from
take_enough s held place zero [] h e = refl
take_enough s held place (suc n) [] h e = refl
take_enough plain held place zero (b ∷ bs) h e = absurd (omega arith)
take_enough escaped held place zero (b ∷ bs) h e = absurd (omega arith)
take_enough plain held place (suc n) (b ∷ bs) h e =
    taken_alike (meaning plain b) held (suc place) (λ s₁ held₁. unstuff_from s₁ held₁ (suc place) (take n bs)) (λ s₁ held₁. unstuff_from s₁ held₁ (suc place) bs)
    (λ f. take_enough escaped held (suc place) n bs h (omega arith))
    (λ room. take_enough plain (suc held) (suc place) n bs room (omega arith))
take_enough escaped held place (suc n) (b ∷ bs) h e =
    taken_alike (meaning escaped b) held (suc place) (λ s₁ held₁. unstuff_from s₁ held₁ (suc place) (take n bs)) (λ s₁ held₁. unstuff_from s₁ held₁ (suc place) bs)
    (λ f. absurd (no_escape b f))
    (λ room. take_enough plain (suc held) (suc place) n bs room (omega arith))

-- and a fault is met within them
abbrev Within : State → ℕ → ℕ → ℕ → Type 0
Within plain held before place = place + 2 * held ≤ before + sent_max
Within escaped held before place = place + 2 * held < before + sent_max

module _ (held before : ℕ) (rest : State → ℕ → Unstuffed) (n : Refusal) (place : ℕ) (h : held ≤ content_max) where
  byte_within : (v : ℕ) → (held < content_max → rest plain (suc held) ≡ refused n place → Within plain (suc held) (suc before) place)
      → taken (stands_for v) held (suc before) rest ≡ refused n place → Within escaped held before place
  byte_within v known e = cases (ltb held content_max) refl e
    where
      cases : (t : Bool) → ltb held content_max ≡ t → cond t (joined v (rest plain (suc held))) (refused long_content (suc before)) ≡ refused n place
          → Within escaped held before place
      cases true f e =
          let later = known (ltb-true held content_max f) (joined_refused v (rest plain (suc held)) n place e) in
          omega arith
      cases false f e = let here : suc before ≡ place = cc in omega arith

  fault_within : taken faulty held (suc before) rest ≡ refused n place → Within escaped held before place
  fault_within e = let here : suc before ≡ place = cc in omega arith

-- one byte more, if the rest is so
plain_within : (held before : ℕ) (m : Meaning) (rest : State → ℕ → Unstuffed) (n : Refusal) (place : ℕ) → held ≤ content_max
    → (rest escaped held ≡ refused n place → Within escaped held (suc before) place)
    → (held < content_max → rest plain (suc held) ≡ refused n place → Within plain (suc held) (suc before) place)
    → taken m held (suc before) rest ≡ refused n place → Within plain held before place
plain_within held before escapes_next rest n place h escape byte e = let later = escape e in omega arith
plain_within held before (stands_for v) rest n place h escape byte e = let later = byte_within held before rest n place h v byte e in omega arith
plain_within held before faulty rest n place h escape byte e = let later = fault_within held before rest n place h e in omega arith

escaped_within : (held before b : ℕ) (m : Meaning) (rest : State → ℕ → Unstuffed) (n : Refusal) (place : ℕ) → held ≤ content_max → meaning escaped b ≡ m
    → (held < content_max → rest plain (suc held) ≡ refused n place → Within plain (suc held) (suc before) place)
    → taken m held (suc before) rest ≡ refused n place → Within escaped held before place
escaped_within held before b escapes_next rest n place h f byte e = absurd (no_escape b f)
escaped_within held before b (stands_for v) rest n place h f byte e = byte_within held before rest n place h v byte e
escaped_within held before b faulty rest n place h f byte e = fault_within held before rest n place h e

refused_within : (s : State) (held before : ℕ) (bytes : List ℕ) (n : Refusal) (place : ℕ) → held ≤ content_max → unstuff_from s held before bytes ≡ refused n place
    → Within s held before place
unfolding unstuff_from
refused_within plain held before [] n place h e = impossible cc
refused_within escaped held before [] n place h e = let here : suc before ≡ place = cc in omega arith
refused_within plain held before (b ∷ bs) n place h e =
    plain_within held before (meaning plain b) (λ s₁ held₁. unstuff_from s₁ held₁ (suc before) bs) n place h
    (λ f. refused_within escaped held (suc before) bs n place h f)
    (λ room f. refused_within plain (suc held) (suc before) bs n place room f) e
refused_within escaped held before (b ∷ bs) n place h e =
    escaped_within held before b (meaning escaped b) (λ s₁ held₁. unstuff_from s₁ held₁ (suc before) bs) n place h refl
    (λ room f. refused_within plain (suc held) (suc before) bs n place room f) e

pub place_within : (run : List ℕ) (n : Refusal) (place : ℕ) → unstuff run ≡ refused n place → place ≤ sent_max
unfolding unstuff
place_within run n place e = let within = refused_within plain 0 0 run n place (omega arith) e in omega arith
