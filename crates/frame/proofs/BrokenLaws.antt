-- 02, C-16: a run that unstuffing refuses is broken at the place: what stands before the fault was unstuffed to content.
use mathlib.Core.Path.{◌≡◌, refl, sym, ap, ap₂, subst, ◌∙◌}
use mathlib.Core.Bool.{Bool, true, false, cond}
use mathlib.Core.List.{List, [], ◌∷◌, ◌++◌, append_assoc}
use mathlib.Core.Logic.{◌⊎◌, inl, inr}
use Prim.Native.Nat.{ℕ, suc, ◌+◌, ◌<◌}
use native.Mathlib.Omega.{arith}
use lib.Dec.{eqb, ltb}
use lib.ListN.{length, length-append}
use borrow.Author.Tests.{eqb-true, eqb-false, ltb-true, ltb-false, lt-ltb}
use Rattle.refusals.specs.Numbers.{bad_framing, long_content}
use Rattle.refusals.specs.declared.Refusal.{Refusal}
use Rattle.slices.proofs.Impossible.{impossible}
use Rattle.frame.specs.Stuffing.{escape_byte, escaped_flag, escaped_escape, content_max, State, plain, escaped, Meaning, escapes_next, stands_for, faulty, meaning, content, refused, joined, taken, unstuff_from, unstuff}
use Rattle.frame.specs.Places.{after_escape, BadEscape, OneByte, PassesLimit}
use Rattle.frame.proofs.BoundLaws.{joined_refused, unstuff_bounded}
use Rattle.frame.proofs.FollowLaws.{one_more}
use Rattle.frame.proofs.SentLaws.{no_escape}
use Rattle.frame.proofs.UnstuffLaws.{plain_escape, escaped_fault}

-- what a run is broken by, and where
abbrev pub Broken : List ℕ → Refusal → ℕ → Type 0
Broken run n place = ((n ≡ bad_framing) × BadEscape run place) ⊎ ((n ≡ long_content) × PassesLimit run place)

-- what a byte is, by what it means
no_plain_fault : (b : ℕ) → meaning plain b ≡ faulty → ⊥
no_plain_fault b e = cases (eqb b escape_byte) e
  where
    cases : (t : Bool) → cond t escapes_next (stands_for b) ≡ faulty → ⊥
    cases true e = impossible cc
    cases false e = impossible cc

plain_escapes : (b : ℕ) → meaning plain b ≡ escapes_next → b ≡ escape_byte
plain_escapes b e = cases (eqb b escape_byte) refl e
  where
    cases : (t : Bool) → eqb b escape_byte ≡ t → cond t escapes_next (stands_for b) ≡ escapes_next → b ≡ escape_byte
    cases true f e = eqb-true b escape_byte f
    cases false f e = impossible cc

plain_stands : (b v : ℕ) → meaning plain b ≡ stands_for v → b ≡ escape_byte → ⊥
plain_stands b v e is = let escape = sym (plain_escape b is) ∙ e in impossible cc

escaped_stands : (y v : ℕ) → meaning escaped y ≡ stands_for v → (y ≡ escaped_flag) ⊎ (y ≡ escaped_escape)
escaped_stands y v e = cases (eqb y escaped_flag) (eqb y escaped_escape) refl refl
  where
    cases : (t u : Bool) → eqb y escaped_flag ≡ t → eqb y escaped_escape ≡ u → (y ≡ escaped_flag) ⊎ (y ≡ escaped_escape)
    cases true u f g = inl (eqb-true y escaped_flag f)
    cases false true f g = inr (eqb-true y escaped_escape g)
    cases false false f g = let fault = sym (escaped_fault y (eqb-false y escaped_flag f) (eqb-false y escaped_escape g)) ∙ e in impossible cc

escaped_faults : (y : ℕ) → meaning escaped y ≡ faulty → (y ≡ escaped_flag → ⊥) × (y ≡ escaped_escape → ⊥)
escaped_faults y e = (λ f. let stands = ap (meaning escaped) (sym f) ∙ e in impossible cc, λ f. let stands = ap (meaning escaped) (sym f) ∙ e in impossible cc)

-- what is left behind bytes without a fault, and the place before it
abbrev left : State → List ℕ → List ℕ
left plain bytes = bytes
left escaped bytes = escape_byte ∷ bytes

abbrev passed : State → List ℕ → ℕ
passed plain past = length past
passed escaped past = suc (length past)

abbrev Breaks : State → List ℕ → List ℕ → List ℕ → Refusal → ℕ → Type 0
Breaks s past c bytes n place =
    unstuff past ≡ content c → unstuff_from s (length c) (passed s past) bytes ≡ refused n place → Broken (past ++ left s bytes) n place

-- a fault behind an escape byte
escape_breaks : (past c behind : List ℕ) (n : Refusal) (place : ℕ) → unstuff past ≡ content c → (after_escape behind ≡ escaped_flag → ⊥) → (after_escape behind ≡ escaped_escape → ⊥)
    → refused bad_framing (suc (suc (length past))) ≡ refused n place → Broken (past ++ (escape_byte ∷ behind)) n place
escape_breaks past c behind n place e no_flag no_escape f =
    let number : bad_framing ≡ n = cc in
    let here : suc (suc (length past)) ≡ place = cc in
    inl (
      sym number,
      record {
        before = past;
        behind = behind;
        held = c;
        sent = refl;
        no_fault = e;
        no_flag = no_flag;
        no_escape = no_escape;
        there = sym here ∙ omega arith;
      },
    )

module _ (past c bytes : List ℕ) (n : Refusal) (place : ℕ) (e : unstuff past ≡ content c) (rest : (s : State) (past₁ c₁ : List ℕ) → Breaks s past₁ c₁ bytes n place) where
  -- one byte of content, and its sent bytes
  byte_breaks : (sent : List ℕ) (v at : ℕ) → at ≡ length past + length sent → OneByte sent
      → (length c < content_max → unstuff_from plain (length c) (length past) sent ≡ content (v ∷ []))
      → taken (stands_for v) (length c) at (λ s held. unstuff_from s held at bytes) ≡ refused n place → Broken (past ++ (sent ++ bytes)) n place
  unfolding unstuff
  byte_breaks sent v at there one stands f = cases (ltb (length c) content_max) refl f
    where
      cases : (t : Bool) → ltb (length c) content_max ≡ t
          → cond t (joined v (unstuff_from plain (suc (length c)) at bytes)) (refused long_content at) ≡ refused n place → Broken (past ++ (sent ++ bytes)) n place
      cases true room f =
          let size : length (c ++ (v ∷ [])) ≡ suc (length c) = length-append c (v ∷ []) ∙ omega arith in
          let sent_size : length (past ++ sent) ≡ at = length-append past sent ∙ sym there in
          let found =
          ap₂ (λ (k m : ℕ). unstuff_from plain k m bytes) size sent_size
          ∙ joined_refused v (unstuff_from plain (suc (length c)) at bytes) n place f in
          subst (λ (run : List ℕ). Broken run n place) (append_assoc past sent bytes)
          (rest plain (past ++ sent) (c ++ (v ∷ [])) (one_more past c e sent v (stands (ltb-true (length c) content_max room))) found)
      cases false full f =
          let number : long_content ≡ n = cc in
          let here : at ≡ place = cc in
          inr (
            sym number,
            record {
              before = past;
              passing = sent;
              behind = bytes;
              held = c;
              sent = refl;
              no_fault = e;
              full = omega (arith, unstuff_bounded plain 0 0 past c (omega arith) e, ltb-false (length c) content_max full);
              one_byte = one;
              there = sym here ∙ there;
            },
          )

  plain_breaks : (b : ℕ) (m : Meaning) → meaning plain b ≡ m
      → taken m (length c) (suc (length past)) (λ s held. unstuff_from s held (suc (length past)) bytes) ≡ refused n place → Broken (past ++ (b ∷ bytes)) n place
  unfolding unstuff_from
  plain_breaks b escapes_next is f = subst (λ (x : ℕ). Broken (past ++ (x ∷ bytes)) n place) (sym (plain_escapes b is)) (rest escaped past c e f)
  plain_breaks b (stands_for v) is f =
      byte_breaks (b ∷ []) v (suc (length past)) (omega arith) (plain_stands b v is) (λ room. rw (is, lt-ltb (length c) content_max room)) f
  plain_breaks b faulty is f = absurd (no_plain_fault b is)

  escaped_breaks : (y : ℕ) (m : Meaning) → meaning escaped y ≡ m
      → taken m (length c) (suc (suc (length past))) (λ s held. unstuff_from s held (suc (suc (length past))) bytes) ≡ refused n place
      → Broken (past ++ (escape_byte ∷ (y ∷ bytes))) n place
  unfolding unstuff_from
  escaped_breaks y escapes_next is f = absurd (no_escape y is)
  escaped_breaks y (stands_for v) is f =
      byte_breaks (escape_byte ∷ y ∷ []) v (suc (suc (length past))) (omega arith) (refl, escaped_stands y v is)
      (λ room. rw (is, lt-ltb (length c) content_max room)) f
  escaped_breaks y faulty is f = let other = escaped_faults y is in escape_breaks past c (y ∷ bytes) n place e other.0 other.1 f

broke_from : (s : State) (past c bytes : List ℕ) (n : Refusal) (place : ℕ) → Breaks s past c bytes n place
unfolding unstuff_from
broke_from plain past c [] n place e f = impossible cc
broke_from escaped past c [] n place e f = escape_breaks past c [] n place e (λ g. omega arith) (λ g. omega arith) f
broke_from plain past c (b ∷ bytes) n place e f =
    plain_breaks past c bytes n place e (λ s past₁ c₁. broke_from s past₁ c₁ bytes n place) b (meaning plain b) refl f
broke_from escaped past c (y ∷ bytes) n place e f =
    escaped_breaks past c bytes n place e (λ s past₁ c₁. broke_from s past₁ c₁ bytes n place) y (meaning escaped y) refl f

pub broke : (run : List ℕ) (n : Refusal) (place : ℕ) → unstuff run ≡ refused n place → Broken run n place
unfolding unstuff unstuff_from
broke run n place e = broke_from plain [] [] run n place refl e
