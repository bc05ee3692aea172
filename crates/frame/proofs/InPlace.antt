-- A byte of content whose sent bytes are damaged, every 7d in its place, is still one byte of content, and nothing behind it has moved.
use mathlib.Core.Path.{◌≡◌, refl, sym, ap, ◌∙◌}
use mathlib.Core.Bool.{Bool, true, false, cond}
use mathlib.Core.List.{List, [], ◌∷◌, ◌++◌}
use Prim.Native.Nat.{ℕ, suc}
use native.Mathlib.Omega.{arith}
use lib.Dec.{eqb}
use lib.ListN.{length}
use borrow.Author.Tests.{eqb-true, eqb-false}
use Rattle.slices.proofs.Impossible.{impossible}
use Rattle.frame.specs.Stuffing.{plain, escaped, Meaning, stands_for, faulty, meaning, content, taken, stuff_byte, unstuff_from}
use Rattle.frame.specs.Damage.{EscapesStay}
use Rattle.frame.proofs.BoundLaws.{stood_for}
use Rattle.frame.proofs.PlaceLaws.{content_anywhere}
use Rattle.frame.proofs.StuffLaws.{stuff_other}
use Rattle.frame.proofs.UnstuffLaws.{plain_byte}

-- One byte of content whose sent bytes may be damaged: in the place of `b` stands a byte too, and if it is `b` its sent bytes are the same. Behind it
-- nothing has moved.
pub record InPlace (b held : ℕ) (rest arrived behind c : List ℕ) : Type 0 where
  pub value : ℕ
  pub sent : List ℕ
  pub left : List ℕ
  pub content_left : List ℕ
  pub parts : arrived ≡ sent ++ left
  pub size : length rest ≡ length left
  pub stay : EscapesStay rest left
  pub same : value ≡ b → sent ≡ stuff_byte b
  pub whole : c ≡ value ∷ content_left
  pub is : unstuff_from plain (suc held) 0 (left ++ behind) ≡ content content_left

module _ (held : ℕ) (rest behind c : List ℕ) where
  -- behind an escape byte stands an escaped flag or an escaped escape byte
  escaped_one : (b y : ℕ) (left : List ℕ) → length rest ≡ length left → EscapesStay rest left
      → taken (meaning escaped y) held 2 (λ s₁ held₁. unstuff_from s₁ held₁ 2 (left ++ behind)) ≡ content c → InPlace b held rest (0x7d ∷ y ∷ left) behind c
  escaped_one b y left size stay found = cases (eqb y 0x5e) (eqb y 0x5d) refl refl found
    where
      stands : (v : ℕ) → 0x7d ∷ y ∷ [] ≡ stuff_byte v → taken (stands_for v) held 2 (λ s₁ held₁. unstuff_from s₁ held₁ 2 (left ++ behind)) ≡ content c
          → InPlace b held rest (0x7d ∷ y ∷ left) behind c
      stands v stuffed found =
          let j = stood_for v held 2 (λ s₁ held₁. unstuff_from s₁ held₁ 2 (left ++ behind)) c found in
          record {
            value = v;
            sent = 0x7d ∷ y ∷ [];
            left = left;
            content_left = j.rest;
            parts = refl;
            size = size;
            stay = stay;
            same = λ e. stuffed ∙ ap stuff_byte e;
            whole = j.whole;
            is = content_anywhere plain (suc held) 2 0 (left ++ behind) j.rest j.is;
          }

      cases : (t u : Bool) → eqb y 0x5e ≡ t → eqb y 0x5d ≡ u
          → taken (cond t (stands_for 0x7e) (cond u (stands_for 0x7d) faulty)) held 2 (λ s₁ held₁. unstuff_from s₁ held₁ 2 (left ++ behind)) ≡ content c
          → InPlace b held rest (0x7d ∷ y ∷ left) behind c
      cases true u e f found = stands 0x7e (ap (λ (v : ℕ). 0x7d ∷ v ∷ []) (eqb-true y 0x5e e)) found
      cases false true e f found = stands 0x7d (ap (λ (v : ℕ). 0x7d ∷ v ∷ []) (eqb-true y 0x5d f)) found
      cases false false e f found = impossible cc

  after_escape : (b e : ℕ) (arrived : List ℕ) → length (0x7d ∷ e ∷ rest) ≡ length arrived → EscapesStay (0x7d ∷ e ∷ rest) arrived
      → unstuff_from plain held 0 (arrived ++ behind) ≡ content c → InPlace b held rest arrived behind c
  unfolding unstuff_from
  after_escape b e [] same stay found = absurd (omega arith)
  after_escape b e (x ∷ []) same stay found = absurd (omega arith)
  after_escape b e (x ∷ (y ∷ left)) same stay found =
      let escape : x ≡ 0x7d = eqb-true x 0x7d (sym (stay 0)) in
      rw escape (escaped_one b y left (omega arith) (λ i. stay (suc (suc i))) (rw escape at found))

  plain_one : (b : ℕ) (arrived : List ℕ) → length (b ∷ rest) ≡ length arrived → EscapesStay (b ∷ rest) arrived → eqb b 0x7d ≡ false → b ∷ [] ≡ stuff_byte b
      → unstuff_from plain held 0 (arrived ++ behind) ≡ content c → InPlace b held rest arrived behind c
  unfolding unstuff_from
  plain_one b [] same stay none stuffed found = absurd (omega arith)
  plain_one b (x ∷ left) same stay none stuffed found =
      let stands = plain_byte x (eqb-false x 0x7d (sym (stay 0) ∙ none)) in
      let first = ap (λ (m : Meaning). taken m held 1 (λ s₁ held₁. unstuff_from s₁ held₁ 1 (left ++ behind))) (sym stands) ∙ found in
      let j = stood_for x held 1 (λ s₁ held₁. unstuff_from s₁ held₁ 1 (left ++ behind)) c first in
      record {
        value = x;
        sent = x ∷ [];
        left = left;
        content_left = j.rest;
        parts = refl;
        size = omega arith;
        stay = λ i. stay (suc i);
        same = λ e. ap (λ (v : ℕ). v ∷ []) e ∙ stuffed;
        whole = j.whole;
        is = content_anywhere plain (suc held) 1 0 (left ++ behind) j.rest j.is;
      }

  pub in_place : (b : ℕ) (arrived : List ℕ) → length (stuff_byte b ++ rest) ≡ length arrived → EscapesStay (stuff_byte b ++ rest) arrived
      → unstuff_from plain held 0 (arrived ++ behind) ≡ content c → InPlace b held rest arrived behind c
  in_place b arrived same stay found = cases (eqb b 0x7e) (eqb b 0x7d) refl refl same stay
    where
      cases : (t u : Bool) → eqb b 0x7e ≡ t → eqb b 0x7d ≡ u
          → length (cond t (0x7d ∷ 0x5e ∷ []) (cond u (0x7d ∷ 0x5d ∷ []) (b ∷ [])) ++ rest) ≡ length arrived
          → EscapesStay (cond t (0x7d ∷ 0x5e ∷ []) (cond u (0x7d ∷ 0x5d ∷ []) (b ∷ [])) ++ rest) arrived → InPlace b held rest arrived behind c
      cases true u e f same stay = after_escape b 0x5e arrived same stay found
      cases false true e f same stay = after_escape b 0x5d arrived same stay found
      cases false false e f same stay = plain_one b arrived same stay f (sym (stuff_other b (eqb-false b 0x7e e) (eqb-false b 0x7d f))) found
