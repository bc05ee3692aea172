-- Damage that leaves every 7d in its place leaves every byte of content in its place: the readers of both runs are escaped at the same places. So
-- the contents differ only in the two bytes whose sent bytes differ.
use mathlib.Core.Path.{◌≡◌, refl, sym, ap, ap₂, ◌∙◌}
use mathlib.Core.List.{List, [], ◌∷◌, ◌++◌, append_assoc}
use Prim.Native.Nat.{ℕ, suc, ◌+◌}
use native.Mathlib.Nat.{add-zero}
use native.Mathlib.Omega.{arith}
use lib.ListN.{length}
use Rattle.slices.specs.Difference.{DifferWithin}
use Rattle.slices.specs.Each.{each}
use Rattle.frame.specs.Stuffing.{plain, content, stuff_byte, stuff, unstuff_from, unstuff}
use Rattle.frame.specs.Damage.{EscapesStay, PairDamaged}
use Rattle.frame.proofs.BoundLaws.{stood_for}
use Rattle.frame.proofs.InPlace.{in_place}
use Rattle.frame.proofs.PlaceLaws.{content_anywhere}
use Rattle.frame.proofs.StuffTheorems.{stuffed_byte}

-- content behind the stuffed bytes of `before`
record Behind (before rest : List ℕ) (held : ℕ) (c : List ℕ) : Type 0 where
  left : List ℕ
  whole : c ≡ before ++ left
  is : unstuff_from plain (held + length before) 0 rest ≡ content left

past : (before rest : List ℕ) (held : ℕ) (c : List ℕ) → unstuff_from plain held 0 (stuff before ++ rest) ≡ content c → Behind before rest held c
unfolding each
past [] rest held c e = record { left = c; whole = refl; is = ap (λ (n : ℕ). unstuff_from plain n 0 rest) (add-zero held) ∙ e }
past (b ∷ bs) rest held c e =
    let first = sym (stuffed_byte held 0 b (stuff bs ++ rest)) ∙ sym (ap (unstuff_from plain held 0) (append_assoc (stuff_byte b) (stuff bs) rest)) ∙ e in
    let at = 0 + length (stuff_byte b) in
    let j = stood_for b held at (λ s₁ held₁. unstuff_from s₁ held₁ at (stuff bs ++ rest)) c first in
    let p = past bs rest (suc held) j.rest (content_anywhere plain (suc held) at 0 (stuff bs ++ rest) j.rest j.is) in
    let more : held + suc (length bs) ≡ suc held + length bs = omega arith in
    record { left = p.left; whole = j.whole ∙ ap (λ (l : List ℕ). b ∷ l) p.whole; is = ap (λ (n : ℕ). unstuff_from plain n 0 rest) more ∙ p.is }

-- two neighbouring bytes of content whose sent bytes may be damaged: in their places stand two bytes
record PairInPlace (first second held : ℕ) (other behind c : List ℕ) : Type 0 where
  value : ℕ
  value₁ : ℕ
  left : List ℕ
  whole : c ≡ value ∷ value₁ ∷ left
  is : unstuff_from plain (held + 2) 0 behind ≡ content left
  same : first ∷ second ∷ [] ≡ value ∷ value₁ ∷ [] → stuff (first ∷ second ∷ []) ≡ other

no_bytes_left : (l : List ℕ) → length {A = ℕ} [] ≡ length l → l ≡ []
no_bytes_left [] e = refl
no_bytes_left (x ∷ l) e = absurd (omega arith)

pair_in_place : (first second held : ℕ) (other behind c : List ℕ) → length (stuff (first ∷ second ∷ [])) ≡ length other
    → EscapesStay (stuff (first ∷ second ∷ [])) other → unstuff_from plain held 0 (other ++ behind) ≡ content c → PairInPlace first second held other behind c
unfolding each
pair_in_place first second held other behind c size stay found =
    let p = in_place held (stuff (second ∷ [])) behind c first other size stay found in
    let q = in_place (suc held) [] behind p.content_left second p.left p.size p.stay p.is in
    let none = no_bytes_left q.left q.size in
    let two : held + 2 ≡ suc (suc held) = omega arith in
    record {
      value = p.value;
      value₁ = q.value;
      left = q.content_left;
      whole = p.whole ∙ ap (λ (l : List ℕ). p.value ∷ l) q.whole;
      is = ap (λ (n : ℕ). unstuff_from plain n 0 behind) two ∙ sym (ap (λ (l : List ℕ). unstuff_from plain (suc (suc held)) 0 (l ++ behind)) none) ∙ q.is;
      same = λ e.
          let same_first : p.value ≡ first = cc in
          let same_second : q.value ≡ second = cc in
          sym (p.parts ∙ ap₂ (λ (x y : List ℕ). x ++ y) (p.same same_first)
          (q.parts ∙ ap₂ (λ (x y : List ℕ). x ++ y) (q.same same_second) none));
    }

-- the contents of two such runs differ in two neighbouring bytes
pub contents_differ : (sent arrived c d : List ℕ) → PairDamaged sent arrived → unstuff sent ≡ content c → unstuff arrived ≡ content d → DifferWithin 2 c d
unfolding unstuff
contents_differ sent arrived c d damage found found₁ =
    let pair : List ℕ = damage.first ∷ damage.second ∷ [] in
    let sent_before = past damage.before (stuff pair ++ damage.behind) 0 c (sym (ap (unstuff_from plain 0 0) damage.as_sent) ∙ found) in
    let sent_pair = past pair damage.behind (0 + length damage.before) sent_before.left sent_before.is in
    let arrived_before = past damage.before (damage.other ++ damage.behind) 0 d (sym (ap (unstuff_from plain 0 0) damage.as_arrived) ∙ found₁) in
    let arrived_pair =
    pair_in_place damage.first damage.second (0 + length damage.before) damage.other damage.behind arrived_before.left
    damage.same_length damage.escapes_stay arrived_before.is in
    let same : content sent_pair.left ≡ content arrived_pair.left = sym sent_pair.is ∙ arrived_pair.is in
    let same_left : sent_pair.left ≡ arrived_pair.left = cc in
    record {
      before = damage.before;
      part = pair;
      other = arrived_pair.value ∷ arrived_pair.value₁ ∷ [];
      behind = sent_pair.left;
      first = sent_before.whole ∙ ap (λ (l : List ℕ). damage.before ++ l) sent_pair.whole;
      second =
          arrived_before.whole
          ∙ ap (λ (l : List ℕ). damage.before ++ l) (arrived_pair.whole ∙ ap (λ (l : List ℕ). arrived_pair.value ∷ arrived_pair.value₁ ∷ l) (sym same_left));
      same_length = refl;
      adjacent = omega arith;
      differ = λ e. damage.differ (arrived_pair.same e);
    }
