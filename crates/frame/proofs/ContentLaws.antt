-- Whole content is judged by its length, then by its check: what these tests say settles the answer, so each answer has its law
-- and tells of the content.
use mathlib.Core.Path.{◌≡◌, refl, sym, ap, ap₂, ◌∙◌}
use mathlib.Core.Bool.{Bool, true, false}
use mathlib.Core.List.{List}
use Prim.Native.Nat.{ℕ, ◌+◌, ◌-◌, ◌≤◌, ◌<◌}
use native.Mathlib.Omega.{arith}
use lib.Dec.{eqb, ltb}
use lib.ListN.{length, take, drop, get_or, length-take, length-drop}
use borrow.Author.Tests.{eq-eqb, ne_eqb, eqb-true, eqb-false, lt-ltb, le-ltb, ltb-true, ltb-false}
use Rattle.std.specs.Prelude.{Result, Ok, Err}
use Rattle.refusals.specs.declared.Refusal.{Refusal}
use Rattle.slices.proofs.Impossible.{impossible}
use Rattle.refusals.specs.Numbers.{short_content, bad_check}
use Rattle.crc.specs.Crc.{link_start, crc_of}
use Rattle.frame.specs.Content.{Read, frame, refused, no_place, payload_of, judged}
use Rattle.frame.specs.Answers.{read_answer, frame_found, fault_at}
use Rattle.frame.specs.declared.content.Frame.{Frame}
use Rattle.frame.specs.declared.content.Fault.{Fault}

pub length_payload : (c : List ℕ) → length (payload_of c) ≡ length c - 4
length_payload c = simp (length-take, length-drop) (omega arith)

-- the same as a pattern tells it: between two bytes in front and two behind
pub length_between : (c : List ℕ) → length (take (length c - 2 - 2) (drop 2 c)) ≡ length c - 4
length_between c = simp (length-take, length-drop) (omega arith)

module _ (c : List ℕ) where
  pub judged_short : length c < 4 → judged c ≡ refused short_content no_place
  unfolding judged
  judged_short h = rw (lt-ltb (length c) 4 h)

  pub judged_bad : 4 ≤ length c → (crc_of link_start c ≡ 0 → ⊥) → judged c ≡ refused bad_check (length c)
  unfolding judged
  judged_bad h ne = rw (le-ltb (length c) 4 h, ne_eqb (crc_of link_start c) 0 ne)

  pub judged_good : 4 ≤ length c → crc_of link_start c ≡ 0 → judged c ≡ frame (get_or c 0 0) (get_or c 1 0) (payload_of c)
  unfolding judged
  judged_good h e = rw (le-ltb (length c) 4 h, eq-eqb (crc_of link_start c) 0 e)

-- an answered fault is its refusal and its place
pub same_fault : {A : Type 0} (n m : Refusal) (place at : ℕ) → ◌≡◌ {A = Result A Fault} (Err (fault_at n place)) (Err (fault_at m at)) → (n ≡ m) × (place ≡ at)
same_fault n m place at e =
    let same : fault_at n place ≡ fault_at m at = cc in
    (ap (λ (f : Fault). f.refusal) same, ap (λ (f : Fault). f.place) same)

-- what an answer says of what was read
pub answer_refused : (found : Read) (n : Refusal) (place : ℕ) → Err (fault_at n place) ≡ read_answer found → found ≡ refused n place
answer_refused (frame k q p) n place e = impossible cc
answer_refused (refused m at) n place e = let same = same_fault n m place at e in ap₂ refused (sym same.0) (sym same.1)

pub record FoundFrame (c : List ℕ) (kind sequence n : ℕ) : Type 0 where
  pub whole : 4 ≤ length c
  pub size : n ≡ length c - 4
  pub found : judged c ≡ frame kind sequence (payload_of c)

-- an answer that tells of a frame was given for whole content of that payload
pub answer_frame : (c : List ℕ) (k q n : ℕ) → Ok (frame_found k q n) ≡ read_answer (judged c) → FoundFrame c k q n
answer_frame c k q n e = short (ltb (length c) 4) refl
  where
    good : 4 ≤ length c → (t : Bool) → eqb (crc_of link_start c) 0 ≡ t → FoundFrame c k q n
    good whole false f =
        let is : judged c ≡ refused bad_check (length c) = judged_bad c whole (eqb-false _ _ f) in
        let e' : Ok (frame_found k q n) ≡ read_answer (refused bad_check (length c)) = e ∙ ap read_answer is in
        impossible cc
    good whole true f =
        let is : judged c ≡ frame (get_or c 0 0) (get_or c 1 0) (payload_of c) = judged_good c whole (eqb-true _ _ f) in
        let e' : Ok (frame_found k q n) ≡ read_answer (frame (get_or c 0 0) (get_or c 1 0) (payload_of c)) = e ∙ ap read_answer is in
        let same : frame_found k q n ≡ frame_found (get_or c 0 0) (get_or c 1 0) (length (payload_of c)) = cc in
        let kind = ap (λ (f : Frame). f.kind) same in
        let sequence = ap (λ (f : Frame). f.sequence) same in
        let size = ap (λ (f : Frame). f.length) same in
        record { whole = whole; size = size ∙ length_payload c; found = is ∙ ap₂ (λ (x y : ℕ). frame x y (payload_of c)) (sym kind) (sym sequence) }

    short : (t : Bool) → ltb (length c) 4 ≡ t → FoundFrame c k q n
    short true f =
        let is : judged c ≡ refused short_content no_place = judged_short c (ltb-true _ _ f) in
        let e' : Ok (frame_found k q n) ≡ read_answer (refused short_content no_place) = e ∙ ap read_answer is in
        impossible cc
    short false f = good (ltb-false _ _ f) (eqb (crc_of link_start c) 0) refl

-- the payload as a part of the content
pub payload_part : (c : List ℕ) (n : ℕ) → 4 ≤ length c → n ≡ length c - 4 → take (n + 2 - 2) (drop 2 c) ≡ payload_of c
payload_part c n whole size = let same : n + 2 - 2 ≡ length c - 4 = omega arith in rw same
