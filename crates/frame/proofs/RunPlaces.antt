-- 02, C-16: where the run between two flags is refused, the place says where it is broken; and a run that is broken so is refused there.
use mathlib.Core.Path.{◌≡◌, refl, ap, ◌∙◌}
use mathlib.Core.Bool.{Bool, true, false, cond}
use mathlib.Core.List.{List, [], ◌∷◌}
use mathlib.Core.Logic.{⊎_elim}
use Prim.Native.Nat.{ℕ, ◌<◌}
use native.Mathlib.Omega.{arith}
use lib.Dec.{eqb, ltb}
use lib.ListN.{length, get_or}
use borrow.Author.Tests.{eqb-false, ltb-false}
use Rattle.refusals.specs.Numbers.{bad_framing, long_content, short_content, bad_check}
use Rattle.refusals.specs.declared.Refusal.{Refusal}
use Rattle.slices.proofs.Impossible.{impossible}
use Rattle.crc.specs.Crc.{link_start, crc_of}
use Rattle.frame.specs.Stuffing as stuffing
use Rattle.frame.specs.Stuffing.{plain, content, Unstuffed, content_max, unstuff}
use Rattle.frame.specs.Content.{content_min, no_place, payload_of, frame, refused, judged}
use Rattle.frame.specs.Reading.{judged_content, read_run}
use Rattle.frame.specs.Places.{BadEscape, OneByte, PassesLimit, FailsCheck, Places, WithinLimits}
use Rattle.frame.proofs.BoundLaws.{unstuff_bounded, content_shorter}
use Rattle.frame.proofs.ContentLaws.{judged_bad}
use Rattle.frame.proofs.SentLaws.{place_within}
use Rattle.frame.proofs.ReadLaws.{run_refused, run_content}
use Rattle.frame.proofs.BrokenLaws.{Broken, broke}
use Rattle.frame.proofs.FaultPlaces.{escape_exactly, limit_exactly}

-- a refusal of unstuffing, by its number
broken_places : (run : List ℕ) (n : Refusal) (place : ℕ) → Broken run n place → Places run n place
broken_places run n place broken =
    ⊎_elim
    (λ one. let number = one.0 in record {
      of_1 = λ e. one.1;
      of_2 = λ e. impossible cc;
      of_4 = λ e. impossible cc;
      of_others = λ other e f. absurd (other number);
    })
    (λ two. let number = two.0 in record {
      of_1 = λ e. impossible cc;
      of_2 = λ e. two.1;
      of_4 = λ e. impossible cc;
      of_others = λ e other f. absurd (other number);
    })
    broken

-- a refusal of content
judged_places : (run c : List ℕ) (n : Refusal) (place : ℕ) → unstuff run ≡ content c → judged c ≡ refused n place → Places run n place
unfolding judged
judged_places run c n place found e = cases (ltb (length c) content_min) (eqb (crc_of link_start c) 0) refl refl e
  where
    cases : (t u : Bool) → ltb (length c) content_min ≡ t → eqb (crc_of link_start c) 0 ≡ u
        → cond t (refused short_content no_place) (cond u (frame (get_or c 0 0) (get_or c 1 0) (payload_of c)) (refused bad_check (length c))) ≡ refused n place
        → Places run n place
    cases true u f g e =
        let number : short_content ≡ n = cc in
        let none : place ≡ no_place = cc in
        record {
          of_1 = λ h. impossible cc;
          of_2 = λ h. impossible cc;
          of_4 = λ h. impossible cc;
          of_others = λ h i j. none;
        }
    cases false true f g e = impossible cc
    cases false false f g e =
        let number : n ≡ bad_check = cc in
        let size : place ≡ length c = cc in
        record {
          of_1 = λ h. impossible cc;
          of_2 = λ h. impossible cc;
          of_4 = λ h. record {
            held = c;
            no_fault = found;
            whole = ltb-false (length c) content_min f;
            fails = eqb-false (crc_of link_start c) 0 g;
            there = size;
          };
          of_others = λ h i other. absurd (other number);
        }

-- THEOREM (02, C-16). The place of a refused run says where it is broken.
pub run_places : (run : List ℕ) (n : Refusal) (place : ℕ) → read_run run ≡ refused n place → Places run n place
unfolding read_run
run_places run n place e = cases (unstuff run) refl e
  where
    cases : (found : Unstuffed) → unstuff run ≡ found → judged_content found ≡ refused n place → Places run n place
    cases (stuffing.content c) f e = judged_places run c n place f e
    cases (stuffing.refused m at) f e =
        let same : stuffing.refused m at ≡ stuffing.refused n place = let number : m ≡ n = cc in let there : at ≡ place = cc in rw (number, there) in
        broken_places run n place (broke run n place (f ∙ same))

module _ (run : List ℕ) (place : ℕ) where
  -- THEOREM (02, C-16). A run that is broken at a place is refused there.
  pub escape_read : BadEscape run place → read_run run ≡ refused bad_framing place
  escape_read b = run_refused run bad_framing place ((escape_exactly run place).1 b)

  pub limit_read : PassesLimit run place → read_run run ≡ refused long_content place
  limit_read b = run_refused run long_content place ((limit_exactly run place).1 b)

  pub check_read : FailsCheck run place → read_run run ≡ refused bad_check place
  check_read b =
      run_content run b.held b.no_fault ∙ judged_bad b.held b.whole b.fails ∙ ap (refused bad_check) (let size = b.there in omega arith)

-- the sent bytes of one byte are one or two
one_byte_size : (passing : List ℕ) → OneByte passing → 0 < length passing
one_byte_size [] one = absurd one
one_byte_size (x ∷ passing) one = omega arith

-- THEOREM (02, C-16). Places are within limits: 2 to 776 for 1, 388 to 776 for 2, 4 to 387 for 4.
pub places_limited : (run : List ℕ) (n : Refusal) (place : ℕ) → Places run n place → WithinLimits n place
unfolding unstuff
places_limited run n place p =
    record {
      of_1 = λ e.
          let b = p.of_1 e in
          let there = b.there in
          (omega arith, place_within run bad_framing place ((escape_exactly run place).1 b));
      of_2 = λ e.
          let b = p.of_2 e in
          let there = b.there in
          let full = b.full in
          let some = one_byte_size b.passing b.one_byte in
          let shorter = content_shorter plain 0 0 b.before b.held b.no_fault in
          (omega arith, place_within run long_content place ((limit_exactly run place).1 b));
      of_4 = λ e.
          let b = p.of_4 e in
          let there = b.there in
          let whole = b.whole in
          let bounded = unstuff_bounded plain 0 0 run b.held (omega arith) b.no_fault in
          (omega arith, omega arith);
    }
