-- 02, C-16, of calls: the place that `read_frame` answers says where the frame broke, and a frame that is broken so is answered so. The reader
-- tests the room and the flags, which have no place, and then reads the run between them.
use mathlib.Core.Path.{◌≡◌, refl, sym, ap, ◌∙◌}
use mathlib.Core.Bool.{Bool, true, false, cond}
use mathlib.Core.List.{List, [], ◌∷◌, ◌++◌}
use Prim.Native.Nat.{ℕ, suc, ◌≤◌}
use native.Mathlib.Omega.{arith}
use lib.Dec.{eqb, ltb}
use lib.ListN.{length, length-append}
use borrow.Author.Tests.{eq-eqb}
use Rattle.refusals.specs.Numbers.{bad_framing, long_content, bad_check, short_output}
use Rattle.std.specs.Prelude.{Result, Err}
use Rattle.refusals.specs.declared.Refusal.{Refusal}
use Rattle.frame.specs.Stuffing.{flag_byte}
use Rattle.frame.specs.Content.{payload_max, no_place, refused}
use Rattle.frame.specs.Writing.{between_flags}
use Rattle.frame.specs.Reading.{first_flag, flagged_bytes, between, read_run, read_frame}
use Rattle.frame.specs.Places.{BadEscape, PassesLimit, FailsCheck, Places}
use Rattle.frame.specs.Answers.{read_answer, fault_at}
use Rattle.frame.specs.declared.content.Frame.{Frame}
use Rattle.frame.specs.declared.content.Fault.{Fault}
use Rattle.frame.proofs.ContentLaws.{answer_refused}
use Rattle.frame.proofs.ReadLaws.{frame_run}
use Rattle.frame.proofs.FrameTheorems.{between_flags_law}
use Rattle.frame.proofs.FrameCalls.{Reads, was_read}
use Rattle.frame.proofs.RunPlaces.{run_places, escape_read, limit_read, check_read}

-- behind a run without a flag the closing flag is the first
closing_flag_first : (run : List ℕ) → first_flag run ≡ length run → first_flag (run ++ (flag_byte ∷ [])) ≡ length run
unfolding first_flag
closing_flag_first [] e = refl
closing_flag_first (b ∷ run) e = cases (eqb b flag_byte) e (closing_flag_first run)
  where
    cases : (t : Bool) → cond t 0 (suc (first_flag run)) ≡ suc (length run)
        → (first_flag run ≡ length run → first_flag (run ++ (flag_byte ∷ [])) ≡ length run)
        → cond t 0 (suc (first_flag (run ++ (flag_byte ∷ [])))) ≡ suc (length run)
    cases true e rest = absurd (omega arith)
    cases false e rest = ap suc (rest (omega arith))

flags_right : (run : List ℕ) → first_flag run ≡ length run → flagged_bytes (between_flags run) ≡ true
unfolding flagged_bytes
flags_right run none =
    let size = length-append run (flag_byte ∷ []) in
    eq-eqb (suc (first_flag (run ++ (flag_byte ∷ [])))) (length (run ++ (flag_byte ∷ []))) (omega (arith, size, closing_flag_first run none))

pub frame_is_run : (room : ℕ) (run : List ℕ) → payload_max ≤ room → first_flag run ≡ length run → read_frame room (between_flags run) ≡ read_run run
frame_is_run room run asked none = frame_run room (between_flags run) asked (flags_right run none) ∙ ap read_run (between_flags_law run)

module _ (run out : List ℕ) (answer : Result Frame Fault) (after : List ℕ) (r : Reads (between_flags run) out answer after) (room : payload_max ≤ length out)
    (no_flag : first_flag run ≡ length run) where
  answered : answer ≡ read_answer (read_run run)
  answered = (was_read r).answers ∙ ap read_answer (frame_is_run (length out) run room no_flag)

  -- THEOREM (02, C-16). Where a call of `read_frame` with room refuses a run between two flags, the place says where it broke.
  pub told_places : (n : Refusal) (place : ℕ) → answer ≡ Err (fault_at n place) → Places run n place
  told_places n place e = run_places run n place (answer_refused (read_run run) n place (sym e ∙ answered))

  -- THEOREM (02, C-16). A run that broke at a place is refused with that place.
  pub escape_told : (place : ℕ) → BadEscape run place → answer ≡ Err (fault_at bad_framing place)
  escape_told place b = answered ∙ ap read_answer (escape_read run place b)

  pub limit_told : (place : ℕ) → PassesLimit run place → answer ≡ Err (fault_at long_content place)
  limit_told place b = answered ∙ ap read_answer (limit_read run place b)

  pub check_told : (place : ℕ) → FailsCheck run place → answer ≡ Err (fault_at bad_check place)
  check_told place b = answered ∙ ap read_answer (check_read run place b)

-- other refusals than 1, 2 and 4 have place 0, whatever the bytes
pub other_place : (room : ℕ) (bytes : List ℕ) (n : Refusal) (place : ℕ) → read_frame room bytes ≡ refused n place
    → (n ≡ bad_framing → ⊥) → (n ≡ long_content → ⊥) → (n ≡ bad_check → ⊥) → place ≡ no_place
unfolding read_frame
other_place room bytes n place e one two four = cases (ltb room payload_max) (flagged_bytes bytes) e
  where
    cases : (t u : Bool) → cond t (refused short_output no_place) (cond u (read_run (between bytes)) (refused bad_framing no_place)) ≡ refused n place → place ≡ no_place
    cases true u e = let none : place ≡ no_place = cc in none
    cases false true e = (run_places (between bytes) n place e).of_others one two four
    cases false false e = let none : place ≡ no_place = cc in none

-- THEOREM (02, C-16). Whatever the bytes and the output: other refusals of a call of `read_frame` give place 0.
pub others_told : (bytes out after : List ℕ) (n : Refusal) (place : ℕ) → Reads bytes out (Err (fault_at n place)) after
    → (n ≡ bad_framing → ⊥) → (n ≡ long_content → ⊥) → (n ≡ bad_check → ⊥) → place ≡ no_place
others_told bytes out after n place r =
    other_place (length out) bytes n place (answer_refused (read_frame (length out) bytes) n place (was_read r).answers)
