-- 02, C-16, of the C calls: the report of a refused frame has its place, which is that of the frame reader.
use mathlib.Core.Path.{◌≡◌, refl, sym, ap, ◌∙◌}
use mathlib.Core.Bool.{Bool, true, false}
use mathlib.Core.List.{List}
use Prim.Native.Nat.{ℕ, ◌≤◌}
use native.Mathlib.Omega.{arith}
use lib.ListN.{length}
use Rattle.refusals.specs.Numbers.{bad_framing, long_content, bad_check, number_of}
use Rattle.refusals.specs.declared.Refusal.{Refusal}
use Rattle.frame.specs.Content.{payload_max, no_place, Read, frame, refused}
use Rattle.frame.specs.Places.{BadEscape, PassesLimit, FailsCheck, Places}
use Rattle.frame.specs.Reading.{first_flag, flagged_bytes, read_run, read_frame}
use Rattle.frame.specs.Writing.{between_flags}
use Rattle.frame.proofs.FlagLaws.{Flags, flagged_exactly}
use Rattle.frame.proofs.ReadLaws.{frame_unflagged}
use Rattle.frame.proofs.RefusalLaws.{run_number, reader_number}
use Rattle.frame.proofs.RunPlaces.{run_places, escape_read, limit_read, check_read}
use Rattle.frame.proofs.PlaceCalls.{frame_is_run, other_place}
use Rattle.host.specs.Report.{report_of, refusal_in, place_in, read_report, PlacesReported}
use Rattle.refusals.proofs.NumberLaws.{same_refusal}
use Rattle.host.proofs.ReportLaws.{parts_read}
use Rattle.host.proofs.HostCalls.{Reads, was_read}

by_number : (run : List ℕ) (number place : ℕ) (n : Refusal) → number ≡ number_of n → Places run n place → PlacesReported run number place
by_number run number place n is p =
    record {
      of_1 = λ f. p.of_1 (same_refusal n bad_framing (sym is ∙ f));
      of_2 = λ f. p.of_2 (same_refusal n long_content (sym is ∙ f));
      of_4 = λ f. p.of_4 (same_refusal n bad_check (sym is ∙ f));
      of_others = λ one two four.
          p.of_others (λ e. one (is ∙ ap number_of e)) (λ e. two (is ∙ ap number_of e)) (λ e. four (is ∙ ap number_of e));
    }

module _ (run out : List ℕ) (report : ℕ) (after : List ℕ) (r : Reads (between_flags run) out report after) (room : payload_max ≤ length out)
    (no_flag : first_flag run ≡ length run) where
  reported : report ≡ read_report (read_run run)
  reported = (was_read r).reports ∙ ap read_report (frame_is_run (length out) run room no_flag)

  -- THEOREM (02, C-16). Where the report of `arznavik_frame_check` on a run between two flags has a refusal, its place says where the run broke.
  pub reported_places : (refusal_in report ≡ 0 → ⊥) → PlacesReported run (refusal_in report) (place_in report)
  reported_places some = cases (read_run run) refl
    where
      cases : (found : Read) → read_run run ≡ found → PlacesReported run (refusal_in report) (place_in report)
      cases (frame kind sequence payload) e = absurd (some (let said = reported ∙ ap read_report e in omega arith))
      cases (refused n place) e =
          let number = run_number n place run e in
          let parts = parts_read (number_of n) 0 0 0 place (omega (arith, number.1)) (omega arith) (omega arith) (omega arith) in
          let said = reported ∙ ap read_report e in
          by_number run (refusal_in report) (place_in report) n (ap refusal_in said ∙ parts.of_number) (rw (ap place_in said ∙ parts.of_place) (run_places run n place e))

  -- THEOREM (02, C-16). A run that broke at a place is reported with that place.
  pub escape_reported : (place : ℕ) → BadEscape run place → report ≡ report_of (number_of bad_framing) 0 0 0 place
  escape_reported place b = reported ∙ ap read_report (escape_read run place b)

  pub limit_reported : (place : ℕ) → PassesLimit run place → report ≡ report_of (number_of long_content) 0 0 0 place
  limit_reported place b = reported ∙ ap read_report (limit_read run place b)

  pub check_reported : (place : ℕ) → FailsCheck run place → report ≡ report_of (number_of bad_check) 0 0 0 place
  check_reported place b = reported ∙ ap read_report (check_read run place b)

-- THEOREM (02, C-16). With room, bytes whose flags are wrong are reported with 1 and place 0.
pub unflagged_reported : (bytes out : List ℕ) (report : ℕ) (after : List ℕ) → Reads bytes out report after → payload_max ≤ length out
    → (Flags bytes → ⊥) → report ≡ report_of (number_of bad_framing) 0 0 0 no_place
unflagged_reported bytes out report after r room wrong = cases (flagged_bytes bytes) refl
  where
    cases : (t : Bool) → flagged_bytes bytes ≡ t → report ≡ report_of (number_of bad_framing) 0 0 0 no_place
    cases true e = absurd (wrong ((flagged_exactly bytes).0 e))
    cases false e = (was_read r).reports ∙ ap read_report (frame_unflagged (length out) bytes room e)

-- THEOREM (02, C-16). Whatever the bytes and the output: a report with another refusal than 1, 2 and 4 has place 0.
pub others_reported : (bytes out : List ℕ) (report : ℕ) (after : List ℕ) → Reads bytes out report after → (refusal_in report ≡ 0 → ⊥)
    → (refusal_in report ≡ number_of bad_framing → ⊥) → (refusal_in report ≡ number_of long_content → ⊥) → (refusal_in report ≡ number_of bad_check → ⊥) → place_in report ≡ no_place
others_reported bytes out report after r some one two four = cases (read_frame (length out) bytes) refl
  where
    cases : (found : Read) → read_frame (length out) bytes ≡ found → place_in report ≡ no_place
    cases (frame kind sequence payload) e = absurd (some (let said = (was_read r).reports ∙ ap read_report e in omega arith))
    cases (refused n place) e =
        let number = reader_number n place (length out) bytes e in
        let parts = parts_read (number_of n) 0 0 0 place (omega (arith, number.1)) (omega arith) (omega arith) (omega arith) in
        let said = (was_read r).reports ∙ ap read_report e in
        let is : refusal_in report ≡ number_of n = ap refusal_in said ∙ parts.of_number in
        ap place_in said ∙ parts.of_place
        ∙ other_place (length out) bytes n place e (λ f. one (is ∙ ap number_of f)) (λ f. two (is ∙ ap number_of f)) (λ f. four (is ∙ ap number_of f))
