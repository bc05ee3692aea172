-- 02, C-19, of the frame check that C calls: what the reader does not take is reported with a refusal, so of two frames damaged so not both go without.
use mathlib.Core.Path.{◌≡◌, refl}
use mathlib.Core.List.{List}
use Prim.Native.Nat.{ℕ}
use native.Mathlib.Omega.{arith}
use lib.ListN.{length}
use Rattle.frame.specs.Content.{Read, frame, refused}
use Rattle.frame.specs.Damage.{Damaged, IsTaken}
use Rattle.frame.specs.Reading.{read_frame}
use Rattle.frame.specs.Writing.{between_flags}
use Rattle.frame.proofs.DamagedFrames.{not_both_taken}
use Rattle.frame.proofs.RefusalLaws.{reader_number}
use Rattle.host.specs.Report.{refusal_in, read_report}
use Rattle.host.proofs.HostCalls.{Reads, was_read}

-- a report without a refusal is that of a frame that was taken
reported : (string before : List ℕ) (report : ℕ) (after : List ℕ) → Reads string before report after → refusal_in report ≡ 0
    → IsTaken (read_frame (length before) string)
reported string before report after r none = cases (read_frame (length before) string) refl (was_read r).reports
  where
    cases : (found : Read) → read_frame (length before) string ≡ found → report ≡ read_report found → IsTaken found
    cases (frame kind sequence payload) f e = tt
    cases (refused n place) f e = let known = reader_number n place (length before) string f in absurd (omega (arith, known.0, known.1))

-- THEOREM (02, C-19). Of two frames that differ, and only within the sent bytes of two neighbouring content bytes with every 7d in its place, not
-- both are reported without a refusal; nor of two whose contents differ only within 16 adjacent bits.
pub damaged_frame : (sent arrived : List ℕ) → Damaged sent arrived → (out after out₁ after₁ : List ℕ) (report report₁ : ℕ)
    → Reads (between_flags sent) out report after → Reads (between_flags arrived) out₁ report₁ after₁ → refusal_in report ≡ 0 → refusal_in report₁ ≡ 0 → ⊥
damaged_frame sent arrived damage out after out₁ after₁ report report₁ r r₁ none none₁ =
    not_both_taken sent arrived damage (length out) (length out₁) (reported (between_flags sent) out report after r none)
    (reported (between_flags arrived) out₁ report₁ after₁ r₁ none₁)
