-- What C wrote by one call another reads back, by the contracts of the exported functions (`Learnt`): the reports carry what the frame writer
-- and the whole-frame reader answer. The check that C is answered has the laws of the check.
use mathlib.Core.Path.{◌≡◌, refl, sym, ap, ◌∙◌, subst}
use mathlib.Core.Bool.{Bool, true, false, cond}
use mathlib.Core.List.{List, ◌++◌}
use Prim.Native.Nat.{ℕ, ◌≤◌, ◌<◌}
use native.Mathlib.Omega.{arith}
use lib.Bits.{bit_xor}
use lib.Dec.{ltb}
use lib.ListN.{length, take}
use Rattle.refusals.specs.Numbers.{short_output, long_payload}
use Rattle.slices.specs.ExclusiveOr.{xor_of}
use Rattle.slices.specs.Put.{put_at}
use Rattle.slices.specs.Written as writing
use Rattle.slices.specs.Written.{Output, fitted, written_bytes}
use Rattle.slices.proofs.PutLaws.{put_told}
use Rattle.slices.proofs.Lent.{InCall, InOutCall, in_call, in_out_call}
use Rattle.crc.specs.Burst.{Burst}
use Rattle.crc.specs.Crc.{crc_of, check_bytes}
use Rattle.crc.proofs.CrcLaws.{crc_checked}
use Rattle.crc.proofs.CheckCalls as check
use Rattle.frame.specs.Content.{no_place, payload_max, frame}
use Rattle.frame.specs.Writing.{frame_of, write_content, write_frame}
use Rattle.frame.specs.Reading.{read_frame}
use Rattle.frame.specs.Answers.{read_payload}
use Rattle.frame.proofs.FrameTheorems.{written_length, wrote_frame, written_read_back, written_bounded}
use Rattle.frame.proofs.FrameCalls.{sent_length, is_written}
use Rattle.host.specs.Report.{refusal_in, length_in, Parts, report_of, read_report, written_report, ReportsRead, ReportsWritten}
use Rattle.host.proofs.ReportLaws.{parts_read}
use Rattle.host.proofs.arznavik_crc.Reads as crc
use Rattle.host.proofs.arznavik_frame_check.Reads as frame_check
use Rattle.host.proofs.arznavik_frame_write.Reads as frame_write

-- a call of `arznavik_crc`, one of `arznavik_frame_write`, and one of `arznavik_frame_check`
abbrev pub Checks : (start : ℕ) (bytes : List ℕ) (answer : ℕ) → Type 0
Checks start = InCall crc.Asked crc.Learnt (λ bytes. (start, (bytes, tt)))

abbrev pub Writes : (kind sequence : ℕ) (payload before : List ℕ) (report : ℕ) (after : List ℕ) → Type 0
Writes kind sequence = InOutCall frame_write.Asked frame_write.Learnt (λ payload output. (kind, (sequence, (payload, (output, tt)))))

abbrev pub Reads : (bytes before : List ℕ) (report : ℕ) (after : List ℕ) → Type 0
Reads = InOutCall frame_check.Asked frame_check.Learnt (λ bytes output. (bytes, (output, tt)))

-- what such calls did, by the contracts
was_checked : {start : ℕ} {bytes : List ℕ} {answer : ℕ} → Checks start bytes answer → answer ≡ crc_of start bytes
was_checked c = rw c.input_lent.holds at c.learnt

was_written : {kind sequence : ℕ} {payload before : List ℕ} {report : ℕ} {after : List ℕ} → Writes kind sequence payload before report after
    → ReportsWritten (write_frame (length before) kind sequence payload) before report after
was_written w = rw (w.input_lent.holds, w.output_lent.holds, w.output_left.holds) at w.learnt

pub was_read : {bytes before : List ℕ} {report : ℕ} {after : List ℕ} → Reads bytes before report after
    → ReportsRead (read_frame (length before) bytes) before report after
was_read r = rw (r.input_lent.holds, r.output_lent.holds, r.output_left.holds) at r.learnt

-- THEOREM. The check over bytes with their check behind them is 0, for each start value.
pub checked_is_zero : (start : ℕ) (bytes : List ℕ) (check answer : ℕ) → Checks start bytes check → Checks start (bytes ++ check_bytes check) answer → answer ≡ 0
checked_is_zero start bytes check answer first second =
    was_checked second ∙ ap (λ (c : ℕ). crc_of start (bytes ++ check_bytes c)) (was_checked first) ∙ crc_checked start bytes

-- what C is answered is what `crc::check` answers
as_check : {start : ℕ} {bytes : List ℕ} {answer : ℕ} → Checks start bytes answer → check.Checks start bytes answer
as_check {start} {bytes} c = subst (check.Checks start bytes) (sym (was_checked c)) (check.all_bytes_are_checked start bytes)

-- THEOREM (02, C-24). For each start value the check of two strings joined is the second's, started from the first's check.
pub joined : (start : ℕ) (xs ys : List ℕ) (first second both : ℕ) → Checks start xs first → Checks first ys second → Checks start (xs ++ ys) both
    → both ≡ second
joined start xs ys first second both of-first of-second of-both =
    check.joined start xs ys first second both (as_check of-first) (as_check of-second) (as_check of-both)

-- THEOREM (02, C-24). For each start value the check of the bytewise exclusive-or of three strings of equal length is the exclusive-or of
-- their checks.
pub exclusive_or : (start : ℕ) (xs ys zs : List ℕ) (first second third all : ℕ) → length xs ≡ length ys → length ys ≡ length zs
    → Checks start xs first → Checks start ys second → Checks start zs third → Checks start (xor_of (xor_of xs ys) zs) all
    → all ≡ bit_xor (bit_xor first second) third
exclusive_or start xs ys zs first second third all two three of-first of-second of-third of-all =
    check.exclusive_or start xs ys zs first second third all two three (as_check of-first) (as_check of-second) (as_check of-third) (as_check of-all)

-- THEOREM (02, C-19). For each start value two contents of equal length that differ, and only within 16 adjacent bits, high bit first, do not
-- both have the check 0.
pub burst : (start : ℕ) (xs ys : List ℕ) → Burst xs ys → Checks start xs 0 → Checks start ys 0 → ⊥
burst start xs ys b of-first of-second = check.burst start xs ys b (as_check of-first) (as_check of-second)

-- what the writer does, by its two tests
abbrev outcome : ℕ → ℕ → List ℕ → Bool → Bool → Output
outcome kind sequence payload long short =
    cond long (writing.refused long_payload) (cond short (writing.refused short_output) (writing.written (frame_of kind sequence payload)))

-- a report without a refusal is that of a frame that was written
record Sent (room kind sequence : ℕ) (payload : List ℕ) (n : ℕ) (after : List ℕ) : Type 0 where
  bytes : List ℕ
  is : write_frame room kind sequence payload ≡ writing.written bytes
  first : take n after ≡ bytes

module _ (kind sequence : ℕ) (payload before : List ℕ) (report : ℕ) (after : List ℕ) (w : Writes kind sequence payload before report after) where
  sent : refusal_in report ≡ 0 → Sent (length before) kind sequence payload (length_in report) after
  unfolding write_frame write_content fitted
  sent none = by_tests (ltb payload_max (length payload)) (ltb (length before) (length (frame_of kind sequence payload))) refl (was_written w)
    where
      by_tests : (long short : Bool) → write_frame (length before) kind sequence payload ≡ outcome kind sequence payload long short
          → ReportsWritten (outcome kind sequence payload long short) before report after
          → Sent (length before) kind sequence payload (length_in report) after
      by_tests true short e did = absurd (let said = did.reports in omega arith)
      by_tests false true e did = absurd (let said = did.reports in omega arith)
      by_tests false false e did =
          let bytes = frame_of kind sequence payload in
          let fits = (wrote_frame (length before) kind sequence payload bytes e).fits in
          let few = written_bounded (length before) kind sequence payload bytes e in
          let parts = parts_read 0 0 0 (length bytes) no_place (omega arith) (omega arith) (omega arith) (omega (arith, few)) in
          let size : length_in report ≡ length bytes = ap length_in did.reports ∙ parts.of_size in
          record { bytes = bytes; is = e; first = put_told before after bytes (length_in report) did.frame size fits }

  -- THEOREM. Behind a call of `arznavik_frame_write` whose report has no refusal, as many bytes of its output as the report says, read by a
  -- call of `arznavik_frame_check` with an output of at least 383 bytes, are reported with type, sequence and the payload's length, and the
  -- payload stands at the start of that output. (Type and sequence are bytes.)
  pub call_read_back : kind < 0x100 → sequence < 0x100 → (out : List ℕ) (report₁ : ℕ) (out₁ : List ℕ) → refusal_in report ≡ 0
      → Reads (take (length_in report) after) out report₁ out₁ → payload_max ≤ length out
      → Parts report₁ 0 kind sequence (length payload) no_place × (out₁ ≡ put_at out 0 payload)
  call_read_back kind-byte sequence-byte out report₁ out₁ none r asked =
      let s = sent none in
      let few = (wrote_frame (length before) kind sequence payload s.bytes s.is).short in
      let back = written_read_back (length before) kind sequence payload s.bytes (length out) s.is asked in
      let is : read_frame (length out) (take (length_in report) after) ≡ frame kind sequence payload = rw s.first back in
      let did = was_read r in
      let said = did.reports ∙ ap read_report is in
      (rw said (parts_read 0 kind sequence (length payload) no_place (omega arith) kind-byte sequence-byte (omega (arith, few))), did.payload ∙ rw is)

  -- THEOREM. With a payload of at most 383 bytes and room for the frame, the report is its length without a refusal, and the frame stands at
  -- the start of the output.
  pub room_enough : length payload ≤ payload_max → sent_length kind sequence payload ≤ length before
      → (report ≡ report_of 0 0 0 (sent_length kind sequence payload) no_place) × (after ≡ put_at before 0 (frame_of kind sequence payload))
  room_enough short room =
      let is = is_written kind sequence payload before short room in
      let did = was_written w in
      (did.reports ∙ ap written_report is ∙ ap (λ (n : ℕ). report_of 0 0 0 n no_place) (written_length kind sequence payload), did.frame ∙ rw is)

-- Such calls are there for all that can be lent, since the contracts ask nothing.
pub all_bytes_are_checked : (start : ℕ) (bytes : List ℕ) → Checks start bytes (crc_of start bytes)
all_bytes_are_checked start bytes = in_call tt refl

pub all_payloads_are_judged : (kind sequence : ℕ) (payload out : List ℕ)
    → Writes kind sequence payload out (written_report (write_frame (length out) kind sequence payload))
    (put_at out 0 (written_bytes (write_frame (length out) kind sequence payload)))
all_payloads_are_judged kind sequence payload out = in_out_call tt (record { reports = refl; frame = refl })

pub all_bytes_are_read : (bytes out : List ℕ)
    → Reads bytes out (read_report (read_frame (length out) bytes)) (put_at out 0 (read_payload (read_frame (length out) bytes)))
all_bytes_are_read bytes out = in_out_call tt (record { reports = refl; payload = refl })
