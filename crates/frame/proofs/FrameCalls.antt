-- What one call wrote another reads back, and every frame that has room is written, by the contracts that the toolchain reads off the
-- source (`Learnt`): a contract that says less breaks this.
use mathlib.Core.Path.{◌≡◌, refl, ap, ◌∙◌}
use mathlib.Core.List.{List}
use Prim.Native.Nat.{ℕ, ◌+◌, ◌≤◌}
use lib.ListN.{length, take}
use Rattle.std.specs.Prelude.{Result, Ok, Err}
use Rattle.refusals.specs.declared.Refusal.{Refusal}
use Rattle.slices.proofs.Impossible.{impossible}
use Rattle.slices.specs.Put.{put_at}
use Rattle.slices.proofs.PutLaws.{put_told}
use Rattle.slices.proofs.Lent.{InOutCall, in_out_call}
use Rattle.slices.specs.Written.{written, write_answer, written_bytes, WritesAs}
use Rattle.slices.proofs.WrittenLaws.{told, refusal_keeps}
use Rattle.frame.specs.Stuffing.{escapes}
use Rattle.frame.specs.Content as content
use Rattle.frame.specs.Content.{payload_max, content_of, Read, frame}
use Rattle.frame.specs.Writing.{frame_of, write_frame}
use Rattle.frame.specs.Reading.{read_frame}
use Rattle.frame.specs.Answers.{read_answer, read_payload, ReadsAs, frame_found, fault_at}
use Rattle.frame.specs.declared.content.Frame.{Frame}
use Rattle.frame.specs.declared.content.Fault.{Fault}
use Rattle.frame.proofs.WriteLaws.{content_room, payload_allowed}
use Rattle.frame.proofs.FrameTheorems.{written_length, wrote_frame, written_read_back}
use Rattle.frame.proofs.writer.write_frame.Reads as write_frame_call
use Rattle.frame.proofs.reader.read_frame.Reads as read_frame_call

-- a call of `write_frame`, and one of `read_frame`
abbrev pub Writes : (kind sequence : ℕ) (payload before : List ℕ) (answer : Result ℕ Refusal) (after : List ℕ) → Type 0
Writes kind sequence = InOutCall write_frame_call.Asked write_frame_call.Learnt (λ payload output. (kind, (sequence, (payload, (output, tt)))))

abbrev pub Reads : (bytes before : List ℕ) (answer : Result Frame Fault) (after : List ℕ) → Type 0
Reads = InOutCall read_frame_call.Asked read_frame_call.Learnt (λ bytes output. (bytes, (output, tt)))

-- what such calls did, by the contracts
was_written : {kind sequence : ℕ} {payload before : List ℕ} {answer : Result ℕ Refusal} {after : List ℕ} → Writes kind sequence payload before answer after
    → WritesAs (write_frame (length before) kind sequence payload) before answer after
was_written w = rw (w.input_lent.holds, w.output_lent.holds, w.output_left.holds) at w.learnt

pub was_read : {bytes before : List ℕ} {answer : Result Frame Fault} {after : List ℕ} → Reads bytes before answer after
    → ReadsAs (read_frame (length before) bytes) before answer after
was_read r = rw (r.input_lent.holds, r.output_lent.holds, r.output_left.holds) at r.learnt

-- a length is answered only for a frame that was written, and so many bytes of the output are the frame
record Sent (room kind sequence : ℕ) (payload : List ℕ) (n : ℕ) (after : List ℕ) : Type 0 where
  bytes : List ℕ
  is : write_frame room kind sequence payload ≡ written bytes
  first : take n after ≡ bytes

module _ (kind sequence : ℕ) (payload before after : List ℕ) where
  sent : (n : ℕ) → Writes kind sequence payload before (Ok n) after → Sent (length before) kind sequence payload n after
  sent n w =
      let t = told (write_frame (length before) kind sequence payload) before n after (was_written w) in
      let fits = (wrote_frame (length before) kind sequence payload t.bytes t.is).fits in
      record { bytes = t.bytes; is = t.is; first = put_told before after t.bytes n t.put t.size fits }

  -- THEOREM. Behind a call of `write_frame` that answered n, the first n bytes of its output, read by a call of `read_frame` with an output
  -- of at least 383 bytes, are answered by type, sequence and the payload's length, and the payload stands at the start of that output.
  pub call_read_back : (n : ℕ) (out : List ℕ) (answer : Result Frame Fault) (out₁ : List ℕ)
      → Writes kind sequence payload before (Ok n) after → Reads (take n after) out answer out₁ → payload_max ≤ length out
      → (answer ≡ Ok (frame_found kind sequence (length payload))) × (out₁ ≡ put_at out 0 payload)
  call_read_back n out answer out₁ w r asked =
      let s = sent n w in
      let back = written_read_back (length before) kind sequence payload s.bytes (length out) s.is asked in
      let is : read_frame (length out) (take n after) ≡ frame kind sequence payload = rw s.first back in
      let did = was_read r in
      (did.answers ∙ ap read_answer is, did.output ∙ rw is)

  -- a refused call leaves the output as it was, of the writer and of the reader
  pub refused_write_keeps : (m : Refusal) → Writes kind sequence payload before (Err m) after → after ≡ before
  refused_write_keeps m w = refusal_keeps (write_frame (length before) kind sequence payload) before m after (was_written w)

pub refused_read_keeps : (bytes before : List ℕ) (m : Refusal) (place : ℕ) (after : List ℕ) → Reads bytes before (Err (fault_at m place)) after → after ≡ before
refused_read_keeps bytes before m place after r = cases (read_frame (length before) bytes) (was_read r)
  where
    cases : (found : Read) → ReadsAs found before (Err (fault_at m place)) after → after ≡ before
    cases (content.refused k at) did = did.output
    cases (frame kind sequence payload) did = let a = did.answers in impossible cc

-- 01, Frames: the written length is 6 plus the payload length plus the number of 7d and 7e bytes in content
abbrev pub sent_length : ℕ → ℕ → List ℕ → ℕ
sent_length kind sequence payload = 6 + length payload + escapes (content_of kind sequence payload)

module _ (kind sequence : ℕ) (payload out : List ℕ) where
  -- there is a call of the writer for every input, since the contract asks nothing
  pub every_payload_is_judged :
      Writes kind sequence payload out (write_answer (write_frame (length out) kind sequence payload))
      (put_at out 0 (written_bytes (write_frame (length out) kind sequence payload)))
  every_payload_is_judged = in_out_call tt (record { answers = refl; put = refl })

  module _ (short : length payload ≤ payload_max) (room : sent_length kind sequence payload ≤ length out) where
    pub is_written : write_frame (length out) kind sequence payload ≡ written (frame_of kind sequence payload)
    is_written =
        payload_allowed (length out) kind sequence payload short
        ∙ content_room (length out) (content_of kind sequence payload) (sent_length kind sequence payload) (written_length kind sequence payload) room

    -- THEOREM. Every call of `write_frame` with a payload of at most 383 bytes and room for the frame writes it and answers its length,
    -- whatever the type and the sequence.
    pub room_enough : (answer : Result ℕ Refusal) (after : List ℕ) → Writes kind sequence payload out answer after
        → (answer ≡ Ok (sent_length kind sequence payload)) × (after ≡ put_at out 0 (frame_of kind sequence payload))
    room_enough answer after w =
        let did = was_written w in
        (did.answers ∙ rw (is_written, written_length kind sequence payload), did.put ∙ rw is_written)

    -- and there is such a call
    pub every_frame_is_written : Writes kind sequence payload out (Ok (sent_length kind sequence payload)) (put_at out 0 (frame_of kind sequence payload))
    every_frame_is_written = rw (is_written, written_length kind sequence payload) at every_payload_is_judged

-- there is a call of the reader for all bytes and every output
pub all_bytes_are_read : (bytes out : List ℕ)
    → Reads bytes out (read_answer (read_frame (length out) bytes)) (put_at out 0 (read_payload (read_frame (length out) bytes)))
all_bytes_are_read bytes out = in_out_call tt (record { answers = refl; output = refl })
