-- Calls of the frame writer and the reader, by the contracts that the toolchain reads off the source (`Learnt`): a contract that says less
-- breaks what is built on this.
use mathlib.Core.Path.{◌≡◌, refl, sym, ap, ◌∙◌}
use mathlib.Core.List.{List}
use Prim.Native.Nat.{ℕ, ◌+◌, ◌≤◌}
use lib.ListN.{length, take}
use Rattle.std.specs.Prelude.{Result, Ok}
use Rattle.refusals.specs.declared.Refusal.{Refusal}
use Rattle.slices.proofs.Impossible.{impossible}
use Rattle.slices.specs.Put.{put_at}
use Rattle.slices.proofs.PutLaws.{put_told}
use Rattle.slices.proofs.Lent.{InOutCall, in_out_call}
use Rattle.slices.specs.Written.{write_answer, written_bytes, WritesAs}
use Rattle.slices.proofs.WrittenLaws.{told}
use Rattle.ash.specs.Stuffing.{payload_max, stuff}
use Rattle.ash.specs.Writing.{frame_of, write_frame}
use Rattle.ash.specs.Reading as reading
use Rattle.ash.specs.Reading.{read_frame}
use Rattle.ash.specs.Answers.{frame_read, read_answer, read_payload, ReadsAs}
use Rattle.ash.specs.declared.reader.Frame.{Frame}
use Rattle.ash.proofs.WriteLaws.{frame_length, room_enough}
use Rattle.ash.proofs.FrameTheorems.{wrote_frame}
use Rattle.ash.proofs.OnlyWritten.{taken_fits}
use Rattle.ash.proofs.writer.write_frame.Reads as write_frame_call
use Rattle.ash.proofs.reader.read_frame.Reads as read_frame_call

-- a call of `write_frame`, and one of `read_frame`: an output is lent as it was before, and left as it is after
abbrev pub Writes : (control : ℕ) (payload before : List ℕ) (answer : Result ℕ Refusal) (after : List ℕ) → Type 0
Writes control = InOutCall write_frame_call.Asked write_frame_call.Learnt (λ payload output. (control, (payload, (output, tt))))

abbrev pub Reads : (bytes before : List ℕ) (answer : Result Frame Refusal) (after : List ℕ) → Type 0
Reads = InOutCall read_frame_call.Asked read_frame_call.Learnt (λ bytes output. (bytes, (output, tt)))

-- what such calls did, by the contracts
pub was_written : {control : ℕ} {payload before : List ℕ} {answer : Result ℕ Refusal} {after : List ℕ} → Writes control payload before answer after
    → WritesAs (write_frame (length before) control payload) before answer after
was_written w = rw (w.input_lent.holds, w.output_lent.holds, w.output_left.holds) at w.learnt

pub was_read : {bytes before : List ℕ} {answer : Result Frame Refusal} {after : List ℕ} → Reads bytes before answer after
    → ReadsAs (read_frame (length before) bytes) before answer after
was_read r = rw (r.input_lent.holds, r.output_lent.holds, r.output_left.holds) at r.learnt

-- a frame is answered only where one was found
record Found (result : reading.Read) (control n : ℕ) : Type 0 where
  payload : List ℕ
  is : result ≡ reading.frame control payload
  size : n ≡ length payload

found : (result : reading.Read) (control n : ℕ) → Ok (frame_read control n) ≡ read_answer result → Found result control n
found (reading.frame c p) control n e =
    let same : frame_read control n ≡ frame_read c (length p) = cc in
    let first : c ≡ control = sym (ap (λ (f : Frame). f.control) same) in
    record { payload = p; is = ap (λ (x : ℕ). reading.frame x p) first; size = ap (λ (f : Frame). f.length) same }
found (reading.refused m) control n e = impossible cc

-- where a call answered a length n, the payload is of at most 57 bytes as sent and the first n bytes of the output are its frame
pub record FrameOut (control : ℕ) (payload : List ℕ) (n : ℕ) (after : List ℕ) : Type 0 where
  pub short : length (stuff payload) ≤ payload_max
  pub is : take n after ≡ frame_of control payload

pub frame_out : {control : ℕ} {payload before : List ℕ} {n : ℕ} {after : List ℕ} → Writes control payload before (Ok n) after
    → FrameOut control payload n after
frame_out {control} {payload} {before} {n} {after} w =
    let t = told (write_frame (length before) control payload) before n after (was_written w) in
    let frame = wrote_frame (length before) control payload t.bytes t.is in
    record { short = frame.short; is = put_told before after t.bytes n t.put t.size frame.fits ∙ frame.is }

-- where a control byte and n were answered, the first n bytes of the output are the payload of the frame
pub frame_found : (bytes before : List ℕ) (control n : ℕ) (after : List ℕ) → ReadsAs (read_frame (length before) bytes) before (Ok (frame_read control n)) after
    → read_frame (length before) bytes ≡ reading.frame control (take n after)
frame_found bytes before control n after did =
    let f = found (read_frame (length before) bytes) control n did.answers in
    let put : after ≡ put_at before 0 f.payload = did.output ∙ ap (λ (x : reading.Read). put_at before 0 (read_payload x)) f.is in
    let fits = taken_fits (length before) bytes control f.payload f.is in
    rw (put_told before after f.payload n put f.size fits) f.is

pub frame_in : {bytes before : List ℕ} {control n : ℕ} {after : List ℕ} → Reads bytes before (Ok (frame_read control n)) after
    → read_frame (length before) bytes ≡ reading.frame control (take n after)
frame_in {bytes} {before} {control} {n} {after} r = frame_found bytes before control n after (was_read r)

-- Such calls are there, since the contracts ask nothing: one for all that can be lent.
pub all_payloads_are_written : (control : ℕ) (payload before : List ℕ)
    → Writes control payload before (write_answer (write_frame (length before) control payload))
    (put_at before 0 (written_bytes (write_frame (length before) control payload)))
all_payloads_are_written control payload before = in_out_call tt (record { answers = refl; put = refl })

pub all_bytes_are_read : (bytes before : List ℕ)
    → Reads bytes before (read_answer (read_frame (length before) bytes)) (put_at before 0 (read_payload (read_frame (length before) bytes)))
all_bytes_are_read bytes before = in_out_call tt (record { answers = refl; output = refl })

-- A payload of at most 57 bytes as sent, lent with room for its frame, is answered by the frame's length.
pub every_frame_is_written : (control : ℕ) (payload before : List ℕ) → length (stuff payload) ≤ payload_max
    → 7 + length (stuff payload) ≤ length before
    → Writes control payload before (Ok (7 + length (stuff payload))) (put_at before 0 (frame_of control payload))
every_frame_is_written control payload before short fits =
    rw (← frame_length control payload) (rw (room_enough (length before) control payload short fits) at (all_payloads_are_written control payload before))
