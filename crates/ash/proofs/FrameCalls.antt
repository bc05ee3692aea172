-- What one call wrote another reads back, no call takes any other frame, and no call sends a reserved byte but the flag and payload
-- escapes: of calls by the contracts that run, since the output of a call is the frame that the definitions say.
use mathlib.Core.Path.{◌≡◌, refl, ap, ◌∙◌}
use mathlib.Core.Bool.{true}
use mathlib.Core.List.{List, []}
use mathlib.Core.Logic.{◌⊎◌}
use Prim.Native.Nat.{ℕ, ◌+◌, ◌≤◌}
use lib.ListN.{length, take, get_or}
use Rattle.std.specs.Prelude.{Result, Ok, Err}
use Rattle.refusals.specs.declared.Refusal.{Refusal}
use Rattle.slices.proofs.Impossible.{impossible}
use Rattle.slices.specs.Put.{put_at}
use Rattle.slices.specs.Written as writing
use Rattle.slices.specs.Written.{write_answer}
use Rattle.slices.proofs.WrittenLaws.{refusal_keeps}
use Rattle.ash.specs.Reserved.{flag_byte, reserved}
use Rattle.ash.specs.Stuffing.{payload_max, stuff}
use Rattle.ash.specs.Writing.{frame_of, write_frame}
use Rattle.ash.specs.Reading as reading
use Rattle.ash.specs.Reading.{read_frame}
use Rattle.ash.specs.Answers.{frame_read, read_answer, read_payload}
use Rattle.ash.specs.declared.reader.Frame.{Frame}
use Rattle.ash.proofs.WriteLaws.{frame_length, room_enough}
use Rattle.ash.proofs.FrameTheorems.{frame_read_back, written_wherever}
use Rattle.ash.proofs.OnlyWritten.{only_written}
use Rattle.ash.proofs.FreeFrames.{PayloadEscape, only_flag_and_escapes}
use Rattle.ash.proofs.Calls.{Writes, Reads, was_written, was_read, frame_out, frame_in}

-- what the definitions read, each call answers and hands out
pub call_reads : (bytes : List ℕ) (control : ℕ) (payload before : List ℕ) (answer : Result Frame Refusal) (after : List ℕ)
    → read_frame (length before) bytes ≡ reading.frame control payload → Reads bytes before answer after
    → (answer ≡ Ok (frame_read control (length payload))) × (after ≡ put_at before 0 payload)
call_reads bytes control payload before answer after is r =
    let did = was_read r in
    (did.answers ∙ ap read_answer is, did.output ∙ rw is)

-- what they write, each call with room for it answers and puts at the start of its output
pub call_writes : (control : ℕ) (payload bytes : List ℕ) (room : ℕ) (out : List ℕ) (answer : Result ℕ Refusal) (sent : List ℕ)
    → write_frame room control payload ≡ writing.written bytes → Writes control payload out answer sent → length bytes ≤ length out
    → (answer ≡ Ok (length bytes)) × (sent ≡ put_at out 0 bytes)
call_writes control payload bytes room out answer sent e w fits =
    let is : write_frame (length out) control payload ≡ writing.written bytes = written_wherever room control payload bytes (length out) e fits in
    let did = was_written w in
    (did.answers ∙ ap write_answer is, did.put ∙ rw is)

-- THEOREM. A call of `write_frame` with a payload of at most 57 bytes as sent and room for its frame answers the frame's length and puts the
-- frame at the start of its output.
pub call_sends : (control : ℕ) (payload out : List ℕ) (answer : Result ℕ Refusal) (sent : List ℕ) → Writes control payload out answer sent
    → length (stuff payload) ≤ payload_max → 7 + length (stuff payload) ≤ length out
    → (answer ≡ Ok (7 + length (stuff payload))) × (sent ≡ put_at out 0 (frame_of control payload))
call_sends control payload out answer sent w short fits =
    let size = frame_length control payload in
    let is = room_enough (length out) control payload short fits in
    let did = call_writes control payload (frame_of control payload) (length out) out answer sent is w (rw size fits) in
    (did.0 ∙ ap Ok size, did.1)

-- THEOREM. Behind a call of `write_frame` that answered n, the first n bytes of its output, read by a call of `read_frame` with an output
-- of at least 57 bytes, are answered by the control byte and the payload's length, and the payload stands at the start of that output.
pub call_read_back : (control : ℕ) (payload out : List ℕ) (n : ℕ) (sent before : List ℕ) (answer : Result Frame Refusal) (after : List ℕ)
    → Writes control payload out (Ok n) sent → Reads (take n sent) before answer after → payload_max ≤ length before
    → (answer ≡ Ok (frame_read control (length payload))) × (after ≡ put_at before 0 payload)
call_read_back control payload out n sent before answer after w r asked =
    let f = frame_out w in
    let is : read_frame (length before) (take n sent) ≡ reading.frame control payload = rw f.is (frame_read_back control payload (length before) asked f.short) in
    call_reads (take n sent) control payload before answer after is r

-- THEOREM. Where a call of `read_frame` answered a control byte and n, the bytes that it was lent are exactly those that the writer writes
-- for that control byte and the first n bytes of the output.
pub call_only_written : (bytes before : List ℕ) (control n : ℕ) (after : List ℕ)
    → Reads bytes before (Ok (frame_read control n)) after → write_frame (length bytes) control (take n after) ≡ writing.written bytes
call_only_written bytes before control n after r = only_written (length before) bytes control (take n after) (frame_in r)

-- THEOREM. And a call of `write_frame` with that control byte and those n bytes, with room for as many bytes as were read, answers their
-- number and puts exactly them at the start of its output.
pub call_written_again : (bytes before : List ℕ) (control n : ℕ) (after out : List ℕ) (answer : Result ℕ Refusal) (sent : List ℕ)
    → Reads bytes before (Ok (frame_read control n)) after → Writes control (take n after) out answer sent → length bytes ≤ length out
    → (answer ≡ Ok (length bytes)) × (sent ≡ put_at out 0 bytes)
call_written_again bytes before control n after out answer sent r w fits =
    call_writes control (take n after) bytes (length bytes) out answer sent (call_only_written bytes before control n after r) w fits

-- THEOREM. Behind a call of `write_frame` that answered n, a reserved byte among the first n bytes of its output is the first of them, the
-- flag, or an escape byte of the payload, with the byte behind it that stands, bit 5 flipped, for a reserved one.
pub call_only_flag_and_escapes : (control : ℕ) (payload out : List ℕ) (n : ℕ) (sent : List ℕ) → Writes control payload out (Ok n) sent
    → (i : ℕ) → reserved (get_or (take n sent) i 0) ≡ true
    → ((i ≡ 0) × (get_or (take n sent) i 0 ≡ flag_byte)) ⊎ PayloadEscape (take n sent) i
call_only_flag_and_escapes control payload out n sent w i = rw (frame_out w).is (only_flag_and_escapes control payload i)

no_payload : (result : reading.Read) (m : Refusal) → Err m ≡ read_answer result → read_payload result ≡ []
no_payload (reading.frame control payload) m e = impossible cc
no_payload (reading.refused k) m e = refl

-- THEOREM. A call of either that answered a refusal left its output as it was.
pub call_refused : ((control : ℕ) (payload out : List ℕ) (m : Refusal) (sent : List ℕ) → Writes control payload out (Err m) sent → sent ≡ out)
    × ((bytes before : List ℕ) (m : Refusal) (after : List ℕ) → Reads bytes before (Err m) after → after ≡ before)
call_refused = (
  λ control payload out m sent w. refusal_keeps (write_frame (length out) control payload) out m sent (was_written w),
  λ bytes before m after r.
      let did = was_read r in
      did.output ∙ rw (no_payload (read_frame (length before) bytes) m did.answers),
)
