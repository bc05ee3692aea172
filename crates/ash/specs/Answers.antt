-- What the functions promise: their answers as results, and the lent bytes, from the definitions of the papers' words.
use Rattle.std.specs.Prelude.{ℕ, ◌≡◌, List, [], length, Result, Ok, Err}
use Rattle.refusals.specs.declared.Refusal.{Refusal}
use Rattle.slices.specs.Put.{put_at}
use Rattle.ash.specs.Reading as reading
use Rattle.ash.specs.declared.reader.Frame.{Frame}

-- control byte and the payload's length
abbrev pub frame_read : ℕ → ℕ → Frame
frame_read control n = record { control = control; length = n }

-- the reader's answer: the frame, or the refusal
abbrev pub read_answer : reading.Read → Result Frame Refusal
read_answer (reading.frame control payload) = Ok (frame_read control (length payload))
read_answer (reading.refused n) = Err n

-- the payload that is handed out; none at a refusal
abbrev pub read_payload : reading.Read → List ℕ
read_payload (reading.frame control payload) = payload
read_payload (reading.refused n) = []

-- what was read is answered, and its payload put at the start of the output
pub record ReadsAs (found : reading.Read) (out : List ℕ) (answer : Result Frame Refusal) (exit : List ℕ) : Type 0 where
  pub answers : answer ≡ read_answer found
  pub output : exit ≡ put_at out 0 (read_payload found)
