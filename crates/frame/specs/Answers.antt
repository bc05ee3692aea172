-- What the functions promise: their answers as results, and the lent bytes, from the definitions of the papers' words.
use Rattle.std.specs.Prelude.{ℕ, ◌≡◌, List, [], length, Result, Ok, Err}
use Rattle.refusals.specs.declared.Refusal.{Refusal}
use Rattle.slices.specs.Put.{put_at}
use Rattle.frame.specs.Content as content
use Rattle.frame.specs.declared.content.Frame.{Frame}
use Rattle.frame.specs.declared.content.Fault.{Fault}

-- type, sequence and the payload's length; and a refusal with its place
abbrev pub frame_found : ℕ → ℕ → ℕ → Frame
frame_found kind sequence n = record { kind = kind; sequence = sequence; length = n }

abbrev pub fault_at : Refusal → ℕ → Fault
fault_at n place = record { refusal = n; place = place }

-- the reader's answer
abbrev pub read_answer : content.Read → Result Frame Fault
read_answer (content.frame kind sequence payload) = Ok (frame_found kind sequence (length payload))
read_answer (content.refused n place) = Err (fault_at n place)

-- the payload that is handed out; none at a refusal
abbrev pub read_payload : content.Read → List ℕ
read_payload (content.frame kind sequence payload) = payload
read_payload (content.refused n place) = []

-- what was read is answered, and its payload put at the start of the output
pub record ReadsAs (found : content.Read) (out : List ℕ) (answer : Result Frame Fault) (exit : List ℕ) : Type 0 where
  pub answers : answer ≡ read_answer found
  pub output : exit ≡ put_at out 0 (read_payload found)
