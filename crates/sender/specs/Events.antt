-- 02, C-13: what a send and a timeout give, and their refusals in their order.
use Rattle.std.specs.Prelude.{ℕ, Option, Some, None, ◌≡◌, cond, List, [], ltb, length}
use Rattle.refusals.specs.Numbers.{frame_waiting}
use Rattle.slices.specs.Put.{put_at}
use Rattle.slices.specs.Written as writer
use Rattle.slices.specs.Written.{Output}
use Rattle.frame.specs.Content.{data_type}
use Rattle.frame.specs.Writing.{write_frame}
use Rattle.sender.specs.State.{kept, holding, repeated, freed}
use Rattle.sender.specs.declared.state.Held.{Held}
use Rattle.sender.specs.declared.state.Sender.{Sender}
use Rattle.sender.specs.declared.state.Answer.{Answer}
use Rattle.sender.specs.declared.state.Answer.TheVariants.{Nothing, Refused, Sent, Repeated, Dropped}
use Rattle.sender.specs.declared.state.Outcome.{Outcome}

-- the sender after an event and the answer, with the bytes put at the start of the output
pub record Given : Type 0 where
  pub outcome : Outcome
  pub output : List ℕ

-- an event that sends nothing
abbrev pub quiet : Sender → Answer → Given
quiet s answer = record { outcome = record { sender = s; answer = answer }; output = [] }

-- a frame goes out, or what the writer refuses (8, then 7) refuses the event, which then leaves the sender as it was
abbrev pub goes_out : Output → Sender → Sender → (ℕ → Answer) → Given
goes_out (writer.written bytes) before behind says = record { outcome = record { sender = behind; answer = says (length bytes) }; output = bytes }
goes_out (writer.refused n) before behind says = quiet before (Refused n)

-- the frame of the next sequence, which is then held
abbrev pub sent_next : Sender → List ℕ → ℕ → Given
sent_next s payload room = goes_out (write_frame room data_type s.next payload) s (holding s payload) (Sent s.next)

-- a send: 25, a frame is still waiting, before 8 and 7
abbrev pub send_from : Option Held → Sender → List ℕ → ℕ → Given
send_from (Some held) s payload room = quiet s (Refused frame_waiting)
send_from None s payload room = sent_next s payload room

unfoldable pub send_of : Sender → List ℕ → ℕ → Given
send_of s payload room = send_from s.held s payload room

-- a timeout event sends the same frame again the first two times
abbrev pub repeats_max : ℕ
repeats_max = 2

abbrev pub sent_again : Sender → ℕ → ℕ → ℕ → Given
sent_again s sequence repeats room =
    goes_out (write_frame room data_type sequence (kept s.payload)) s (repeated s sequence repeats) (Repeated sequence)

-- the third drops and reports it; with nothing held it changes nothing
abbrev pub timeout_from : Option Held → Sender → ℕ → Given
timeout_from None s room = quiet s Nothing
timeout_from (Some held) s room =
    cond (ltb held.repeats repeats_max) (sent_again s held.sequence held.repeats room) (quiet (freed s) (Dropped held.sequence))

unfoldable pub timeout_of : Sender → ℕ → Given
timeout_of s room = timeout_from s.held s room

-- what is given is answered, and what is sent stands at the start of the output; all else there stays
pub record SendsAs (given : Given) (output : List ℕ) (outcome : Outcome) (output₁ : List ℕ) : Type 0 where
  pub answers : outcome ≡ given.outcome
  pub sends : output₁ ≡ put_at output 0 given.output
