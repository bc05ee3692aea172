-- What an event gives, how it is answered, and what it leaves in the lent buffers: what is sent or handed up stands at their start, all else
-- stays.
use Rattle.std.specs.Prelude.{ℕ, ◌≡◌, List, [], length, Ok, Err}
use Rattle.refusals.specs.declared.Refusal.{Refusal}
use Rattle.slices.specs.Put.{put_at}
use Rattle.session.specs.Frames.{Sent, bytes_of}
use Rattle.session.specs.declared.state.Held.{Held}
use Rattle.session.specs.declared.state.Session.{Session}
use Rattle.session.specs.declared.state.Outcome.{Outcome}
use Rattle.session.specs.declared.state.Done.{Done}

-- the session, the frames sent in order, the payload handed up, and the frames reported as dropped
pub record Given : Type 0 where
  pub session : Session
  pub frames : List Sent
  pub handed : List ℕ
  pub dropped : Held

pub data Result : Type 0 where
  refused : Refusal → Result
  given : Given → Result

abbrev pub frames_sent : Result → List Sent
frames_sent (refused n) = []
frames_sent (given g) = g.frames

abbrev pub payload_handed : Result → List ℕ
payload_handed (refused n) = []
payload_handed (given g) = g.handed

abbrev pub refusing : Session → Refusal → Outcome
refusing s n = record { session = s; answer = Err n }

abbrev pub gave : ℕ → ℕ → Held → Done
gave sent payload dropped = record { sent = sent; payload = payload; dropped = dropped }

abbrev pub done : Session → ℕ → ℕ → Held → Outcome
done s sent payload dropped = record { session = s; answer = Ok (gave sent payload dropped) }

-- a refusal leaves the session as it was
abbrev pub outcome_of : Session → Result → Outcome
outcome_of s (refused n) = refusing s n
outcome_of s (given g) = done g.session (length (bytes_of g.frames)) (length g.handed) g.dropped

pub record SendsAs (before : Session) (result : Result) (output : List ℕ) (outcome : Outcome) (output₁ : List ℕ) : Type 0 where
  pub answers : outcome ≡ outcome_of before result
  pub sends : output₁ ≡ put_at output 0 (bytes_of (frames_sent result))

pub record HandsAs (before : Session) (result : Result) (output handed : List ℕ) (outcome : Outcome) (output₁ handed₁ : List ℕ) : Type 0 where
  pub answers : outcome ≡ outcome_of before result
  pub sends : output₁ ≡ put_at output 0 (bytes_of (frames_sent result))
  pub hands_up : handed₁ ≡ put_at handed 0 (payload_handed result)

-- frames that are put from a place on, with their length answered
pub record PutsAs (frames : List Sent) (output : List ℕ) (at : ℕ) (count : ℕ) (output₁ : List ℕ) : Type 0 where
  pub counts : count ≡ length (bytes_of frames)
  pub puts : output₁ ≡ put_at output at (bytes_of frames)
