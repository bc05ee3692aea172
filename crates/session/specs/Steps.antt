-- Steps of `receive`: the frames that are sent again, and what it does once they are in the output.
use Rattle.std.specs.Prelude.{ℕ, ◌+◌, ◌≡◌, Bool, List, length}
use Rattle.slices.specs.Put.{put_at}
use Rattle.session.specs.Frames.{repeats_if, bytes_of}
use Rattle.session.specs.Results.{done, PutsAs}
use Rattle.session.specs.Receiving.{ack_for}
use Rattle.session.specs.declared.state.Held.TheVariants.{Nothing}
use Rattle.session.specs.declared.state.Outcome.{Outcome}
use Rattle.session.specs.declared.state.Session.{Session}

-- the held frames, if they are to be sent again
pub record RepeatsAs (again : Bool) (s : Session) (output : List ℕ) (count : ℕ) (output₁ : List ℕ) : Type 0 where
  pub puts : PutsAs (repeats_if again s) output 0 count output₁

-- behind so many bytes that were sent before
pub record AnswersAs (s : Session) (payload : List ℕ) (sent : ℕ) (output handed : List ℕ) (outcome : Outcome) (output₁ handed₁ : List ℕ) : Type 0 where
  pub answers : outcome ≡ done s (sent + length (bytes_of (ack_for s payload))) (length payload) Nothing
  pub sends : output₁ ≡ put_at output sent (bytes_of (ack_for s payload))
  pub hands_up : handed₁ ≡ put_at handed 0 payload
