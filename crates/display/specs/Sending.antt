-- 02, C-13: a send and a timeout concern the sender alone.
use Rattle.std.specs.Prelude.{ℕ, ◌≡◌, List}
use Rattle.slices.specs.Put.{put_at}
use Rattle.sender.specs.Events.{Given}
use Rattle.sender.specs.declared.state.Outcome.{Outcome}
use Rattle.sender.specs.declared.state.Sender.{Sender}
use Rattle.display.specs.declared.Display.{Display}
use Rattle.display.specs.declared.sending.Outgoing.{Outgoing}

abbrev pub with_sender : Display → Sender → Display
with_sender display sender = record { link = display.link; sender = sender; board = display.board }

abbrev pub sent_by : Display → Outcome → Outgoing
sent_by display outcome = record { display = with_sender display outcome.sender; answer = outcome.answer }

-- what the sender gives is answered, and what it sends stands at the start of the output; all else there stays
pub record SendsAs (before : Display) (given : Given) (output : List ℕ) (result : Outgoing) (output₁ : List ℕ) : Type 0 where
  pub answers : result ≡ sent_by before given.outcome
  pub sends : output₁ ≡ put_at output 0 given.output
