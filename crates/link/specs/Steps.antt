-- Steps of the receiver's code: what its functions below `receive` answer and leave in the lent arrays.
use Rattle.std.specs.Prelude.{◌≡◌, ℕ, List, length}
use Rattle.slices.specs.Put.{put_at}
use Rattle.link.specs.declared.reader.Reader.{Reader}
use Rattle.link.specs.declared.walk.Walked.{Walked}
use Rattle.link.specs.declared.closing.Closed.{Closed}
use Rattle.link.specs.Reader.{Step, content_after}
use Rattle.link.specs.Walk.{Walk}
use Rattle.link.specs.Closing.{acknowledgement, Outcome}

-- one byte that is no flag: the reader after it, and the content with what it brings
pub record StepsAs (step : Step) (held : ℕ) (content : List ℕ) (answer : Reader) (exit : List ℕ) : Type 0 where
  pub answers : answer ≡ step.reader
  pub array : exit ≡ content_after content held step

-- a walk over a piece: how far it came, and the content that it left
abbrev pub walk_answer : Walk → Walked
walk_answer w = record { reader = w.reader; taken = w.taken; ended = w.ended }

pub record WalksAs (walk : Walk) (answer : Walked) (exit : List ℕ) : Type 0 where
  pub answers : answer ≡ walk_answer walk
  pub array : exit ≡ walk.content

-- a closed frame: what it leaves, and what is put at the start of the two buffers
abbrev pub closed_by : Outcome → Closed
closed_by o = record { state = record { last = o.last; counts = o.counts }; answer = o.answer }

pub record ClosesAs (o : Outcome) (reply₀ packet₀ : List ℕ) (result : Closed) (reply₁ packet₁ : List ℕ) : Type 0 where
  pub answers : result ≡ closed_by o
  pub replied : reply₁ ≡ put_at reply₀ 0 o.reply
  pub handed_out : packet₁ ≡ put_at packet₀ 0 o.packet

-- the acknowledgement of a data frame: its length, and its bytes at the start of the reply buffer
pub record AcknowledgesAs (sequence : ℕ) (reply₀ : List ℕ) (size : ℕ) (reply₁ : List ℕ) : Type 0 where
  pub answers : size ≡ length (acknowledgement sequence)
  pub replied : reply₁ ≡ put_at reply₀ 0 (acknowledgement sequence)
