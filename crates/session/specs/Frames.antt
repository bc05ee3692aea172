-- 02, C-21: the frames that we send. Each has as AFC the last good number as its event leaves it, and as OFC our counter; a frame that is sent
-- again keeps its own.
use Rattle.std.specs.Prelude.{ℕ, Bool, true, false, List, [], ◌∷◌, ◌++◌}
use Rattle.slices.specs.Written.{written_bytes}
use Rattle.ash.specs.Writing.{write_frame}
use Rattle.session.specs.Control.{control_byte}
use Rattle.ash.specs.Size.{frame_max}
use Rattle.session.specs.State.{kept}
use Rattle.session.specs.declared.counters.OFC.{OFC}
use Rattle.session.specs.declared.counters.AFC.{AFC}
use Rattle.session.specs.declared.control.Kind.{Kind}
use Rattle.session.specs.declared.control.Kind.TheVariants.{Ack}
use Rattle.session.specs.declared.state.Held.{Held}
use Rattle.session.specs.declared.state.Held.TheVariants.{Nothing, One, Two}
use Rattle.session.specs.declared.state.Session.{Session}

-- a frame that is sent: its type, its counters, and its data before stuffing
pub record Sent : Type 0 where
  pub kind : Kind
  pub ofc : OFC
  pub afc : AFC
  pub payload : List ℕ

abbrev pub empty_frame : Kind → Session → Sent
empty_frame kind s = record { kind = kind; ofc = s.counter; afc = s.good; payload = [] }

-- data goes out in an ACK
abbrev pub data_frame : OFC → AFC → List ℕ → Sent
data_frame number good payload = record { kind = Ack; ofc = number; afc = good; payload = payload }

-- those still held, oldest first
abbrev pub held_frames : Held → Session → List Sent
held_frames Nothing s = []
held_frames (One older) s = data_frame older s.good (kept s.older) ∷ []
held_frames (Two older newer) s = data_frame older s.good (kept s.older) ∷ data_frame newer s.good (kept s.newer) ∷ []

abbrev pub repeats_of : Session → List Sent
repeats_of s = held_frames s.held s

abbrev pub repeats_if : Bool → Session → List Sent
repeats_if true s = repeats_of s
repeats_if false s = []

-- C-11's frame of a control byte and data; data that it does not take gives no bytes
unfoldable pub frame_bytes : ℕ → List ℕ → List ℕ
frame_bytes control payload = written_bytes (write_frame frame_max control payload)

abbrev pub sent_bytes : Sent → List ℕ
sent_bytes f = frame_bytes (control_byte f.kind f.ofc f.afc) f.payload

-- the frames one behind the other
unfoldable pub bytes_of : List Sent → List ℕ
bytes_of [] = []
bytes_of (f ∷ fs) = sent_bytes f ++ bytes_of fs
