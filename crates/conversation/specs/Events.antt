-- 02, C-21: the events, and what the ledger says of each: a refusal; or the frames sent in order, the payload handed up, and the numbers of the
-- frames reported as dropped.
use Rattle.std.specs.Prelude.{ℕ, List, [], ◌∷◌, ◌++◌}
use Rattle.refusals.specs.declared.Refusal.{Refusal}
use Rattle.ash.specs.Writing.{frame_of}
use Rattle.session.specs.Counters.{of_ours, of_peers}
use Rattle.session.specs.Control.{control_byte}
use Rattle.session.specs.declared.control.Kind.{Kind}
use Rattle.conversation.specs.Ledger.{Ledger, on_line}

-- with the bytes that are lent: the output, and for a frame of the peer's the buffer for its payload
pub data Event : Type 0 where
  reset : (output : List ℕ) → Event
  send : (payload output : List ℕ) → Event
  receive : (frame output handed : List ℕ) → Event
  timeout : (output : List ℕ) → Event

-- a frame that is sent, with its numbers as the ledger has them
pub record Sent : Type 0 where
  pub kind : Kind
  pub ofc : ℕ
  pub afc : ℕ
  pub payload : List ℕ

abbrev pub control_on : Sent → ℕ
control_on f = control_byte f.kind (of_ours (on_line f.ofc)) (of_peers (on_line f.afc))

-- the frame on the line, by C-11
abbrev pub frame_on : Sent → List ℕ
frame_on f = frame_of (control_on f) f.payload

unfoldable pub line_of : List Sent → List ℕ
line_of [] = []
line_of (f ∷ fs) = frame_on f ++ line_of fs

pub data Told : Type 0 where
  refused : Refusal → Told
  told : (frames : List Sent) (handed : List ℕ) (dropped : List ℕ) → Told

pub record Effect : Type 0 where
  pub ledger : Ledger
  pub says : Told

abbrev pub frames_in : Told → List Sent
frames_in (refused n) = []
frames_in (told frames handed dropped) = frames

abbrev pub handed_in : Told → List ℕ
handed_in (refused n) = []
handed_in (told frames handed dropped) = handed
