-- 01, The receiver: "each flag after the first ends one frame and begins the next". The frames that a history closed, in order, with the
-- minutes, sends and timeouts between them, and the sequences of the data frames.
use Rattle.std.specs.Prelude.{ℕ, ◌≡◌, List, [], ◌∷◌, ◌++◌}
use Rattle.std.proofs.Math.Option.{Option, some, none}
use Rattle.ledger.specs.Frames.{Turn, goes_on, closes, turn, Frame, refused, acknowledgement, good, frame_of}
use Rattle.ledger.specs.History.{Event, byte, minute, send, timeout}

-- what a history comes to: minutes, the frames that were closed, and our sends and timeouts
pub data Mark : Type 0 where
  passed : Mark
  frame : Frame → Mark
  sent : List ℕ → Mark
  timed_out : Mark

-- a byte goes on with the run, or closes a frame and begins an empty run
abbrev pub behind_turn : Turn → (Option (List ℕ) → List Mark) → List Mark
behind_turn (goes_on run) rest = rest run
behind_turn (closes run) rest = frame (frame_of run) ∷ rest (some [])

unfoldable pub marks_from : Option (List ℕ) → List Event → List Mark
marks_from run [] = []
marks_from run (byte b ∷ events) = behind_turn (turn run b) (λ run₁. marks_from run₁ events)
marks_from run (minute ∷ events) = passed ∷ marks_from run events
marks_from run (send payload ∷ events) = sent payload ∷ marks_from run events
marks_from run (timeout ∷ events) = timed_out ∷ marks_from run events

-- at first there is no run
abbrev pub marks_in : List Event → List Mark
marks_in events = marks_from none events

-- the frames alone
unfoldable pub frames_of : List Mark → List Frame
frames_of [] = []
frames_of (passed ∷ marks) = frames_of marks
frames_of (frame f ∷ marks) = f ∷ frames_of marks
frames_of (sent payload ∷ marks) = frames_of marks
frames_of (timed_out ∷ marks) = frames_of marks

abbrev pub frames_in : List Event → List Frame
frames_in events = frames_of (marks_in events)

-- further events close one frame
abbrev pub Closes : List Event → List Event → Frame → Type 0
Closes events further f = frames_in (events ++ further) ≡ frames_in events ++ (f ∷ [])

-- the sequences of the good data frames, new ones and repeated ones
unfoldable pub data_sequences : List Frame → List ℕ
data_sequences [] = []
data_sequences (refused n place ∷ frames) = data_sequences frames
data_sequences (acknowledgement sequence ∷ frames) = data_sequences frames
data_sequences (good sequence payload ∷ frames) = sequence ∷ data_sequences frames

-- the last of some numbers, or what was there before them
unfoldable pub last_from : Option ℕ → List ℕ → Option ℕ
last_from before [] = before
last_from before (n ∷ more) = last_from (some n) more

-- the sequence of the last data frame in a history, whatever came behind it that was none; none before the first
abbrev pub last_sequence : List Event → Option ℕ
last_sequence events = last_from none (data_sequences (frames_in events))
