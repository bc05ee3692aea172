-- 01, The receiver and The board: what goes to the board in a history, in order: the ticks, and the payloads of the data frames that were
-- closed and not repeated at once. It is read off the bytes taken and the ticks alone.
use Rattle.std.specs.Prelude.{ℕ, Bool, true, false, List, [], ◌∷◌}
use Rattle.std.proofs.Math.Option.{Option, some, none}
use Rattle.ledger.specs.Frames.{Frame, refused, acknowledgement, good}
use Rattle.ledger.specs.Calls.{repeated}
use Rattle.ledger.specs.History.{Event}
use Rattle.ledger.specs.ClosedFrames.{Mark, passed, frame, sent, timed_out, marks_in}

pub data BoardEvent : Type 0 where
  tick : BoardEvent
  packet : List ℕ → BoardEvent

abbrev pub unless_repeated : Bool → List ℕ → List BoardEvent → List BoardEvent
unless_repeated true payload rest = rest
unless_repeated false payload rest = packet payload ∷ rest

-- a frame that was closed, by the sequence of the data frame before it
abbrev pub behind_frame : Frame → Option ℕ → (Option ℕ → List BoardEvent) → List BoardEvent
behind_frame (refused n place) last rest = rest last
behind_frame (acknowledgement sequence) last rest = rest last
behind_frame (good sequence payload) last rest = unless_repeated (repeated last sequence) payload (rest (some sequence))

unfoldable pub board_events_of : Option ℕ → List Mark → List BoardEvent
board_events_of last [] = []
board_events_of last (passed ∷ marks) = tick ∷ board_events_of last marks
board_events_of last (frame f ∷ marks) = behind_frame f last (λ last₁. board_events_of last₁ marks)
board_events_of last (sent payload ∷ marks) = board_events_of last marks
board_events_of last (timed_out ∷ marks) = board_events_of last marks

-- at first no data frame came
abbrev pub board_events_in : List Event → List BoardEvent
board_events_in events = board_events_of none (marks_in events)

-- the packets among them
unfoldable pub packets_in : List BoardEvent → List (List ℕ)
packets_in [] = []
packets_in (tick ∷ events) = packets_in events
packets_in (packet payload ∷ events) = payload ∷ packets_in events
