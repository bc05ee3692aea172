-- 02, C-13: our own frames, read off a history: what the sender holds after it, and what went out to the module.
use Rattle.std.specs.Prelude.{ℕ, List, [], ◌∷◌, ◌++◌}
use Rattle.ledger.specs.Ledger.{Sender, none_sent}
use Rattle.ledger.specs.Frames.{Frame, refused, acknowledgement, good}
use Rattle.ledger.specs.Answers as answers
use Rattle.ledger.specs.Answers.{Sending}
use Rattle.ledger.specs.Sending.{own_frame, sends, times_out, acknowledged}
use Rattle.ledger.specs.Calls.{answer_to}
use Rattle.ledger.specs.History.{Event}
use Rattle.ledger.specs.ClosedFrames.{Mark, passed, frame, sent, timed_out, marks_in}

-- of the frames from the module only an acknowledgement concerns the sender
abbrev pub sender_behind_frame : Sender → Frame → Sender
sender_behind_frame s (refused n place) = s
sender_behind_frame s (acknowledgement sequence) = acknowledged s sequence
sender_behind_frame s (good sequence payload) = s

abbrev pub sender_behind : Sender → Mark → Sender
sender_behind s passed = s
sender_behind s (frame f) = sender_behind_frame s f
sender_behind s (sent payload) = (sends s payload).sender
sender_behind s timed_out = (times_out s).sender

unfoldable pub sender_from : Sender → List Mark → Sender
sender_from s [] = s
sender_from s (mark ∷ marks) = sender_from (sender_behind s mark) marks

-- the sender after a history
abbrev pub sender_in : List Event → Sender
sender_in events = sender_from none_sent (marks_in events)

-- the frame that goes out with an answer
abbrev pub frames_with : Sending → List (List ℕ)
frames_with answers.idle = []
frames_with (answers.refused n) = []
frames_with (answers.sent sequence payload) = own_frame sequence payload ∷ []
frames_with (answers.repeated sequence payload) = own_frame sequence payload ∷ []
frames_with (answers.dropped held) = []

-- a data frame from the module is acknowledged
abbrev pub answers_to : Frame → List (List ℕ)
answers_to (refused n place) = []
answers_to (acknowledgement sequence) = []
answers_to (good sequence payload) = answer_to sequence ∷ []

abbrev pub replies_with : Sender → Mark → List (List ℕ)
replies_with s passed = []
replies_with s (frame f) = answers_to f
replies_with s (sent payload) = frames_with (sends s payload).answer
replies_with s timed_out = frames_with (times_out s).answer

unfoldable pub replies_from : Sender → List Mark → List (List ℕ)
replies_from s [] = []
replies_from s (mark ∷ marks) = replies_with s mark ++ replies_from (sender_behind s mark) marks

-- acknowledgements, sends and repeats, in order
abbrev pub replies_in : List Event → List (List ℕ)
replies_in events = replies_from none_sent (marks_in events)
