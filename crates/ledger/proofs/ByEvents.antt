-- The ledger event by event: what one byte, one minute, one send or one timeout does to it, what it tells, and which frame it closes.
-- Histories one behind the other do one after the other.
use mathlib.Core.Path.{◌≡◌, refl, sym, ap, ◌∙◌}
use mathlib.Core.Bool.{Bool, true, false, cond}
use mathlib.Core.List.{List, [], ◌∷◌, ◌++◌, append_assoc}
use mathlib.Core.Option.{Option, some}
use Prim.Native.Nat.{ℕ}
use lib.Dec.{eqb}
use Rattle.refusals.specs.Numbers.{short_output, number_of}
use Rattle.ledger.specs.Ledger.{Ledger, with_sender}
use Rattle.ledger.specs.Frames as frames
use Rattle.ledger.specs.Frames.{Turn, goes_on, closes, turn, Frame, frame_of}
use Rattle.ledger.specs.Answers as answers
use Rattle.ledger.specs.Answers.{Answer, nothing, refused, heard, again, new, Sending}
use Rattle.ledger.specs.Sending.{SenderStep, sends, times_out}
use Rattle.ledger.specs.Calls as calls
use Rattle.ledger.specs.Calls.{repeated, closed, with_run}
use Rattle.ledger.specs.History.{Event, byte, minute, send, timeout}
use Rattle.ledger.specs.ClosedFrames.{Mark, passed, frame, sent, timed_out, behind_turn, marks_from, frames_of, data_sequences, last_from}
use Rattle.ledger.proofs.LineLaws.{run_kept, repeats_last, read_sequence}

-- an answer to a piece, or to a send or a timeout
pub data Told : Type 0 where
  by_piece : Answer → Told
  from_sender : Sending → Told

-- of the ledger's answers those that do not depend on where a piece was cut, as History `answers_as` has it of the software's
abbrev pub told_by : Answer → List Told
told_by nothing = []
told_by (refused n place) = cond (eqb (number_of n) (number_of short_output)) [] (by_piece (refused n place) ∷ [])
told_by (heard sequence) = by_piece (heard sequence) ∷ []
told_by (again sequence) = by_piece (again sequence) ∷ []
told_by (new sequence payload verdict) = by_piece (new sequence payload verdict) ∷ []

-- and those of sends and timeouts that were not refused
abbrev pub sending_told : Sending → List Told
sending_told answers.idle = from_sender answers.idle ∷ []
sending_told (answers.refused n) = []
sending_told (answers.sent sequence payload) = from_sender (answers.sent sequence payload) ∷ []
sending_told (answers.repeated sequence payload) = from_sender (answers.repeated sequence payload) ∷ []
sending_told (answers.dropped lost) = from_sender (answers.dropped lost) ∷ []

pub record Happening : Type 0 where
  pub ledger : Ledger
  pub told : List Told

abbrev pub by_sender : Ledger → SenderStep → Happening
by_sender l s = record { ledger = with_sender l s.sender; told = from_sender s.answer ∷ [] }

abbrev pub at_turn : Ledger → Turn → Happening
at_turn l (goes_on run) = record { ledger = with_run l run; told = [] }
at_turn l (closes run) =
    record { ledger = (closed (with_run l (some [])) (frame_of run)).ledger; told = told_by (closed (with_run l (some [])) (frame_of run)).answer }

abbrev pub happens : Ledger → Event → Happening
happens l (byte b) = at_turn l (turn l.line.run b)
happens l minute =
    record { ledger = calls.after_tick l; told = [] }
happens l (send payload) = by_sender l (sends l.sender payload)
happens l timeout = by_sender l (times_out l.sender)

unfoldable pub after_history : Ledger → List Event → Ledger
after_history l [] = l
after_history l (e ∷ es) = after_history (happens l e).ledger es

unfoldable pub told_in_history : Ledger → List Event → List Told
told_in_history l [] = []
told_in_history l (e ∷ es) = (happens l e).told ++ told_in_history (happens l e).ledger es

pub history_append : (l : Ledger) (xs ys : List Event) → after_history l (xs ++ ys) ≡ after_history (after_history l xs) ys
unfolding after_history
history_append l [] ys = refl
history_append l (x ∷ xs) ys = history_append (happens l x).ledger xs ys

pub told_append : (l : Ledger) (xs ys : List Event) → told_in_history l (xs ++ ys) ≡ told_in_history l xs ++ told_in_history (after_history l xs) ys
unfolding told_in_history after_history
told_append l [] ys = refl
told_append l (x ∷ xs) ys =
    ap (λ (r : List Told). (happens l x).told ++ r) (told_append (happens l x).ledger xs ys)
    ∙ sym (append_assoc (happens l x).told (told_in_history (happens l x).ledger xs) (told_in_history (after_history (happens l x).ledger xs) ys))

marks_append : (l : Ledger) (xs ys : List Event) → marks_from l.line.run (xs ++ ys) ≡ marks_from l.line.run xs ++ marks_from (after_history l xs).line.run ys
unfolding marks_from after_history
marks_append l [] ys = refl
marks_append l (minute ∷ xs) ys = ap (λ (ms : List Mark). passed ∷ ms) (marks_append (happens l minute).ledger xs ys)
marks_append l (send payload ∷ xs) ys = ap (λ (ms : List Mark). sent payload ∷ ms) (marks_append (happens l (send payload)).ledger xs ys)
marks_append l (timeout ∷ xs) ys = ap (λ (ms : List Mark). timed_out ∷ ms) (marks_append (happens l timeout).ledger xs ys)
marks_append l (byte b ∷ xs) ys = by_turn (turn l.line.run b) (λ m. marks_append m xs ys)
  where
    by_turn : (t : Turn) → ((m : Ledger) → marks_from m.line.run (xs ++ ys) ≡ marks_from m.line.run xs ++ marks_from (after_history m xs).line.run ys)
        → behind_turn t (λ run. marks_from run (xs ++ ys)) ≡ behind_turn t (λ run. marks_from run xs) ++ marks_from (after_history (at_turn l t).ledger xs).line.run ys
    by_turn (goes_on run) rest = rest (with_run l run)
    by_turn (closes run) rest =
        let m = (closed (with_run l (some [])) (frame_of run)).ledger in
        let empty : m.line.run ≡ some [] = run_kept (with_run l (some [])) (frame_of run) in
        ap (λ (ms : List Mark). frame (frame_of run) ∷ ms) (rw empty at (rest m))

frames_joined : (xs ys : List Mark) → frames_of (xs ++ ys) ≡ frames_of xs ++ frames_of ys
unfolding frames_of
frames_joined [] ys = refl
frames_joined (passed ∷ xs) ys = frames_joined xs ys
frames_joined (sent payload ∷ xs) ys = frames_joined xs ys
frames_joined (timed_out ∷ xs) ys = frames_joined xs ys
frames_joined (frame f ∷ xs) ys = ap (λ (fs : List Frame). f ∷ fs) (frames_joined xs ys)

pub frames_append : (l : Ledger) (xs ys : List Event)
    → frames_of (marks_from l.line.run (xs ++ ys)) ≡ frames_of (marks_from l.line.run xs) ++ frames_of (marks_from (after_history l xs).line.run ys)
frames_append l xs ys = ap frames_of (marks_append l xs ys) ∙ frames_joined (marks_from l.line.run xs) (marks_from (after_history l xs).line.run ys)

-- the ledger's last sequence is that of the last data frame that was closed
closed_sequence : (l : Ledger) (f : Frame) (fs : List Frame)
    → last_from (closed l f).ledger.line.sequence (data_sequences fs) ≡ last_from l.line.sequence (data_sequences (f ∷ fs))
unfolding data_sequences last_from
closed_sequence l (frames.refused k place) fs = refl
closed_sequence l (frames.acknowledgement sequence) fs = refl
closed_sequence l (frames.good sequence payload) fs = ap (λ (o : Option ℕ). last_from o (data_sequences fs)) (by_last (repeated l.line.sequence sequence) refl)
  where
    by_last : (t : Bool) → repeated l.line.sequence sequence ≡ t
        → (cond t (calls.repeated_frame l sequence) (calls.new_frame l sequence payload)).ledger.line.sequence ≡ some sequence
    by_last true e = repeats_last l.line.sequence sequence e
    by_last false e = read_sequence l sequence (calls.reading_by l payload)

pub history_sequence : (l : Ledger) (es : List Event) → (after_history l es).line.sequence ≡ last_from l.line.sequence (data_sequences (frames_of (marks_from l.line.run es)))
unfolding marks_from frames_of after_history last_from data_sequences
history_sequence l [] = refl
history_sequence l (minute ∷ es) = history_sequence (happens l minute).ledger es
history_sequence l (send payload ∷ es) = history_sequence (happens l (send payload)).ledger es
history_sequence l (timeout ∷ es) = history_sequence (happens l timeout).ledger es
history_sequence l (byte b ∷ es) = by_turn (turn l.line.run b) (λ m. history_sequence m es)
  where
    by_turn : (t : Turn) → ((m : Ledger) → (after_history m es).line.sequence ≡ last_from m.line.sequence (data_sequences (frames_of (marks_from m.line.run es))))
        → (after_history (at_turn l t).ledger es).line.sequence ≡ last_from l.line.sequence (data_sequences (frames_of (behind_turn t (λ run. marks_from run es))))
    by_turn (goes_on run) rest = rest (with_run l run)
    by_turn (closes run) rest =
        let m = (closed (with_run l (some [])) (frame_of run)).ledger in
        let empty : m.line.run ≡ some [] = run_kept (with_run l (some [])) (frame_of run) in
        rw empty at (rest m) ∙ closed_sequence (with_run l (some [])) (frame_of run) (frames_of (marks_from (some []) es))
