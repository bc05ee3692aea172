-- The packets that are handed out are those that went to the board: a data frame that is closed and not repeated at once is answered as new,
-- with its payload, and no other frame is.
use mathlib.Core.Path.{◌≡◌, refl, sym, ap, ◌∙◌}
use mathlib.Core.Bool.{Bool, true, false}
use mathlib.Core.List.{List, [], ◌∷◌, ◌++◌}
use mathlib.Core.Option.{Option, some}
use Prim.Native.Nat.{ℕ}
use Rattle.display.specs.declared.Display.{Display}
use Rattle.ledger.specs.Ledger.{Ledger, start}
use Rattle.ledger.specs.Frames as frames
use Rattle.ledger.specs.Frames.{Turn, goes_on, closes, turn, Frame, frame_of}
use Rattle.ledger.specs.Answers as answers
use Rattle.ledger.specs.Answers.{WatchList, names_in, Call, Sending}
use Rattle.ledger.specs.Sending.{times_out}
use Rattle.ledger.specs.Calls as calls
use Rattle.ledger.specs.Calls.{repeated, closed, with_run}
use Rattle.ledger.specs.Shown.{Left}
use Rattle.ledger.specs.History.{Event, byte, minute, send, timeout, history, Handed, among, packet_in, packets_handed, all_handed}
use Rattle.ledger.specs.ClosedFrames.{behind_turn, marks_from}
use Rattle.ledger.specs.BoardEvents.{BoardEvent, behind_frame, board_events_of, board_events_in, packets_in}
use Rattle.ledger.proofs.LineLaws.{run_kept, repeats_last, read_sequence}
use Rattle.ledger.proofs.Chain.{Begins, Chain}
use Rattle.ledger.proofs.EveryList.{agreeing}
use Rattle.ledger.proofs.ByEvents.{Told, from_sender, told_by, at_turn, happens, told_in_history}
use Rattle.ledger.proofs.ToldLaws.{handed_with, handed_append, among_append, told_handed, all_handed_law}
use Rattle.ledger.proofs.SameHistory.{told_by_law}

-- the packets that are told of
abbrev told_up : List Told → List (List ℕ)
told_up told = packets_handed (handed_with told)

told_up_law : (xs ys : List Told) → told_up (xs ++ ys) ≡ told_up xs ++ told_up ys
told_up_law xs ys = ap packets_handed (handed_append xs ys) ∙ among_append packet_in (handed_with xs) (handed_with ys)

-- a frame that was closed
frame_up : (l : Ledger) (f : Frame) (rest : Option ℕ → List BoardEvent)
    → packets_in (behind_frame f l.line.sequence rest) ≡ told_up (told_by (closed l f).answer) ++ packets_in (rest (closed l f).ledger.line.sequence)
unfolding packets_in handed_with among
frame_up l (frames.refused n place) rest = ap (λ (hs : List Handed). packets_handed hs ++ packets_in (rest l.line.sequence)) (told_handed (answers.refused n place))
frame_up l (frames.acknowledgement sequence) rest = refl
frame_up l (frames.good sequence payload) rest = by_last (repeated l.line.sequence sequence) refl
  where
    by_last : (t : Bool) → repeated l.line.sequence sequence ≡ t
        → packets_in (behind_frame (frames.good sequence payload) l.line.sequence rest)
        ≡ told_up (told_by (closed l (frames.good sequence payload)).answer) ++ packets_in (rest (closed l (frames.good sequence payload)).ledger.line.sequence)
    by_last true e = rw e (ap (λ (o : Option ℕ). packets_in (rest o)) (sym (repeats_last l.line.sequence sequence e)))
    by_last false e =
        rw e (ap (λ (o : Option ℕ). payload ∷ packets_in (rest o)) (sym (read_sequence l sequence (calls.reading_by l payload))))

-- a frame of our own is no packet
sent_up : (answer : Sending) → [] ≡ told_up (from_sender answer ∷ [])
unfolding handed_with among
sent_up answers.idle = refl
sent_up (answers.refused n) = refl
sent_up (answers.sent sequence payload) = refl
sent_up (answers.repeated sequence payload) = refl
sent_up (answers.dropped frame) = refl

history_up : (l : Ledger) (es : List Event) → packets_in (board_events_of l.line.sequence (marks_from l.line.run es)) ≡ told_up (told_in_history l es)
unfolding marks_from board_events_of packets_in told_in_history handed_with among
history_up l [] = refl
history_up l (minute ∷ es) = history_up (happens l minute).ledger es
history_up l (send payload ∷ es) = history_up (happens l (send payload)).ledger es
history_up l (timeout ∷ es) =
    history_up (happens l timeout).ledger es
    ∙ ap (λ (ps : List (List ℕ)). ps ++ told_up (told_in_history (happens l timeout).ledger es)) (sent_up (times_out l.sender).answer)
    ∙ sym (told_up_law (from_sender (times_out l.sender).answer ∷ []) (told_in_history (happens l timeout).ledger es))
history_up l (byte b ∷ es) = by_turn (turn l.line.run b) (λ m. history_up m es)
  where
    by_turn : (t : Turn) → ((m : Ledger) → packets_in (board_events_of m.line.sequence (marks_from m.line.run es)) ≡ told_up (told_in_history m es))
        → packets_in (board_events_of l.line.sequence (behind_turn t (λ run. marks_from run es)))
        ≡ told_up ((at_turn l t).told ++ told_in_history (at_turn l t).ledger es)
    by_turn (goes_on run) rest = rest (with_run l run)
    by_turn (closes run) rest =
        let here = with_run l (some []) in
        let m = (closed here (frame_of run)).ledger in
        let empty : m.line.run ≡ some [] = run_kept here (frame_of run) in
        frame_up here (frame_of run) (λ last. board_events_of last (marks_from (some []) es))
        ∙ ap (λ (ps : List (List ℕ)). told_up (told_by (closed here (frame_of run)).answer) ++ ps) (rw empty at (rest m))
        ∙ sym (told_up_law (told_by (closed here (frame_of run)).answer) (told_in_history m es))

-- THEOREM. After every list of calls the packets that stood in the packet buffers, in order, are the payloads of the data frames that were
-- closed and not repeated at once, each of which went to the board.
pub handed_up : (names : List (List ℕ)) (w : WatchList) → names_in w ≡ some names → (d : Display) → Begins w d
    → (cs : List Call) (left : List Left) (end : Display) → Chain d cs left end
    → packets_handed (all_handed left) ≡ packets_in (board_events_in (history cs left))
handed_up names w listed d begins cs left end chain =
    let a = agreeing listed begins chain in
    ap packets_handed (ap all_handed a.all.gives ∙ all_handed_law names (start names) cs ∙ ap handed_with (told_by_law names cs left a.all.gives))
    ∙ sym (history_up (start names) (history cs left))
