-- The replies that are handed out are the acknowledgements of the data frames that were closed, of new ones and of repeated ones, and the
-- frames of our own, sent for the first time or again, in order; each is read back as what it was meant to be.
use Rattle.std.specs.Prelude.{Result, Ok}
use mathlib.Core.Path.{◌≡◌, refl, sym, ap, ap₂, ◌∙◌}
use mathlib.Core.Bool.{Bool, true, false, cond}
use mathlib.Core.List.{List, [], ◌∷◌, ◌++◌}
use mathlib.Core.Option.{some}
use Prim.Native.Nat.{ℕ, ◌≤◌}
use native.Mathlib.Omega.{arith}
use lib.ListN.{length}
use Rattle.slices.specs.Put.{put_at}
use Rattle.frame.specs.Content.{payload_max}
use Rattle.frame.specs.Answers.{frame_found, read_answer}
use Rattle.frame.specs.declared.content.Fault.{Fault}
use Rattle.frame.specs.declared.content.Frame as read
use Rattle.frame.proofs.FrameTheorems.{frame_read_back}
use Rattle.frame.proofs.FrameCalls.{Reads, was_read}
use Rattle.display.specs.declared.Display.{Display}
use Rattle.ledger.specs.Ledger.{Ledger, start}
use Rattle.ledger.specs.Frames as frames
use Rattle.ledger.specs.Frames.{Turn, goes_on, closes, turn, Frame, frame_of}
use Rattle.ledger.specs.Answers as answers
use Rattle.ledger.specs.Answers.{WatchList, names_in, Call, Sending}
use Rattle.ledger.specs.Sending.{SenderStep, own_frame, sends, times_out}
use Rattle.ledger.specs.Calls as calls
use Rattle.ledger.specs.Calls.{answer_to, repeated, closed, with_run}
use Rattle.ledger.specs.Shown.{Left}
use Rattle.ledger.specs.History.{Event, byte, minute, send, timeout, history, among, reply_in, replies_handed, all_handed}
use Rattle.ledger.specs.ClosedFrames.{behind_turn, marks_from}
use Rattle.ledger.specs.OwnFrames.{sender_behind_frame, frames_with, answers_to, replies_from, replies_in}
use Rattle.ledger.proofs.LineLaws.{run_kept, sender_followed}
use Rattle.ledger.proofs.Chain.{Begins, Chain}
use Rattle.ledger.proofs.EveryList.{agreeing}
use Rattle.ledger.proofs.ByEvents.{Told, from_sender, told_by, at_turn, happens, told_in_history}
use Rattle.ledger.proofs.ToldLaws.{handed_with, handed_append, among_append, told_handed, all_handed_law}
use Rattle.ledger.proofs.SameHistory.{told_by_law}

-- the replies that are told of
abbrev replies_told : List Told → List (List ℕ)
replies_told told = replies_handed (handed_with told)

told_joined : (xs ys : List Told) → replies_told (xs ++ ys) ≡ replies_told xs ++ replies_told ys
told_joined xs ys = ap replies_handed (handed_append xs ys) ∙ among_append reply_in (handed_with xs) (handed_with ys)

frame_replied : (l : Ledger) (f : Frame) → answers_to f ≡ replies_told (told_by (closed l f).answer)
unfolding handed_with among
frame_replied l (frames.refused n place) = ap replies_handed (told_handed (answers.refused n place))
frame_replied l (frames.acknowledgement sequence) = refl
frame_replied l (frames.good sequence payload) = by_last (repeated l.line.sequence sequence)
  where
    by_last : (t : Bool)
        → answer_to sequence ∷ [] ≡ replies_told (told_by (cond t (calls.repeated_frame l sequence) (calls.new_frame l sequence payload)).answer)
    by_last true = refl
    by_last false = refl

sent_replied : (answer : Sending) → frames_with answer ≡ replies_told (from_sender answer ∷ [])
unfolding handed_with among
sent_replied answers.idle = refl
sent_replied (answers.refused n) = refl
sent_replied (answers.sent sequence payload) = refl
sent_replied (answers.repeated sequence payload) = refl
sent_replied (answers.dropped frame) = refl

step_replied : (s : SenderStep) (told : List Told) (rest : List (List ℕ)) → rest ≡ replies_told told
    → frames_with s.answer ++ rest ≡ replies_told (from_sender s.answer ∷ told)
step_replied s told rest is =
    ap₂ (λ (xs ys : List (List ℕ)). xs ++ ys) (sent_replied s.answer) is ∙ sym (told_joined (from_sender s.answer ∷ []) told)

history_replied : (l : Ledger) (es : List Event) → replies_from l.sender (marks_from l.line.run es) ≡ replies_told (told_in_history l es)
unfolding marks_from replies_from told_in_history handed_with among
history_replied l [] = refl
history_replied l (minute ∷ es) = history_replied (happens l minute).ledger es
history_replied l (send payload ∷ es) =
    step_replied (sends l.sender payload) (told_in_history (happens l (send payload)).ledger es) _ (history_replied (happens l (send payload)).ledger es)
history_replied l (timeout ∷ es) =
    step_replied (times_out l.sender) (told_in_history (happens l timeout).ledger es) _ (history_replied (happens l timeout).ledger es)
history_replied l (byte b ∷ es) = by_turn (turn l.line.run b) (λ m. history_replied m es)
  where
    by_turn : (t : Turn) → ((m : Ledger) → replies_from m.sender (marks_from m.line.run es) ≡ replies_told (told_in_history m es))
        → replies_from l.sender (behind_turn t (λ run. marks_from run es)) ≡ replies_told ((at_turn l t).told ++ told_in_history (at_turn l t).ledger es)
    by_turn (goes_on run) rest = rest (with_run l run)
    by_turn (closes run) rest =
        let here = with_run l (some []) in
        let m = (closed here (frame_of run)).ledger in
        let empty : m.line.run ≡ some [] = run_kept here (frame_of run) in
        let followed : m.sender ≡ sender_behind_frame l.sender (frame_of run) = sender_followed here (frame_of run) in
        ap₂ (λ (xs ys : List (List ℕ)). xs ++ ys) (frame_replied here (frame_of run)) (rw (empty, followed) at (rest m))
        ∙ sym (told_joined (told_by (closed here (frame_of run)).answer) (told_in_history m es))

-- THEOREM. After every list of calls the replies that stood in the buffers, in order, are those of its history: the acknowledgements of the
-- data frames that were closed (type 02, the same sequence, no payload), and the frames that were sent, for the first time and again.
pub replies_sent : (names : List (List ℕ)) (w : WatchList) → names_in w ≡ some names → (d : Display) → Begins w d
    → (cs : List Call) (left : List Left) (end : Display) → Chain d cs left end
    → replies_handed (all_handed left) ≡ replies_in (history cs left)
replies_sent names w listed d begins cs left end chain =
    let a = agreeing listed begins chain in
    ap replies_handed (ap all_handed a.all.gives ∙ all_handed_law names (start names) cs ∙ ap handed_with (told_by_law names cs left a.all.gives))
    ∙ sym (history_replied (start names) (history cs left))

-- THEOREM. Such a reply, read by a call of the whole-frame reader with an output of at least 383 bytes, is answered by type 02, its sequence
-- and no payload.
pub reply_read_back : (sequence : ℕ) (out : List ℕ) (answer : Result read.Frame Fault) (out₁ : List ℕ) → Reads (answer_to sequence) out answer out₁ → payload_max ≤ length out
    → (answer ≡ Ok (frame_found 0x02 sequence 0)) × (out₁ ≡ out)
reply_read_back sequence out answer out₁ r asked =
    let is = frame_read_back (length out) 0x02 sequence [] asked (omega arith) in
    let did = was_read r in
    (did.answers ∙ ap read_answer is, did.output ∙ rw is)

-- THEOREM. A frame of our own, with a payload of at most 383 bytes, is read back as type 01, its sequence and its payload.
pub own_frame_read_back : (sequence : ℕ) (payload out : List ℕ) (answer : Result read.Frame Fault) (out₁ : List ℕ) → Reads (own_frame sequence payload) out answer out₁
    → payload_max ≤ length out → length payload ≤ payload_max → (answer ≡ Ok (frame_found 0x01 sequence (length payload))) × (out₁ ≡ put_at out 0 payload)
own_frame_read_back sequence payload out answer out₁ r asked few =
    let is = frame_read_back (length out) 0x01 sequence payload asked few in
    let did = was_read r in
    (did.answers ∙ ap read_answer is, did.output ∙ rw is)
