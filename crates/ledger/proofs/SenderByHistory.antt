-- 02, C-13: after each history the rules alone say which event is refused, and what is dropped and reported. The sender is what the history
-- makes of it, event by event, so what the next event gives is settled by the history and the event.
use mathlib.Core.Path.{◌≡◌, refl, ap, ◌∙◌}
use mathlib.Core.List.{List, [], ◌∷◌}
use mathlib.Core.Option.{some}
use Prim.Native.Nat.{ℕ}
use lib.ListN.{length}
use Rattle.slices.specs.Put.{put_at}
use Rattle.display.specs.declared.Display.{Display}
use Rattle.ledger.specs.Ledger.{Ledger, start}
use Rattle.ledger.specs.Frames.{Turn, goes_on, closes, turn, frame_of}
use Rattle.ledger.specs.Answers as answers
use Rattle.ledger.specs.Answers.{WatchList, names_in, Call}
use Rattle.ledger.specs.Sending.{SenderStep, send_step, timeout_step}
use Rattle.ledger.specs.Calls.{closed, with_run, step, after}
use Rattle.ledger.specs.Shown.{as_sender, as_sending, Left, outgoing}
use Rattle.ledger.specs.History.{Event, byte, minute, send, timeout, history}
use Rattle.ledger.specs.ClosedFrames.{behind_turn, marks_from}
use Rattle.ledger.specs.OwnFrames.{sender_behind_frame, sender_from, sender_in}
use Rattle.ledger.proofs.LineLaws.{run_kept, sender_followed}
use Rattle.ledger.proofs.Chain.{Begins, Chain, done, sends, times_out, sent, timed_out}
use Rattle.ledger.proofs.EveryList.{Agreeing, agreeing, next_call}
use Rattle.ledger.proofs.ByEvents.{at_turn, happens, after_history}
use Rattle.ledger.proofs.SameHistory.{after_by}

history_sender : (l : Ledger) (es : List Event) → (after_history l es).sender ≡ sender_from l.sender (marks_from l.line.run es)
unfolding marks_from after_history sender_from
history_sender l [] = refl
history_sender l (minute ∷ es) = history_sender (happens l minute).ledger es
history_sender l (send payload ∷ es) = history_sender (happens l (send payload)).ledger es
history_sender l (timeout ∷ es) = history_sender (happens l timeout).ledger es
history_sender l (byte b ∷ es) = by_turn (turn l.line.run b) (λ m. history_sender m es)
  where
    by_turn : (t : Turn) → ((m : Ledger) → (after_history m es).sender ≡ sender_from m.sender (marks_from m.line.run es))
        → (after_history (at_turn l t).ledger es).sender ≡ sender_from l.sender (behind_turn t (λ run. marks_from run es))
    by_turn (goes_on run) rest = rest (with_run l run)
    by_turn (closes run) rest =
        let here = with_run l (some []) in
        let m = (closed here (frame_of run)).ledger in
        let empty : m.line.run ≡ some [] = run_kept here (frame_of run) in
        let followed : m.sender ≡ sender_behind_frame l.sender (frame_of run) = sender_followed here (frame_of run) in
        rw (empty, followed) at (rest m)

-- what an event of the sender gave, and what it left: link and board as they were
pub record BySender (before : Display) (s : SenderStep) (output : List ℕ) (more : Left) (behind : Display) : Type 0 where
  pub answers : more ≡ outgoing (as_sending s.answer) (put_at output 0 s.output)
  pub sender : behind.sender ≡ as_sender s.sender
  pub link : behind.link ≡ before.link
  pub board : behind.board ≡ before.board

-- After every list of calls:
module _ (names : List (List ℕ)) (w : WatchList) (listed : names_in w ≡ some names) (d : Display) (begins : Begins w d)
    (cs : List Call) (left : List Left) (end : Display) (chain : Chain d cs left end) where
  abbrev all : Agreeing names cs left end
  all = agreeing listed begins chain

  pub ledger_sender : (after (start names) cs).sender ≡ sender_in (history cs left)
  ledger_sender = ap (λ (m : Ledger). m.sender) (after_by names cs left all.all.gives) ∙ history_sender (start names) (history cs left)

  -- THEOREM. The sender is what the history makes of it.
  pub sender_by_history : end.sender ≡ as_sender (sender_in (history cs left))
  sender_by_history = all.all.agrees.sender_is ∙ ap as_sender ledger_sender

  -- THEOREM. Whether the next send is refused, with which number, and what goes out, is what the rules say of the history's sender.
  pub send_by_history : (payload output : List ℕ) (more : Left) (end₁ : Display) → Chain end (answers.send payload output ∷ []) (more ∷ []) end₁
      → BySender end (send_step (sender_in (history cs left)) payload (length output)) output more end₁
  unfolding step
  send_by_history payload output more end₁ (sends s done) =
      let gives = next_call all (sends s done) in
      rw (← ledger_sender)
      (record { answers = gives.gives; sender = gives.agrees.sender_is; link = rw (sent s).answers; board = rw (sent s).answers })

  -- THEOREM. And so of the next timeout, with what it drops and reports.
  pub timeout_by_history : (output : List ℕ) (more : Left) (end₁ : Display) → Chain end (answers.timeout output ∷ []) (more ∷ []) end₁
      → BySender end (timeout_step (sender_in (history cs left)) (length output)) output more end₁
  unfolding step
  timeout_by_history output more end₁ (times_out t done) =
      let gives = next_call all (times_out t done) in
      rw (← ledger_sender)
      (record { answers = gives.gives; sender = gives.agrees.sender_is; link = rw (timed_out t).answers; board = rw (timed_out t).answers })
