-- 02, C-13: after each history the rules alone say which event is refused. The ledger's step is refused just where the rules say so; a frame's
-- refusal is from 1 to 6, so a piece is refused by 7 alone.
use mathlib.Core.Path.{◌≡◌, refl, ap, ◌∙◌}
use mathlib.Core.Bool.{Bool, true, false, cond, ◌||◌}
use mathlib.Core.List.{List, [], ◌∷◌}
use mathlib.Core.Option.{Option, some, none}
use Prim.Native.Nat.{ℕ, ◌≤◌}
use native.Mathlib.Omega.{arith}
use lib.Dec.{ltb}
use lib.ListN.{length}
use borrow.Author.Tests.{ne_eqb}
use Rattle.refusals.specs.Numbers.{short_output, number_of}
use Rattle.refusals.specs.declared.Refusal.{Refusal}
use Rattle.frame.specs.Content.{payload_max}
use Rattle.sender.specs.declared.state.Answer as sender_answer
use Rattle.display.specs.declared.Display.{Display}
use Rattle.ledger.specs.Ledger.{Sender, Ledger, start}
use Rattle.ledger.specs.Frames as frames
use Rattle.ledger.specs.Frames.{Frame, taken, frame_of}
use Rattle.ledger.specs.Answers as answers
use Rattle.ledger.specs.Answers.{WatchList, names_in, Call}
use Rattle.ledger.specs.Sending.{SenderStep, own_frame, times_out, waiting, send_step, timeout_step}
use Rattle.ledger.specs.Calls as calls
use Rattle.ledger.specs.Calls.{repeated, closed, effect_of, with_run, piece_step, short_step, step, after, reply_room, packet_room}
use Rattle.ledger.specs.Shown.{as_answer, as_sending, Left, outgoing, as_left}
use Rattle.ledger.specs.History as event
use Rattle.ledger.specs.History.{refused_piece, refused_sending, refused_event, events_of, history}
use Rattle.ledger.specs.RefusedEvents.{is_refused}
use Rattle.ledger.specs.OwnFrames.{sender_in}
use Rattle.ledger.proofs.FrameLaws.{frame_number}
use Rattle.ledger.proofs.Chain.{Begins, Chain}
use Rattle.ledger.proofs.EveryList.{agreeing, next_call}
use Rattle.ledger.proofs.SenderLaws.{by_waiting}
use Rattle.ledger.proofs.SenderByHistory.{ledger_sender}

module _ (names : List (List ℕ)) where
  -- a frame that was closed is no refused event
  frame_taken : (l : Ledger) (f : Frame) → ((n : Refusal) (place : ℕ) → f ≡ frames.refused n place → number_of n ≤ 6) → refused_piece (as_answer names (closed l f).answer) ≡ false
  frame_taken l (frames.refused n place) few =
      let most = few n place refl in
      ne_eqb (number_of n) (number_of short_output) (λ e. omega (arith, most, e))
  frame_taken l (frames.acknowledgement sequence) few = refl
  frame_taken l (frames.good sequence payload) few = by_last (repeated l.line.sequence sequence)
    where
      by_last : (t : Bool) → refused_piece (as_answer names (cond t (calls.repeated_frame l sequence) (calls.new_frame l sequence payload)).answer) ≡ false
      by_last true = refl
      by_last false = refl

  effect_taken : (l : Ledger) (frame : Option (List ℕ)) → refused_piece (as_answer names (effect_of l frame).answer) ≡ false
  effect_taken l none = refl
  effect_taken l (some run) = frame_taken l (frame_of run) (λ n place e. (frame_number run n place e).1)

  piece_refused : (l : Ledger) (bytes reply packet : List ℕ)
      → refused_event (as_left names (step l (answers.piece bytes reply packet)).given) ≡ is_refused l.sender (answers.piece bytes reply packet)
  unfolding step
  piece_refused l bytes reply packet = by_tests (ltb (length reply) reply_room) (ltb (length packet) packet_room)
    where
      by_tests : (t u : Bool)
          → refused_event (as_left names (cond (t || u) (short_step l reply packet) (piece_step l (taken l.line.run bytes 0) reply packet)).given) ≡ t || u
      by_tests true u = refl
      by_tests false true = refl
      by_tests false false = let t = taken l.line.run bytes 0 in effect_taken (with_run l t.run) t.frame

  -- a send, by the same tests
  send_refused : (s : Sender) (payload output : List ℕ)
      → refused_sending (as_sending (send_step s payload (length output)).answer) ≡ is_refused s (answers.send payload output)
  unfolding send_step
  send_refused s payload output =
      by_tests (waiting s.held) (ltb payload_max (length payload)) (ltb (length output) (length (own_frame s.next payload))) refl refl refl
    where
      by_tests : (t u v : Bool) → waiting s.held ≡ t → ltb payload_max (length payload) ≡ u → ltb (length output) (length (own_frame s.next payload)) ≡ v
          → refused_sending (as_sending (send_step s payload (length output)).answer) ≡ is_refused s (answers.send payload output)
      by_tests true u v e f g = rw e
      by_tests false true v e f g = rw (e, f)
      by_tests false false true e f g = rw (e, f, g)
      by_tests false false false e f g = rw (e, f, g)

  timeout_refused : (s : Sender) (output : List ℕ) → refused_sending (as_sending (timeout_step s (length output)).answer) ≡ is_refused s (answers.timeout output)
  unfolding timeout_step
  timeout_refused s output = by_room (ltb (length output) (length (times_out s).output)) refl
    where
      goes : refused_sending (as_sending (times_out s).answer) ≡ false
      goes =
          by_waiting (λ (x : SenderStep). refused_sending (as_sending x.answer) ≡ false) s (λ nothing. refl) (λ frame e young. refl) (λ frame e old. refl)

      by_room : (t : Bool) → ltb (length output) (length (times_out s).output) ≡ t
          → refused_sending (as_sending (timeout_step s (length output)).answer) ≡ is_refused s (answers.timeout output)
      by_room true e = rw e
      by_room false e = rw e goes

  step_refused : (l : Ledger) (c : Call) → refused_event (as_left names (step l c).given) ≡ is_refused l.sender c
  unfolding step
  step_refused l (answers.piece bytes reply packet) = piece_refused l bytes reply packet
  step_refused l answers.tick = refl
  step_refused l (answers.send payload output) = send_refused l.sender payload output
  step_refused l (answers.timeout output) = timeout_refused l.sender output

-- THEOREM. After every list of calls the next event is refused exactly where the rules say so, of what the history makes of the sender.
pub refused_exactly : (names : List (List ℕ)) (w : WatchList) → names_in w ≡ some names → (d : Display) → Begins w d
    → (cs : List Call) (left : List Left) (end : Display) → Chain d cs left end → (c : Call) (more : Left) (end₁ : Display) → Chain end (c ∷ []) (more ∷ []) end₁
    → refused_event more ≡ is_refused (sender_in (history cs left)) c
refused_exactly names w listed d begins cs left end chain c more end₁ next =
    ap refused_event (next_call (agreeing listed begins chain) next).gives
    ∙ step_refused names (after (start names) cs) c
    ∙ ap (λ (s : Sender). is_refused s c) (ledger_sender names w listed d begins cs left end chain)

-- THEOREM. A send or a timeout that is not refused is an event of the history.
pub accepted_send : (payload output output₁ : List ℕ) (answer : sender_answer.Answer) → refused_event (outgoing answer output₁) ≡ false
    → events_of (answers.send payload output) (outgoing answer output₁) ≡ event.send payload ∷ []
accepted_send payload output output₁ answer e = rw e

pub accepted_timeout : (output output₁ : List ℕ) (answer : sender_answer.Answer) → refused_event (outgoing answer output₁) ≡ false
    → events_of (answers.timeout output) (outgoing answer output₁) ≡ event.timeout ∷ []
accepted_timeout output output₁ answer e = rw e
