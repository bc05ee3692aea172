-- What a closed frame does to link and board is what it does to the ledger: by what the frame is, and for a new packet by what the
-- board reads in it.
use mathlib.Core.Path.{◌≡◌, refl, subst⁻¹}
use mathlib.Core.Bool.{Bool, true, false, cond}
use mathlib.Core.List.{List, []}
use mathlib.Core.Option.{Option, some, none}
use Prim.Native.Nat.{ℕ}
use lib.ListN.{length}
use Rattle.refusals.specs.Numbers.{number_of}
use Rattle.refusals.specs.declared.Refusal.{Refusal}
use Rattle.frame.specs.Answers.{fault_at}
use Rattle.rows.specs.declared.Board.{Board}
use Rattle.board.proofs.NameLaws.{Fits}
use Rattle.link.specs.Closing.{Outcome, acknowledgement, repeats, again_frame, new_frame, data_frame}
use Rattle.link.specs.Receiving.{call_of}
use Rattle.link.specs.Walk.{Walk}
use Rattle.link.specs.declared.receiver.Answer.TheVariants as link_says
use Rattle.sender.specs.State.{acknowledged}
use Rattle.sender.specs.declared.state.Sender.{Sender}
use Rattle.display.specs.Display.{keep_board, received, result_of}
use Rattle.display.specs.declared.Answer as display_answer
use Rattle.display.specs.declared.Answer.TheVariants as says
use Rattle.ledger.specs.Ledger.{Ledger}
use Rattle.ledger.specs.Frames as frames
use Rattle.ledger.specs.Frames.{Frame}
use Rattle.ledger.specs.Answers as answers
use Rattle.ledger.specs.Calls as calls
use Rattle.ledger.specs.Calls.{Effect, repeated, closed}
use Rattle.ledger.specs.Shown.{as_counts, as_sender, as_answer}
use Rattle.ledger.proofs.CountAgreement.{count_again, count_heard, count_refused}
use Rattle.ledger.proofs.FrameOutcomes.{as_last, link_outcome, Shows, EffectsOf}
use Rattle.ledger.proofs.SenderAgreement.{acknowledged_agrees}
use Rattle.ledger.proofs.PacketAgreement.{new_agrees}

module _ {count : ℕ} (names : List (List ℕ)) (fit : Fits names) (w : Walk) (l : Ledger) (board : Board) (shows₀ : Shows count names l.hives.entries board) where
  abbrev outcome : Frame → Outcome
  outcome f = link_outcome f (as_last l.line.sequence) (as_counts l.line.counts)

  -- a call that leaves the board as it was
  kept_agrees : (o : Outcome) (e : Effect) (behind : Sender) (said : display_answer.Answer)
      → result_of o.answer (as_sender l.sender) board (call_of w o) ≡ keep_board (received (call_of w o)) behind board said
      → behind ≡ as_sender e.ledger.sender → said ≡ as_answer names e.answer → o.reply ≡ e.reply → o.packet ≡ e.packet → o.last ≡ as_last e.ledger.line.sequence
      → o.counts ≡ as_counts e.ledger.line.counts → e.ledger.hives.entries ≡ l.hives.entries → EffectsOf count names (as_sender l.sender) board w o e
  kept_agrees o e behind said is sender answer reply packet last counts same =
      rw is
      (record {
        answers = answer;
        replied = reply;
        handed = packet;
        counted = refl;
        content_is = refl;
        reader_is = refl;
        last_is = last;
        counts_are = counts;
        sender_is = sender;
        shows = rw same shows₀;
      })

  refused_agrees : (n : Refusal) (place : ℕ) → EffectsOf count names (as_sender l.sender) board w (outcome (frames.refused n place)) (closed l (frames.refused n place))
  refused_agrees n place = kept_agrees (outcome (frames.refused n place)) _ (as_sender l.sender) (says.Refused (fault_at n place)) refl refl refl refl refl refl (count_refused l.line.counts (number_of n)) refl

  heard_agrees : (sequence : ℕ) → EffectsOf count names (as_sender l.sender) board w (outcome (frames.acknowledgement sequence)) (closed l (frames.acknowledgement sequence))
  heard_agrees sequence =
      kept_agrees (outcome (frames.acknowledgement sequence)) _ (acknowledged (as_sender l.sender) sequence) (says.Heard sequence) refl
      (acknowledged_agrees l.sender sequence) refl refl refl refl (count_heard l.line.counts) refl

  again_agrees : (sequence : ℕ) → EffectsOf count names (as_sender l.sender) board w (again_frame sequence (as_last l.line.sequence) (as_counts l.line.counts)) (calls.repeated_frame l sequence)
  unfolding acknowledgement
  again_agrees sequence =
      kept_agrees (again_frame sequence (as_last l.line.sequence) (as_counts l.line.counts)) _ (as_sender l.sender) (says.Again (length (acknowledgement sequence))) refl refl refl refl refl refl (count_again l.line.counts) refl

  same_repeats : (last : Option ℕ) (sequence : ℕ) → repeats (as_last last) sequence ≡ repeated last sequence
  same_repeats none sequence = refl
  same_repeats (some before) sequence = refl

  -- a frame that was closed
  pub frame_agrees : (f : Frame) → EffectsOf count names (as_sender l.sender) board w (outcome f) (closed l f)
  unfolding data_frame
  frame_agrees (frames.refused n place) = refused_agrees n place
  frame_agrees (frames.acknowledgement sequence) = heard_agrees sequence
  frame_agrees (frames.good sequence payload) =
      rw (same_repeats l.line.sequence sequence) (by_last (repeated l.line.sequence sequence))
    where
      by_last : (t : Bool)
          → EffectsOf count names (as_sender l.sender) board w (cond t (again_frame sequence (as_last l.line.sequence) (as_counts l.line.counts)) (new_frame sequence payload (as_counts l.line.counts)))
          (cond t (calls.repeated_frame l sequence) (calls.new_frame l sequence payload))
      by_last true = again_agrees sequence
      by_last false = new_agrees names fit w l board shows₀ sequence payload

  -- a call that closed none
  abbrev nothing_done : Outcome
  nothing_done = record { last = as_last l.line.sequence; counts = as_counts l.line.counts; answer = link_says.Nothing; reply = []; packet = [] }

  pub nothing_agrees : (o : Outcome) → o ≡ nothing_done
      → EffectsOf count names (as_sender l.sender) board w o (record { ledger = l; answer = answers.nothing; reply = []; packet = [] })
  nothing_agrees o e = subst⁻¹ (λ (x : Outcome). EffectsOf count names (as_sender l.sender) board w x (record { ledger = l; answer = answers.nothing; reply = []; packet = [] })) e (kept_agrees nothing_done _ (as_sender l.sender) says.Nothing refl refl refl refl refl refl refl refl)
