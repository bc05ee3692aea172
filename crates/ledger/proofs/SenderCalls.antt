-- 02, C-13: what a piece does to the sender, and what a report of a drop says. An acknowledgement that was heard frees the held frame of its
-- sequence, at once; any other, and every other answer, changes nothing in the sender.
use Rattle.std.proofs.Common.{Option, Some, None}
use mathlib.Core.Path.{◌≡◌, refl, sym, ap, ◌∙◌}
use mathlib.Core.Bool.{Bool, true, false, cond}
use mathlib.Core.List.{List}
use Prim.Native.Nat.{ℕ, ◌≤◌}
use lib.Dec.{eqb, ltb}
use lib.ListN.{length}
use borrow.Author.Tests.{eqb-true, eq-eqb, ltb-false}
use Rattle.slices.proofs.Impossible.{impossible}
use Rattle.slices.specs.Put.{put_at}
use Rattle.slices.specs.Written as writer
use Rattle.slices.specs.Written.{Output}
use Rattle.frame.specs.Content.{data_type}
use Rattle.frame.specs.Writing.{write_frame}
use Rattle.link.specs.Receiving.{receive_of}
use Rattle.link.specs.Receiving as link
use Rattle.link.specs.declared.receiver.Answer as link_answer
use Rattle.rows.specs.declared.Board.{Board}
use Rattle.sender.specs.State.{kept, repeated, freed, acknowledged_from, acknowledged}
use Rattle.sender.specs.Events.{Given, quiet, goes_out, repeats_max, sent_again, timeout_from, timeout_of}
use Rattle.sender.specs.declared.state.Answer.TheVariants.{Repeated, Dropped}
use Rattle.sender.specs.declared.state.Held.{Held}
use Rattle.sender.specs.declared.state.Sender.{Sender}
use Rattle.display.specs.Display.{result_of, receive_piece}
use Rattle.display.specs.Sending.{with_sender}
use Rattle.display.specs.declared.Answer as display_answer
use Rattle.display.specs.declared.Answer.TheVariants as says
use Rattle.display.specs.declared.Display.{Display}
use Rattle.display.specs.declared.sending.Outgoing.{Outgoing}
use Rattle.display.specs.declared.Received.{Received}
use Rattle.ledger.proofs.Chain.{Receives, TimesOut, received, timed_out}

-- what is held of a frame
abbrev pub held_frame : ℕ → ℕ → Option Held
held_frame sequence repeats = Some (record { sequence = sequence; repeats = repeats })

-- the sender behind an answer
abbrev pub sender_by : display_answer.Answer → Sender → Sender
sender_by says.Nothing s = s
sender_by (says.Refused fault) s = s
sender_by (says.Heard sequence) s = acknowledged s sequence
sender_by (says.Again replied) s = s
sender_by (says.New replied size verdict) s = s

sender_answered : (answer : link_answer.Answer) (s : Sender) (board : Board) (call : link.Call)
    → (result_of answer s board call).display.sender ≡ sender_by (result_of answer s board call).answer s
sender_answered link_answer.TheVariants.Nothing s board call = refl
sender_answered (link_answer.TheVariants.Refused fault) s board call = refl
sender_answered (link_answer.TheVariants.Heard sequence) s board call = refl
sender_answered (link_answer.TheVariants.Again replied) s board call = refl
sender_answered (link_answer.TheVariants.New replied size) s board call = refl

module _ {d : Display} {bytes reply packet reply₁ packet₁ : List ℕ} {result : Received} (r : Receives d bytes reply packet result reply₁ packet₁) where
  -- THEOREM. Whatever the display, and whatever the piece: only the answer "heard" concerns the sender.
  pub piece_and_sender : result.display.sender ≡ sender_by result.answer d.sender
  unfolding receive_piece
  piece_and_sender =
      let call = receive_of d.link bytes (length reply) (length packet) in
      rw (received r).answers (sender_answered call.answer d.sender d.board call)

  -- THEOREM. An acknowledgement of its sequence frees the held frame at once.
  pub its_acknowledgement_frees : (sequence repeats : ℕ) → result.answer ≡ says.Heard sequence → d.sender.held ≡ held_frame sequence repeats
      → result.display.sender ≡ freed d.sender
  its_acknowledgement_frees sequence repeats told waits =
      piece_and_sender
      ∙ ap (λ (a : display_answer.Answer). sender_by a d.sender) told
      ∙ ap (λ (h : Option Held). acknowledged_from h d.sender sequence) waits
      ∙ ap (λ (t : Bool). cond t (freed d.sender) d.sender) (eq-eqb sequence sequence refl)

  -- THEOREM. Any other changes nothing in the sender.
  pub other_acknowledgement_frees_none : (sequence : ℕ) → result.answer ≡ says.Heard sequence → ((repeats : ℕ) → d.sender.held ≡ held_frame sequence repeats → ⊥)
      → result.display.sender ≡ d.sender
  other_acknowledgement_frees_none sequence told other =
      piece_and_sender ∙ ap (λ (a : display_answer.Answer). sender_by a d.sender) told ∙ by_held d.sender.held refl
    where
      by_sequence : (waiting repeats : ℕ) → d.sender.held ≡ held_frame waiting repeats → (t : Bool) → eqb sequence waiting ≡ t
          → cond t (freed d.sender) d.sender ≡ d.sender
      by_sequence waiting repeats e true f = absurd (other repeats (e ∙ ap (λ (n : ℕ). held_frame n repeats) (sym (eqb-true sequence waiting f))))
      by_sequence waiting repeats e false f = refl

      by_held : (h : Option Held) → d.sender.held ≡ h → acknowledged_from h d.sender sequence ≡ d.sender
      by_held None e = refl
      by_held (Some held) e = by_sequence held.sequence held.repeats e (eqb sequence held.sequence) refl

-- what a timeout reported as dropped was held, after two repeats or more, and is held no longer; the output is as it was
pub record WasHeld (before : Display) (sequence : ℕ) (output : List ℕ) (result : Outgoing) (output₁ : List ℕ) : Type 0 where
  pub repeats : ℕ
  pub twice : 2 ≤ repeats
  pub waited : before.sender.held ≡ held_frame sequence repeats
  pub frees : result.display ≡ with_sender before (freed before.sender)
  pub output_kept : output₁ ≡ output

record Dropping (s : Sender) (sequence : ℕ) (h : Option Held) (given : Given) : Type 0 where
  repeats : ℕ
  twice : 2 ≤ repeats
  waited : h ≡ held_frame sequence repeats
  is : given ≡ quiet (freed s) (Dropped sequence)

-- a timeout, by what is held: nothing and a repeat are answered otherwise
dropped_given : (s : Sender) (room sequence : ℕ) (h : Option Held) → (timeout_from h s room).outcome.answer ≡ Dropped sequence → Dropping s sequence h (timeout_from h s room)
dropped_given s room sequence None e = impossible cc
dropped_given s room sequence (Some held) e = by_repeats held.sequence held.repeats (ltb held.repeats repeats_max) refl e
  where
    again : (waiting repeats : ℕ) (o : Output) → (goes_out o s (repeated s waiting repeats) (Repeated waiting)).outcome.answer ≡ Dropped sequence → ⊥
    again waiting repeats (writer.written bytes) e = impossible cc
    again waiting repeats (writer.refused n) e = impossible cc

    by_repeats : (waiting repeats : ℕ) (t : Bool) → ltb repeats repeats_max ≡ t → (cond t (sent_again s waiting repeats room) (quiet (freed s) (Dropped waiting))).outcome.answer ≡ Dropped sequence
        → Dropping s sequence (held_frame waiting repeats) (cond t (sent_again s waiting repeats room) (quiet (freed s) (Dropped waiting)))
    by_repeats waiting repeats true f e = absurd (again waiting repeats (write_frame room data_type waiting (kept s.payload)) e)
    by_repeats waiting repeats false f e =
        let same : waiting ≡ sequence = cc in
        record { repeats = repeats; twice = ltb-false repeats repeats_max f; waited = ap (λ (n : ℕ). held_frame n repeats) same; is = ap (λ (n : ℕ). quiet (freed s) (Dropped n)) same }

-- THEOREM. Whatever the display, a frame that a timeout reports as dropped is the one that was held.
pub dropped_was_held : {d : Display} {output output₁ : List ℕ} {result : Outgoing} → TimesOut d output result output₁ → (sequence : ℕ)
    → result.answer ≡ Dropped sequence → WasHeld d sequence output result output₁
unfolding timeout_of
dropped_was_held {d = d} {output = output} t sequence told =
    let does = timed_out t in
    let found = dropped_given d.sender (length output) sequence d.sender.held (sym (ap (λ (r : Outgoing). r.answer) does.answers) ∙ told) in
    record {
      repeats = found.repeats;
      twice = found.twice;
      waited = found.waited;
      frees = ap (λ (r : Outgoing). r.display) does.answers ∙ ap (λ (g : Given). with_sender d g.outcome.sender) found.is;
      output_kept = does.sends ∙ ap (λ (g : Given). put_at output 0 g.output) found.is;
    }
