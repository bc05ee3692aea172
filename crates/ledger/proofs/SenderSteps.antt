-- A call by what it does to the sender: what holds of each way holds of every call. Of the frames from the module only an acknowledgement
-- concerns the sender.
use mathlib.Core.Path.{◌≡◌, refl, ◌∙◌, subst⁻¹}
use mathlib.Core.Bool.{Bool, true, false, cond}
use mathlib.Core.List.{List, ◌∷◌}
use mathlib.Core.Option.{Option, some, none}
use Prim.Native.Nat.{ℕ, ◌≤◌, ◌<◌}
use lib.ListN.{length}
use Rattle.refusals.specs.Numbers.{short_output}
use Rattle.refusals.specs.declared.Refusal.{Refusal}
use Rattle.slices.specs.Put.{put_at}
use Rattle.frame.specs.Content.{no_place}
use Rattle.sender.specs.declared.state.Answer.TheVariants as sender_says
use Rattle.sender.specs.declared.state.Answer.TheVariants.{Sent, Repeated, Dropped}
use Rattle.display.specs.declared.Answer.TheVariants.{Heard}
use Rattle.ledger.specs.Ledger.{Held, Sender, Ledger}
use Rattle.ledger.specs.Frames as frames
use Rattle.ledger.specs.Frames.{Frame, taken, frame_of}
use Rattle.ledger.specs.Answers as answers
use Rattle.ledger.specs.Answers.{Call}
use Rattle.ledger.specs.Sending.{SenderStep, own_frame, sends, repeats_max, sends_again, drops, acknowledged}
use Rattle.ledger.specs.Calls as calls
use Rattle.ledger.specs.Calls.{Effect, repeated, closed, effect_of, with_run, step}
use Rattle.ledger.specs.Shown.{as_answer, as_sending, Left, took, ticked, outgoing, as_left}
use Rattle.ledger.specs.SentFrames as notice
use Rattle.ledger.specs.SentFrames.{notice_of, repeats_sent, drops_reported, sequences_sent}
use Rattle.ledger.proofs.LineLaws.{sender_followed}
use Rattle.ledger.proofs.RoomLaws.{by_room}
use Rattle.ledger.proofs.SenderLaws.{by_send, by_waiting, by_timeout}

-- a call that tells nothing of a frame of ours
pub record Quiet (left : Left) : Type 0 where
  pub no_notice : (sequence : ℕ) → notice_of sequence left ≡ notice.untold
  pub not_again : (more : List Left) → repeats_sent (left ∷ more) ≡ repeats_sent more
  pub not_reported : (more : List Left) → drops_reported (left ∷ more) ≡ drops_reported more
  pub not_sent : (more : List Left) → sequences_sent (left ∷ more) ≡ sequences_sent more

-- by what a call left and the sender behind it
pub record Cases (s : Sender) (P : Left → Sender → Type 0) : Type 0 where
  pub quiet : (left : Left) → Quiet left → P left s
  pub hears : (n sequence : ℕ) (reply packet : List ℕ) → P (took n (Heard sequence) reply packet) (acknowledged s sequence)
  pub accepts : (payload output : List ℕ) → s.held ≡ none
      → P (outgoing (Sent s.next (length (own_frame s.next payload))) output) (sends s payload).sender
  pub repeats : (frame : Held) (output : List ℕ) → s.held ≡ some frame → frame.repeats < repeats_max → length (own_frame frame.sequence frame.payload) ≤ length output
      → P
      (outgoing (Repeated frame.sequence (length (own_frame frame.sequence frame.payload))) (put_at output 0 (own_frame frame.sequence frame.payload)))
      (sends_again s frame).sender
  pub drops : (frame : Held) (output : List ℕ) → s.held ≡ some frame → repeats_max ≤ frame.repeats
      → P (outgoing (Dropped frame.sequence) output) (drops s frame).sender

tick_quiet : Quiet ticked
unfolding repeats_sent drops_reported sequences_sent
tick_quiet = record { no_notice = λ sequence. refl; not_again = λ more. refl; not_reported = λ more. refl; not_sent = λ more. refl }

refused_quiet : (n : Refusal) (output : List ℕ) → Quiet (outgoing (sender_says.Refused n) output)
unfolding repeats_sent drops_reported sequences_sent
refused_quiet n output = record { no_notice = λ sequence. refl; not_again = λ more. refl; not_reported = λ more. refl; not_sent = λ more. refl }

idle_quiet : (output : List ℕ) → Quiet (outgoing sender_says.Nothing output)
unfolding repeats_sent drops_reported sequences_sent
idle_quiet output = record { no_notice = λ sequence. refl; not_again = λ more. refl; not_reported = λ more. refl; not_sent = λ more. refl }

module _ (names : List (List ℕ)) where
  piece_quiet : (n : ℕ) (answer : answers.Answer) (reply packet : List ℕ) → ((sequence : ℕ) → notice.notice_of_piece sequence (as_answer names answer) ≡ notice.untold)
      → Quiet (took n (as_answer names answer) reply packet)
  unfolding repeats_sent drops_reported sequences_sent
  piece_quiet n answer reply packet unnoticed = record { no_notice = unnoticed; not_again = λ more. refl; not_reported = λ more. refl; not_sent = λ more. refl }

  module _ (l : Ledger) (P : Left → Sender → Type 0) (cases : Cases l.sender P) where
    -- a frame that was closed, with what it puts into the buffers
    abbrev OfEffect : ℕ → List ℕ → List ℕ → Effect → Type 0
    OfEffect n reply packet e = P (took n (as_answer names e.answer) (put_at reply 0 e.reply) (put_at packet 0 e.packet)) e.ledger.sender

    frame_case : (n : ℕ) (reply packet : List ℕ) (m : Ledger) → m.sender ≡ l.sender → (f : Frame) → OfEffect n reply packet (closed m f)
    frame_case n reply packet m same (frames.refused number place) = subst⁻¹ (P _) same (cases.quiet _ (piece_quiet n (answers.refused number place) _ _ (λ sequence. refl)))
    frame_case n reply packet m same (frames.acknowledgement sequence) =
        subst⁻¹ (λ (s : Sender). P (took n (Heard sequence) reply packet) (acknowledged s sequence)) same (cases.hears n sequence reply packet)
    frame_case n reply packet m same (frames.good sequence payload) =
        by_last (repeated m.line.sequence sequence) (sender_followed m (frames.good sequence payload) ∙ same)
      where
        by_last : (t : Bool) → (cond t (calls.repeated_frame m sequence) (calls.new_frame m sequence payload)).ledger.sender ≡ l.sender
            → OfEffect n reply packet (cond t (calls.repeated_frame m sequence) (calls.new_frame m sequence payload))
        by_last true e = subst⁻¹ (P _) e (cases.quiet _ (piece_quiet n (answers.again sequence) _ _ (λ other. refl)))
        by_last false e = subst⁻¹ (P _) e (cases.quiet _ (piece_quiet n (answers.new sequence payload (calls.reading_by m payload)) _ _ (λ other. refl)))

    effect_case : (n : ℕ) (reply packet : List ℕ) (m : Ledger) → m.sender ≡ l.sender → (frame : Option (List ℕ)) → OfEffect n reply packet (effect_of m frame)
    effect_case n reply packet m same none = subst⁻¹ (P _) same (cases.quiet _ (piece_quiet n answers.nothing _ _ (λ sequence. refl)))
    effect_case n reply packet m same (some run) = frame_case n reply packet m same (frame_of run)

    pub step_case : (c : Call) → P (as_left names (step l c).given) (step l c).ledger.sender
    unfolding step
    step_case (answers.piece bytes reply packet) =
        let t = taken l.line.run bytes 0 in
        by_room (λ (s : calls.Step). P (as_left names s.given) s.ledger.sender) l bytes reply packet
        (λ short. cases.quiet _ (piece_quiet 0 (answers.refused short_output no_place) reply packet (λ sequence. refl)))
        (λ room_for_reply room_for_packet. effect_case t.count reply packet (with_run l t.run) refl t.frame)
    step_case answers.tick = cases.quiet ticked tick_quiet
    step_case (answers.send payload output) =
        by_send (λ (s : SenderStep). P (outgoing (as_sending s.answer) (put_at output 0 s.output)) s.sender) l.sender payload (length output)
        (λ n. cases.quiet _ (refused_quiet n output)) (λ free few fits. cases.accepts payload _ free)
    step_case (answers.timeout output) =
        by_timeout (λ (s : SenderStep). P (outgoing (as_sending s.answer) (put_at output 0 s.output)) s.sender) l.sender (length output)
        (cases.quiet _ (refused_quiet short_output output))
        (λ fits.
        by_waiting (λ (s : SenderStep). length s.output ≤ length output → P (outgoing (as_sending s.answer) (put_at output 0 s.output)) s.sender) l.sender
        (λ nothing few. cases.quiet _ (idle_quiet output)) (λ frame e few room. cases.repeats frame output e few room)
        (λ frame e many few. cases.drops frame output e many) fits)
