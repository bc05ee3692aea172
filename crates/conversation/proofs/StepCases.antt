-- What an event does to the ledger is one of nine effects: by the tests of the event, one after the other. What holds of all nine holds of
-- every event.
use mathlib.Core.Path.{◌≡◌, refl}
use mathlib.Core.Bool.{Bool, true, false, cond, ◌||◌}
use mathlib.Core.List.{List, []}
use Prim.Native.Nat.{ℕ, ◌≤◌}
use lib.Dec.{ltb, leb}
use lib.ListN.{length}
use Rattle.refusals.specs.Numbers.{bad_length, two_frames_held, reset_ack_awaited, short_output}
use Rattle.refusals.specs.declared.Refusal.{Refusal}
use Rattle.ash.specs.Stuffing.{payload_max}
use Rattle.ash.specs.Reading as reading
use Rattle.ash.specs.Reading.{read_frame}
use Rattle.ash.proofs.OnlyWritten.{taken_fits}
use Rattle.session.specs.State.{output_room}
use Rattle.session.specs.Control.{control_of}
use Rattle.session.specs.declared.control.Kind.{Kind}
use Rattle.session.specs.declared.control.Kind.TheVariants.{Reset, ResetAck, Ack, Nack}
use Rattle.session.specs.declared.control.Control.{Control}
use Rattle.conversation.specs.Ledger.{Ledger, held, cover}
use Rattle.conversation.specs.Events as events
use Rattle.conversation.specs.Events.{Event, Effect}
use Rattle.conversation.specs.OurEvents.{refusing, saying, repeats, restarting, accepting, sendable, sending}
use Rattle.conversation.specs.PeerFrames.{ignoring, nacking, answering, good_reset, hear_reset, hear, reset_ack_good, good_reset_ack, hear_reset_ack, good_next, is_next, repeats_if, hear_reply, by_kind, hearing}
use Rattle.conversation.specs.Steps.{step}

-- an ACK or a NACK that is taken leaves this
abbrev pub replied : Ledger → Control → List ℕ → Ledger
replied l c payload = hear l (good_next l payload) (cover c.acknowledged.0 l.entries)

pub record Cases (l : Ledger) (P : Effect → Type 0) : Type 0 where
  pub refuses : (n : Refusal) → P (refusing l n)
  pub resets : P (restarting Reset l 0 true)
  pub accepts : (payload : List ℕ) → l.awaiting ≡ false → leb 2 (length (held l.entries)) ≡ false → sendable payload ≡ true → P (accepting l payload)
  pub times_out : P (saying l (repeats l) [] [])
  pub ignores : P (ignoring l)
  pub nacks : P (nacking l)
  pub hears_reset : P (restarting ResetAck l 1 l.awaiting)
  pub hears_reset_ack : (payload : List ℕ) → length payload ≤ payload_max → P (answering (hear l (reset_ack_good payload) l.entries) [] payload)
  pub hears_reply : (c : Control) (nack : Bool) (payload : List ℕ) → length payload ≤ payload_max
      → P (answering (replied l c payload) (repeats_if nack (replied l c payload)) payload)

-- a test whose first effect may rest on what it told
tested : (P : Effect → Type 0) (e f : Effect) (t : Bool) → (t ≡ true → P e) → (t ≡ false → P f) → P (cond t e f)
tested P e f true first second = first refl
tested P e f false first second = second refl

module _ (l : Ledger) (P : Effect → Type 0) (c : Cases l P) where
  reply_case : (k : Control) (nack : Bool) (payload : List ℕ) → length payload ≤ payload_max → P (hear_reply l k nack payload)
  unfolding hear_reply
  reply_case k nack payload short =
      tested P _ _ l.awaiting (λ is. c.ignores) (λ is. tested P _ _ (is_next l k payload) (λ next. c.hears_reply k nack payload short) (λ other. c.nacks))

  kind_case : (kind : Kind) (k : Control) (payload : List ℕ) → length payload ≤ payload_max → P (by_kind kind l k payload)
  unfolding hear_reset hear_reset_ack
  kind_case Reset k payload short = tested P _ _ (good_reset k payload) (λ is. c.hears_reset) (λ is. c.nacks)
  kind_case ResetAck k payload short =
      tested P _ _ l.awaiting (λ is. tested P _ _ (good_reset_ack k payload) (λ good. c.hears_reset_ack payload short) (λ bad. c.nacks)) (λ is. c.ignores)
  kind_case Ack k payload short = reply_case k false payload short
  kind_case Nack k payload short = reply_case k true payload short

  hearing_case : (bytes : List ℕ) (found : reading.Read) → read_frame payload_max bytes ≡ found → P (hearing l found)
  hearing_case bytes (reading.frame control payload) is =
      kind_case (control_of control).kind (control_of control) payload (taken_fits payload_max bytes control payload is)
  hearing_case bytes (reading.refused n) is = c.nacks

  sending_case : (payload : List ℕ) → P (sending l payload)
  unfolding sending
  sending_case payload =
      tested P _ _ l.awaiting (λ is. c.refuses reset_ack_awaited)
      (λ idle. tested P _ _ (leb 2 (length (held l.entries))) (λ two. c.refuses two_frames_held)
      (λ few. tested P _ _ (sendable payload) (λ good. c.accepts payload idle few good) (λ bad. c.refuses bad_length)))

  pub step_case : (e : Event) → P (step l e)
  unfolding step
  step_case (events.reset output) = tested P _ _ (ltb (length output) output_room) (λ short. c.refuses short_output) (λ enough. c.resets)
  step_case (events.send payload output) = tested P _ _ (ltb (length output) output_room) (λ short. c.refuses short_output) (λ enough. sending_case payload)
  step_case (events.timeout output) = tested P _ _ (ltb (length output) output_room) (λ short. c.refuses short_output) (λ enough. c.times_out)
  step_case (events.receive frame output buffer) =
      tested P _ _ (ltb (length output) output_room || ltb (length buffer) payload_max) (λ short. c.refuses short_output) (λ enough. hearing_case frame (read_frame payload_max frame) refl)
