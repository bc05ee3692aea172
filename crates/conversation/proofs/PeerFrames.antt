-- A frame of the peer's does to a session what it does to the ledger, by what it is and test by test.
use mathlib.Core.Path.{◌≡◌, refl, ap, ◌∙◌}
use mathlib.Core.Bool.{true, false, ◌&&◌, ◌||◌}
use mathlib.Core.List.{List, [], ◌∷◌}
use Prim.Native.Nat.{ℕ}
use lib.Dec.{eqb, ltb}
use lib.ListN.{length}
use borrow.Author.Tests.{eqb-true}
use Rattle.refusals.specs.Numbers.{short_output}
use Rattle.slices.proofs.TestLaws.{both}
use Rattle.ash.specs.Stuffing.{payload_max}
use Rattle.ash.specs.Reading as reading
use Rattle.ash.specs.Reading.{read_frame}
use Rattle.session.specs.Counters.{of_peers}
use Rattle.session.specs.Control.{control_of}
use Rattle.session.specs.State.{output_room, recorded}
use Rattle.session.specs.Results.{given}
use Rattle.session.specs.Receiving as receiving
use Rattle.session.specs.Receiving.{answered, reset_ack_number, reset_taken, reset_ack_taken, receive_of, heard}
use Rattle.session.specs.declared.control.Kind.{Kind}
use Rattle.session.specs.declared.control.Kind.TheVariants.{Reset, ResetAck, Ack, Nack}
use Rattle.session.specs.declared.control.Control.{Control}
use Rattle.session.specs.declared.state.Session.{Session}
use Rattle.conversation.specs.Ledger.{Ledger, on_line, held}
use Rattle.conversation.specs.Events as events
use Rattle.conversation.specs.OurEvents.{restart}
use Rattle.conversation.specs.PeerFrames.{answering, hear, reset_ack_good, hear_reset, hear_reset_ack, by_kind, hearing, good_reset, good_reset_ack}
use Rattle.conversation.specs.Steps.{step}
use Rattle.conversation.proofs.Agreement.{Agrees}
use Rattle.conversation.proofs.HeldAgreement.{reported, holds_recorded}
use Rattle.conversation.proofs.FrameAgreement.{no_frame, empty_same}
use Rattle.conversation.proofs.Matching.{Matches, refusal_matches, given_matches, by_test, by_form}
use Rattle.conversation.proofs.OurEvents.{restart_agrees}
use Rattle.conversation.proofs.Answers.{ignored_matches, nacked_matches, answered_matches}
use Rattle.conversation.proofs.Replies.{reply_matches}

module _ (l : Ledger) (s : Session) (a : Agrees l s) (c : Control) (payload : List ℕ) where
  reset_matches : Matches s (hear_reset l c payload) (given (reset_taken s c (length payload)))
  unfolding hear_reset reset_taken
  reset_matches =
      let next = restart_agrees l s 1 l.awaiting s.awaiting a.awaiting_is in
      by_form s (good_reset c payload) _ refl
      (λ is. given_matches s (restart l 1 l.awaiting) (receiving.reset_heard s) _ _ (empty_same (restart l 1 l.awaiting) _ next ResetAck)
      (reported s l.counter (held l.entries) a.holds) next)
      (nacked_matches l s a)

  -- an awaited RESET ACK
  reset_ack_number_law : (p : List ℕ) → reset_ack_number (length p) ≡ reset_ack_good p
  reset_ack_number_law [] = refl
  reset_ack_number_law (b ∷ bs) = refl

  -- 1 and 2 are on the line as they are
  reset_ack_on_line : (p : List ℕ) → reset_ack_good p ≡ on_line (reset_ack_good p)
  reset_ack_on_line [] = refl
  reset_ack_on_line (b ∷ bs) = refl

  recorded_agrees : (good : ℕ) → c.number ≡ of_peers (on_line good) → Agrees (hear l good l.entries) (recorded s c.number)
  recorded_agrees good is =
      record { counter_is = a.counter_is; good_is = is; awaiting_is = refl; holds = holds_recorded s l.counter c.number (held l.entries) a.holds }

  reset_ack_good_law : good_reset_ack c payload ≡ true
      → Matches s (answering (hear l (reset_ack_good payload) l.entries) [] payload) (given (answered (recorded s c.number) [] payload))
  reset_ack_good_law good =
      let number = eqb-true c.number.0 (reset_ack_good payload) (both (eqb c.acknowledged.0 1) (eqb c.number.0 (reset_ack_good payload)) good).second in
      let next = recorded_agrees (reset_ack_good payload) (ap of_peers (number ∙ reset_ack_on_line payload)) in
      answered_matches s (recorded s c.number) _ next [] [] payload no_frame

  reset_ack_matches : Matches s (hear_reset_ack l c payload) (given (reset_ack_taken s c payload))
  unfolding hear_reset_ack reset_ack_taken
  reset_ack_matches =
      by_form s l.awaiting s.awaiting a.awaiting_is
      (λ awaiting. by_form s (good_reset_ack c payload) _ (ap (λ (n : ℕ). eqb c.acknowledged.0 1 && eqb c.number.0 n) (reset_ack_number_law payload)) reset_ack_good_law (nacked_matches l s a))
      (ignored_matches l s a)

  kind_matches : (kind : Kind) → Matches s (by_kind kind l c payload) (given (receiving.by_kind kind s c payload))
  kind_matches Reset = reset_matches
  kind_matches ResetAck = reset_ack_matches
  kind_matches Ack = reply_matches l s a c payload false
  kind_matches Nack = reply_matches l s a c payload true

module _ (l : Ledger) (s : Session) (a : Agrees l s) where
  heard_matches : (found : reading.Read) → Matches s (hearing l found) (given (heard s found))
  heard_matches (reading.frame control payload) = kind_matches l s a (control_of control) payload (control_of control).kind
  heard_matches (reading.refused n) = nacked_matches l s a

  pub receive_matches : (frame output buffer : List ℕ) → Matches s (step l (events.receive frame output buffer)) (receive_of s frame (length output) (length buffer))
  unfolding step receive_of
  receive_matches frame output buffer =
      by_test s (ltb (length output) output_room || ltb (length buffer) payload_max) _ refl (refusal_matches s l short_output a) (heard_matches (read_frame payload_max frame))
