-- What is ignored, what gets a NACK, and good data with its ACK match what the ledger says of them.
use mathlib.Core.Path.{refl}
use mathlib.Core.List.{List, [], ◌∷◌}
use Prim.Native.Nat.{ℕ}
use Rattle.session.specs.Frames as session
use Rattle.session.specs.Results.{given}
use Rattle.session.specs.Receiving as receiving
use Rattle.session.specs.Receiving.{answered}
use Rattle.session.specs.declared.control.Kind.TheVariants.{Ack, Nack}
use Rattle.session.specs.declared.state.Session.{Session}
use Rattle.conversation.specs.Ledger.{Ledger}
use Rattle.conversation.specs.Events.{Sent}
use Rattle.conversation.specs.PeerFrames.{ignoring, nacking, ack_for, answering}
use Rattle.conversation.proofs.Agreement.{Agrees}
use Rattle.conversation.proofs.FrameAgreement.{SameFrames, no_frame, same_append, empty_same}
use Rattle.conversation.proofs.Matching.{Matches, given_matches}

module _ (l : Ledger) (s : Session) (a : Agrees l s) where
  pub ignored_matches : Matches s (ignoring l) (given (receiving.ignored s))
  ignored_matches = given_matches s l _ _ [] no_frame refl a

  pub nacked_matches : Matches s (nacking l) (given (receiving.nacked s))
  nacked_matches = given_matches s l _ _ [] (empty_same l s a Nack) refl a

-- good data and its ACK, behind what is sent before
module _ (s₀ s : Session) (l : Ledger) (a : Agrees l s) where
  ack_same : (payload : List ℕ) → SameFrames (receiving.ack_for s payload) (ack_for l payload)
  ack_same [] = no_frame
  ack_same (b ∷ bs) = empty_same l s a Ack

  pub answered_matches : (fs : List session.Sent) (gs : List Sent) (payload : List ℕ) → SameFrames fs gs
      → Matches s₀ (answering l gs payload) (given (answered s fs payload))
  answered_matches fs gs payload same = given_matches s₀ l (answered s fs payload) _ [] (same_append same (ack_same payload)) refl a
