-- What an event of a session gives matches what the ledger says of it: the answer, the bytes sent, the payload handed up; and they agree
-- afterwards.
use mathlib.Core.Path.{◌≡◌, refl}
use mathlib.Core.Bool.{Bool, true, false, cond}
use mathlib.Core.List.{List}
use Prim.Native.Nat.{ℕ}
use Rattle.refusals.specs.declared.Refusal.{Refusal}
use Rattle.slices.proofs.Impossible.{impossible}
use Rattle.session.specs.Frames.{bytes_of}
use Rattle.session.specs.Results.{Given, Result, refused, given, frames_sent, payload_handed, outcome_of}
use Rattle.session.specs.declared.state.Session.{Session}
use Rattle.conversation.specs.Ledger.{Ledger}
use Rattle.conversation.specs.Events.{Sent, Effect, frames_in, handed_in, line_of}
use Rattle.conversation.specs.OurEvents.{refusing, saying}
use Rattle.conversation.specs.Shown.{as_held, as_answer}
use Rattle.conversation.proofs.Agreement.{Agrees}
use Rattle.conversation.proofs.FrameAgreement.{SameFrames, same_line}

pub record Matches (s : Session) (e : Effect) (r : Result) : Type 0 where
  pub answers : (outcome_of s r).answer ≡ as_answer e.says
  pub sends : bytes_of (frames_sent r) ≡ line_of (frames_in e.says)
  pub hands_up : payload_handed r ≡ handed_in e.says
  pub agrees : Agrees e.ledger (outcome_of s r).session

module _ (s : Session) where
  pub refusal_matches : (l : Ledger) (n : Refusal) → Agrees l s → Matches s (refusing l n) (refused n)
  unfolding bytes_of line_of
  refusal_matches l n a = record { answers = refl; sends = refl; hands_up = refl; agrees = a }

  pub given_matches : (l : Ledger) (g : Given) (frames : List Sent) (dropped : List ℕ) → SameFrames g.frames frames → g.dropped ≡ as_held dropped
      → Agrees l g.session → Matches s (saying l frames g.handed dropped) (given g)
  given_matches l g frames dropped same report a =
      let line = same_line same in
      record { answers = rw (line, report); sends = line; hands_up = refl; agrees = a }

  -- behind a test that both make
  pub by_test : {e f : Effect} {r q : Result} (t u : Bool) → u ≡ t → Matches s e r → Matches s f q → Matches s (cond t e f) (cond u r q)
  by_test true true same first second = first
  by_test true false same first second = impossible cc
  by_test false true same first second = impossible cc
  by_test false false same first second = second

  -- and where the test is made of a frame; what it told is known in each branch
  pub by_form : {e f : Effect} {g h : Given} (t u : Bool) → u ≡ t → (t ≡ true → Matches s e (given g)) → Matches s f (given h)
      → Matches s (cond t e f) (given (cond u g h))
  by_form true true same first second = first refl
  by_form true false same first second = impossible cc
  by_form false true same first second = impossible cc
  by_form false false same first second = second
