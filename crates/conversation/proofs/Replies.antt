-- An ACK or a NACK of the peer's does to a session what it does to the ledger: it covers, has frames sent again, and its data is the next or
-- at fault.
use mathlib.Core.Path.{◌≡◌, refl, ap, ◌∙◌}
use mathlib.Core.Bool.{Bool, true, false, cond}
use mathlib.Core.List.{List, [], ◌∷◌}
use Prim.Native.Nat.{ℕ, suc}
use lib.Dec.{eqb}
use lib.ListN.{length}
use borrow.Author.Tests.{eqb-true}
use Rattle.slices.proofs.Impossible.{impossible}
use Rattle.session.specs.Counters.{of_peers, next_of_peers}
use Rattle.session.specs.State.{none_held, newer_alone, covered_from, covered, recorded_data, in_order}
use Rattle.session.specs.Frames as session
use Rattle.session.specs.Results.{given}
use Rattle.session.specs.Receiving as receiving
use Rattle.session.specs.Receiving.{reply_taken}
use Rattle.session.specs.declared.counters.OFC.{OFC}
use Rattle.session.specs.declared.counters.AFC.{AFC}
use Rattle.session.specs.declared.control.Control.{Control}
use Rattle.session.specs.declared.state.Held.{Held}
use Rattle.session.specs.declared.state.Held.TheVariants.{Nothing, One, Two}
use Rattle.session.specs.declared.state.Session.{Session}
use Rattle.conversation.specs.Ledger.{Ledger, on_line, held, cover}
use Rattle.conversation.specs.PeerFrames.{ignoring, nacking, answering, hear, good_next, is_next, repeats_if, hear_reply}
use Rattle.conversation.proofs.NumberLaws.{next_on_line}
use Rattle.conversation.proofs.Agreement.{Holds, Agrees}
use Rattle.conversation.proofs.HeldAgreement.{holds_covered, holds_recorded}
use Rattle.conversation.proofs.FrameAgreement.{SameFrames, no_frame, repeats_same}
use Rattle.conversation.proofs.Matching.{Matches, by_form}
use Rattle.conversation.proofs.Answers.{ignored_matches, nacked_matches, answered_matches}

-- covering frames changes neither the counters nor the wait
record Covering (s next : Session) : Type 0 where
  counter_is : next.counter ≡ s.counter
  good_is : next.good ≡ s.good
  awaiting_is : next.awaiting ≡ s.awaiting

covered_keeps : (s : Session) (acknowledged : OFC) → Covering s (covered s acknowledged)
covered_keeps s acknowledged = by_held s.held
  where
    kept : Covering s s
    kept = record { counter_is = refl; good_is = refl; awaiting_is = refl }

    none : Covering s (none_held s)
    none = record { counter_is = refl; good_is = refl; awaiting_is = refl }

    newer : (number : OFC) → Covering s (newer_alone s number)
    newer number = record { counter_is = refl; good_is = refl; awaiting_is = refl }

    by_name : (t : Bool) (a b : Session) → Covering s a → Covering s b → Covering s (cond t a b)
    by_name true a b first second = first
    by_name false a b first second = second

    by_held : (h : Held) → Covering s (covered_from h s acknowledged)
    by_held Nothing = kept
    by_held (One older) = by_name (eqb older.0 acknowledged.0) (none_held s) s none kept
    by_held (Two older newest) =
        by_name (eqb newest.0 acknowledged.0) (none_held s) (cond (eqb older.0 acknowledged.0) (newer_alone s newest) s) none
        (by_name (eqb older.0 acknowledged.0) (newer_alone s newest) s (newer newest) kept)

module _ (l : Ledger) (s : Session) (a : Agrees l s) (c : Control) (payload : List ℕ) where
  -- an ACK or a NACK that is not ignored
  is_next_same : (p : List ℕ) → in_order s.good c.number (length p) ≡ is_next l c p
  is_next_same [] = refl
  is_next_same (b ∷ bs) = ap (λ (n : ℕ). eqb c.number.0 n) (ap (λ (g : AFC). (next_of_peers g).0) a.good_is ∙ next_on_line l.good)

  abbrev covering : Session
  covering = covered s c.acknowledged

  covering_holds : Holds covering l.counter (held (cover c.acknowledged.0 l.entries))
  covering_holds = holds_covered s l.counter c.acknowledged.0 l.entries a.holds

  heard_agrees : l.awaiting ≡ false → (p : List ℕ) → is_next l c p ≡ true
      → Agrees (hear l (good_next l p) (cover c.acknowledged.0 l.entries)) (recorded_data covering c.number (length p))
  heard_agrees idle [] next =
      let keeps = covered_keeps s c.acknowledged in
      record {
        counter_is = keeps.counter_is ∙ a.counter_is;
        good_is = keeps.good_is ∙ a.good_is;
        awaiting_is = keeps.awaiting_is ∙ a.awaiting_is ∙ idle;
        holds = covering_holds;
      }
  heard_agrees idle (b ∷ bs) next =
      let keeps = covered_keeps s c.acknowledged in
      record {
        counter_is = keeps.counter_is ∙ a.counter_is;
        good_is = ap of_peers (eqb-true c.number.0 (on_line (suc l.good)) next);
        awaiting_is = refl;
        holds = holds_recorded covering l.counter c.number _ covering_holds;
      }

  repeats_if_law : (nack : Bool) (m : Ledger) (s₁ : Session) → Agrees m s₁ → SameFrames (session.repeats_if nack s₁) (repeats_if nack m)
  repeats_if_law true m s₁ b = repeats_same m s₁ b
  repeats_if_law false m s₁ b = no_frame

  pub reply_matches : (nack : Bool) → Matches s (hear_reply l c nack payload) (given (reply_taken s c nack payload))
  unfolding hear_reply reply_taken
  reply_matches nack =
      by_idle l.awaiting s.awaiting refl a.awaiting_is
    where
      next : Ledger
      next = hear l (good_next l payload) (cover c.acknowledged.0 l.entries)

      heard_matches : l.awaiting ≡ false → is_next l c payload ≡ true
          → Matches s (answering next (repeats_if nack next) payload) (given (receiving.reply_heard s c nack payload))
      heard_matches idle is =
          let agrees = heard_agrees idle payload is in
          answered_matches s (recorded_data covering c.number (length payload)) next agrees _ _ payload (repeats_if_law nack next _ agrees)

      by_idle : (t u : Bool) → l.awaiting ≡ t → u ≡ t
          → Matches s (cond t (ignoring l) (cond (is_next l c payload) (answering next (repeats_if nack next) payload) (nacking l)))
          (given (cond u (receiving.ignored s) (cond (in_order s.good c.number (length payload)) (receiving.reply_heard s c nack payload) (receiving.nacked s))))
      by_idle true true idle same = ignored_matches l s a
      by_idle true false idle same = impossible cc
      by_idle false true idle same = impossible cc
      by_idle false false idle same = by_form s (is_next l c payload) _ (is_next_same payload) (heard_matches idle) (nacked_matches l s a)
