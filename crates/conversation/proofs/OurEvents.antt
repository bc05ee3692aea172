-- Our reset, our data and a timeout do to a session what they do to the ledger, test by test.
use mathlib.Core.Path.{◌≡◌, refl, ap, ◌∙◌}
use mathlib.Core.Bool.{Bool, true, false, cond}
use mathlib.Core.List.{List, [], ◌∷◌}
use Prim.Native.Nat.{ℕ, suc, ◌≤◌}
use native.Mathlib.Omega.{arith}
use lib.Dec.{ltb, leb}
use lib.ListN.{length}
use borrow.Author.Tests.{ltb-true, ltb-false, lt-ltb, le-leb, lt-leb}
use Rattle.refusals.specs.Numbers.{short_output, bad_length, reset_ack_awaited, two_frames_held}
use Rattle.slices.proofs.Impossible.{impossible}
use Rattle.ash.specs.Stuffing.{payload_max, stuff}
use Rattle.session.specs.Counters.{of_ours, of_peers, next_of_ours}
use Rattle.session.specs.State.{output_room, restarted, holds_two, holding_behind, holding}
use Rattle.session.specs.Frames.{data_frame}
use Rattle.session.specs.Results.{refused, given}
use Rattle.session.specs.Events.{reset_of, send_given, send_data, send_filled, send_of, timeout_of}
use Rattle.session.specs.declared.control.Kind.TheVariants.{Reset, Ack}
use Rattle.session.specs.declared.state.Held.{Held}
use Rattle.session.specs.declared.state.Held.TheVariants.{Nothing, One, Two}
use Rattle.session.specs.declared.counters.OFC.{OFC}
use Rattle.session.specs.declared.state.Session.{Session}
use Rattle.conversation.specs.Ledger.{Ledger, handed_out_now, on_line, held}
use Rattle.conversation.specs.Events as events
use Rattle.conversation.specs.OurEvents.{refusing, restart, accept, accepting, sendable, sending}
use Rattle.conversation.specs.Steps.{step}
use Rattle.conversation.proofs.NumberLaws.{next_on_line}
use Rattle.conversation.proofs.EntryLaws.{held_dropped, held_more}
use Rattle.conversation.proofs.Agreement.{none_held_law, Agrees}
use Rattle.conversation.proofs.HeldAgreement.{reported, two_agree, holds_more}
use Rattle.conversation.proofs.FrameAgreement.{SameFrame, no_frame, more_frames, empty_same, repeats_same}
use Rattle.conversation.proofs.Matching.{Matches, refusal_matches, given_matches, by_test}

-- a RESET of either side: one good number on the line, 0 or 1, is what the ledger has
pub restart_agrees : (l : Ledger) (s : Session) (good : ℕ) (awaiting awaiting₁ : Bool) → awaiting₁ ≡ awaiting
    → Agrees (restart l good awaiting) (restarted s (of_peers (on_line good)) awaiting₁)
restart_agrees l s good awaiting awaiting₁ same =
    record { counter_is = refl; good_is = refl; awaiting_is = same; holds = rw (held_dropped l.entries) (none_held_law refl) }

-- a frame more changes neither the last good number nor the wait
record Holding (s next : Session) (number : OFC) : Type 0 where
  counter_is : next.counter ≡ number
  good_is : next.good ≡ s.good
  awaiting_is : next.awaiting ≡ s.awaiting

holding_keeps : (s : Session) (number : OFC) (payload : List ℕ) → holds_two s.held ≡ false → Holding s (holding s number payload) number
holding_keeps s number payload free = by_held s.held free
  where
    by_held : (h : Held) → holds_two h ≡ false → Holding s (holding_behind h s number payload) number
    by_held Nothing free = record { counter_is = refl; good_is = refl; awaiting_is = refl }
    by_held (One older) free = record { counter_is = refl; good_is = refl; awaiting_is = refl }
    by_held (Two older newer) free = impossible cc

module _ (l : Ledger) (s : Session) (a : Agrees l s) where
  pub reset_matches : (output : List ℕ) → Matches s (step l (events.reset output)) (reset_of s (length output))
  unfolding step reset_of
  reset_matches output =
      by_test s (ltb (length output) output_room) _ refl (refusal_matches s l short_output a)
      (let next = restart_agrees l s 0 true true refl in
      given_matches s (restart l 0 true) _ _ _ (empty_same (restart l 0 true) _ next Reset) (reported s l.counter (held l.entries) a.holds) next)

  pub timeout_matches : (output : List ℕ) → Matches s (step l (events.timeout output)) (timeout_of s (length output))
  unfolding step timeout_of
  timeout_matches output =
      by_test s (ltb (length output) output_room) _ refl (refusal_matches s l short_output a) (given_matches s l _ _ _ (repeats_same l s a) refl a)

  -- data that is accepted
  next_is : next_of_ours s.counter ≡ of_ours (on_line (suc l.counter))
  next_is = ap next_of_ours a.counter_is ∙ ap of_ours (next_on_line l.counter)

  module _ (payload : List ℕ) (few : leb 2 (length (held l.entries)) ≡ false) (short : length (stuff payload) ≤ payload_max) where
    accept_agrees : Agrees (accept l payload) (holding s (of_ours (on_line (suc l.counter))) payload)
    accept_agrees =
        let more = holds_more s l.counter payload short (held l.entries) a.holds few in
        let free : holds_two s.held ≡ false = two_agree s l.counter (held l.entries) a.holds ∙ few in
        let kept = holding_keeps s (of_ours (on_line (suc l.counter))) payload free in
        record {
          counter_is = kept.counter_is;
          good_is = kept.good_is ∙ a.good_is;
          awaiting_is = kept.awaiting_is ∙ a.awaiting_is;
          holds = rw (held_more l.entries (handed_out_now (suc l.counter) payload) refl) more;
        }

    accept_matches : Matches s (accepting l payload) (given (send_given s payload))
    accept_matches = rw next_is (given_matches s (accept l payload) _ _ [] (more_frames sent no_frame) refl accept_agrees)
      where
        sent : SameFrame (data_frame (of_ours (on_line (suc l.counter))) s.good payload) (record { kind = Ack; ofc = suc l.counter; afc = l.good; payload = payload })
        sent = record { kind_is = refl; ofc_is = refl; afc_is = a.good_is; payload_is = refl; short = short }

  filled_matches : (payload : List ℕ) → leb 2 (length (held l.entries)) ≡ false
      → Matches s (cond (sendable payload) (accepting l payload) (refusing l bad_length)) (send_filled s payload)
  unfolding send_data
  filled_matches [] few = refusal_matches s l bad_length a
  filled_matches (b ∷ bs) few = by_length (ltb payload_max (length (stuff (b ∷ bs)))) refl
    where
      some : ltb 0 (length (b ∷ bs)) ≡ true
      some = lt-ltb 0 (length (b ∷ bs)) (omega arith)

      by_length : (t : Bool) → ltb payload_max (length (stuff (b ∷ bs))) ≡ t
          → Matches s (cond (sendable (b ∷ bs)) (accepting l (b ∷ bs)) (refusing l bad_length)) (cond t (refused bad_length) (given (send_given s (b ∷ bs))))
      by_length true e = rw (some, lt-leb _ payload_max (ltb-true payload_max _ e)) (refusal_matches s l bad_length a)
      by_length false e =
          let short = ltb-false payload_max (length (stuff (b ∷ bs))) e in
          rw (some, le-leb (length (stuff (b ∷ bs))) payload_max short) (accept_matches (b ∷ bs) few short)

  pub send_matches : (payload output : List ℕ) → Matches s (step l (events.send payload output)) (send_of s payload (length output))
  unfolding step send_of sending
  send_matches payload output =
      by_test s (ltb (length output) output_room) _ refl (refusal_matches s l short_output a)
      (by_test s l.awaiting s.awaiting a.awaiting_is (refusal_matches s l reset_ack_awaited a)
      (by_held (leb 2 (length (held l.entries))) (holds_two s.held) refl (two_agree s l.counter (held l.entries) a.holds)))
    where
      by_held : (t u : Bool) → leb 2 (length (held l.entries)) ≡ t → u ≡ t
          → Matches s (cond t (refusing l two_frames_held) (cond (sendable payload) (accepting l payload) (refusing l bad_length)))
          (cond u (refused two_frames_held) (send_filled s payload))
      by_held true true e same = refusal_matches s l two_frames_held a
      by_held true false e same = impossible cc
      by_held false true e same = impossible cc
      by_held false false e same = filled_matches payload e
