-- For every list of events from a fresh session, refused ones among them, answers and buffers are the ledger's, event by event, and afterwards
-- the counters and the held frames are. It holds since a fresh session agrees with the ledger's start and each event keeps the agreement.
use mathlib.Core.Path.{◌≡◌, refl, sym, ap, ap₂, ◌∙◌, subst⁻¹}
use mathlib.Core.List.{List, [], ◌∷◌, map}
use Prim.Native.Nat.{ℕ, ◌≤◌}
use native.Mathlib.Omega.{arith}
use lib.ListN.{length}
use Rattle.std.specs.Prelude as std
use Rattle.refusals.specs.declared.Refusal.{Refusal}
use Rattle.slices.specs.Put.{put_at}
use Rattle.slices.proofs.PutLaws.{put_out}
use Rattle.session.specs.Counters.{of_ours, of_peers}
use Rattle.session.specs.State.{Payload, fresh_session, kept}
use Rattle.session.specs.declared.counters.OFC.{OFC}
use Rattle.session.specs.Results.{Result, payload_handed, SendsAs, HandsAs}
use Rattle.session.specs.declared.state.Held.{Held}
use Rattle.session.specs.declared.state.Done.{Done}
use Rattle.session.specs.declared.state.Outcome.{Outcome}
use Rattle.session.specs.declared.state.Session.{Session}
use Rattle.conversation.specs.Ledger.{Ledger, Entry, start, on_line, held}
use Rattle.conversation.specs.Events as events
use Rattle.conversation.specs.Events.{Event, Effect, line_of, frames_in, handed_in}
use Rattle.conversation.specs.Steps.{step, after}
use Rattle.conversation.specs.Shown.{as_answer, Left, output_lent, buffer_lent, leaves, given, Kept, kept_by, kept_in, as_kept}
use Rattle.conversation.proofs.Agreement.{Keeps, Holds, none_held_law, one_held, two_held, Agrees}
use Rattle.conversation.proofs.HeldAgreement.{held_at_most_two}
use Rattle.conversation.proofs.Matching.{Matches}
use Rattle.conversation.proofs.OurEvents.{reset_matches, send_matches, timeout_matches}
use Rattle.conversation.proofs.PeerFrames.{receive_matches}
use Rattle.conversation.proofs.Chain.{Starts, Chain, done, resets, sends, receives, times_out, was_reset, was_sent, was_timeout, was_received, left_by}

-- an event left what the ledger says of it, and they agree
record Went (e : Event) (effect : Effect) (outcome : Outcome) (output₁ buffer₁ : List ℕ) : Type 0 where
  gives : left_by outcome output₁ buffer₁ ≡ leaves e effect.says
  agrees : Agrees effect.ledger outcome.session

same_left : {a b : std.Result Done Refusal} {o p h i : List ℕ} → a ≡ b → o ≡ p → h ≡ i
    → ◌≡◌ {A = Left} (record { answer = a; output = o; handed = h }) (record { answer = b; output = p; handed = i })
same_left answer sent up = cc

went : (s : Session) (e : Event) (effect : Effect) (r : Result) (outcome : Outcome) (output₁ buffer₁ : List ℕ) → Matches s effect r
    → HandsAs s r (output_lent e) (buffer_lent e) outcome output₁ buffer₁ → Went e effect outcome output₁ buffer₁
went s e effect r outcome output₁ buffer₁ m did =
    let answer : outcome.answer ≡ as_answer effect.says = ap (λ (o : Outcome). o.answer) did.answers ∙ m.answers in
    let sent : output₁ ≡ put_at (output_lent e) 0 (line_of (frames_in effect.says)) = did.sends ∙ ap (put_at (output_lent e) 0) m.sends in
    let up : buffer₁ ≡ put_at (buffer_lent e) 0 (handed_in effect.says) = did.hands_up ∙ ap (put_at (buffer_lent e) 0) m.hands_up in
    record { gives = same_left answer sent up; agrees = rw did.answers m.agrees }

-- an event that is lent no buffer for a payload
alone : (s : Session) (r : Result) (output : List ℕ) (outcome : Outcome) (output₁ : List ℕ) → SendsAs s r output outcome output₁
    → HandsAs s r output [] outcome output₁ []
alone s r output outcome output₁ did =
    record { answers = did.answers; sends = did.sends; hands_up = sym (put_out [] 0 (payload_handed r) (omega arith)) }

-- after some events session and ledger agree, and all that was left is what the ledger gives
pub record Agreed (l : Ledger) (es : List Event) (left : List Left) (end : Session) : Type 0 where
  pub gives : left ≡ given l es
  pub agrees : Agrees (after l es) end

further : (l : Ledger) (e : Event) (es : List Event) (outcome : Outcome) (output₁ buffer₁ : List ℕ) (left : List Left) (end : Session)
    → Went e (step l e) outcome output₁ buffer₁ → Agreed (step l e).ledger es left end → Agreed l (e ∷ es) (left_by outcome output₁ buffer₁ ∷ left) end
unfolding given after
further l e es outcome output₁ buffer₁ left end first rest =
    record { gives = ap₂ (λ (x : Left) (xs : List Left). x ∷ xs) first.gives rest.gives; agrees = rest.agrees }

pub chain_agrees : (l : Ledger) {s end : Session} {es : List Event} {left : List Left} → Chain s es left end → Agrees l s → Agreed l es left end
unfolding given after
chain_agrees l done a = record { gives = refl; agrees = a }
chain_agrees l (resets {s = s} {output = output} r rest) a =
    let first = went s (events.reset output) _ _ _ _ _ (reset_matches l s a output) (alone s _ output _ _ (was_reset r)) in
    further l (events.reset output) _ _ _ _ _ _ first (chain_agrees (step l (events.reset output)).ledger rest first.agrees)
chain_agrees l (sends {s = s} {payload = payload} {output = output} r rest) a =
    let first = went s (events.send payload output) _ _ _ _ _ (send_matches l s a payload output) (alone s _ output _ _ (was_sent r)) in
    further l (events.send payload output) _ _ _ _ _ _ first (chain_agrees (step l (events.send payload output)).ledger rest first.agrees)
chain_agrees l (receives {s = s} {frame = frame} {output = output} {buffer = buffer} r rest) a =
    let first = went s (events.receive frame output buffer) _ _ _ _ _ (receive_matches l s a frame output buffer) (was_received r) in
    further l (events.receive frame output buffer) _ _ _ _ _ _ first (chain_agrees (step l (events.receive frame output buffer)).ledger rest first.agrees)
chain_agrees l (times_out {s = s} {output = output} r rest) a =
    let first = went s (events.timeout output) _ _ _ _ _ (timeout_matches l s a output) (alone s _ output _ _ (was_timeout r)) in
    further l (events.timeout output) _ _ _ _ _ _ first (chain_agrees (step l (events.timeout output)).ledger rest first.agrees)

-- a fresh session agrees with the ledger's start
fresh_agrees : Agrees start fresh_session
unfolding fresh_session held
fresh_agrees = record { counter_is = refl; good_is = refl; awaiting_is = refl; holds = none_held_law refl }

pub from_start : {s end : Session} {es : List Event} {left : List Left} → Starts s → Chain s es left end → Agreed start es left end
from_start begins chain = chain_agrees start chain (subst⁻¹ (λ (x : Session). Agrees start x) begins fresh_agrees)

kept_is : (e : Entry) (number : OFC) (payload : Payload) → Keeps e number payload
    → ◌≡◌ {A = Kept} (record { number = number; payload = kept payload }) (as_kept e)
kept_is e number payload k = rw (k.number_is, k.payload_is)

-- the frames that a session holds are those of the entries that wait
kept_are : (s : Session) (counter : ℕ) (es : List Entry) → Holds s counter es → kept_in s ≡ map as_kept es
kept_are s counter [] (none_held_law is) = ap (λ (h : Held). kept_by h s) is
kept_are s counter (e ∷ []) (one_held is k last) = ap (λ (h : Held). kept_by h s) is ∙ ap (λ (x : Kept). x ∷ []) (kept_is e _ _ k)
kept_are s counter (e ∷ f ∷ []) (two_held is j k first last) =
    ap (λ (h : Held). kept_by h s) is ∙ ap₂ (λ (x y : Kept). x ∷ y ∷ []) (kept_is e _ _ j) (kept_is f _ _ k)
kept_are s counter (e ∷ f ∷ _ ∷ _) h = elim h [ ]

-- what the ledger says of a list of events
pub record IsLedgers (es : List Event) (left : List Left) (end : Session) : Type 0 where
  -- the answers, the frames reported as dropped, and the bytes left in the buffers, event by event
  pub answers : left ≡ given start es
  -- the two counters as they are on the line, and the wait
  pub counter : end.counter ≡ of_ours (on_line (after start es).counter)
  pub good : end.good ≡ of_peers (on_line (after start es).good)
  pub awaiting : end.awaiting ≡ (after start es).awaiting
  -- the frames handed out and not yet covered or dropped, oldest first
  pub holds : kept_in end ≡ map as_kept (held (after start es).entries)
  pub at_most_two : length (held (after start es).entries) ≤ 2

-- THEOREM. Every list of events from a fresh session is the ledger's.
pub every_list : (s : Session) → Starts s → (es : List Event) (left : List Left) (end : Session) → Chain s es left end → IsLedgers es left end
every_list s begins es left end chain =
    let agreed = from_start begins chain in
    let a = agreed.agrees in
    record {
      answers = agreed.gives;
      counter = a.counter_is;
      good = a.good_is;
      awaiting = a.awaiting_is;
      holds = kept_are end _ _ a.holds;
      at_most_two = held_at_most_two end _ _ a.holds;
    }
