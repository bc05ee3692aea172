-- The ledger's entries are the sends that were accepted, in order: a cover or a RESET changes what became of a frame, and no event takes one
-- away.
use mathlib.Core.Path.{◌≡◌, refl, sym, ap, ap₂, ◌∙◌}
use mathlib.Core.Bool.{Bool, true, false, cond, ◌||◌}
use mathlib.Core.List.{List, [], ◌∷◌, ◌++◌, map, append-nil, append_assoc}
use mathlib.Core.Option.{Option, some, none}
use Prim.Native.Nat.{ℕ, suc}
use lib.Dec.{ltb, leb}
use lib.ListN.{length}
use Rattle.refusals.specs.declared.Refusal.{Refusal}
use Rattle.refusals.specs.Numbers.{short_output, bad_length, reset_ack_awaited, two_frames_held}
use Rattle.ash.specs.Stuffing.{payload_max}
use Rattle.ash.specs.Reading as reading
use Rattle.ash.specs.Reading.{read_frame}
use Rattle.session.specs.State.{output_room}
use Rattle.session.specs.Control.{control_of}
use Rattle.session.specs.declared.control.Kind.{Kind}
use Rattle.session.specs.declared.control.Kind.TheVariants.{Reset, ResetAck, Ack, Nack}
use Rattle.session.specs.declared.control.Control.{Control}
use Rattle.session.specs.declared.state.Session.{Session}
use Rattle.conversation.specs.Ledger.{Fate, waiting, covered, dropped, Entry, Ledger, handed_out_now, start, held, became, dropped_if, drop_all, named, covered_if, cover_to, cover_named, cover}
use Rattle.conversation.specs.Events as events
use Rattle.conversation.specs.Events.{Event, Effect}
use Rattle.conversation.specs.OurEvents.{refusing, sendable, sending}
use Rattle.conversation.specs.PeerFrames.{is_next, hear_reset, hear_reset_ack, hear_reply, by_kind, hearing, good_reset, good_reset_ack}
use Rattle.conversation.specs.Steps.{step, after}
use Rattle.conversation.specs.Shown.{Left, leaves, given, accepted_in, accepted, kept_in, as_kept}
use Rattle.conversation.proofs.EffectLaws.{either}
use Rattle.conversation.proofs.Chain.{Starts, Chain}
use Rattle.conversation.proofs.EveryList.{every_list}

abbrev pub payload_in : Entry → List ℕ
payload_in e = e.payload

abbrev payloads : List Entry → List (List ℕ)
payloads es = map payload_in es

drop_payload : (fate : Fate) (e : Entry) → (dropped_if fate e).payload ≡ e.payload
drop_payload waiting e = refl
drop_payload covered e = refl
drop_payload dropped e = refl

drop_payloads : (es : List Entry) → payloads (drop_all es) ≡ payloads es
unfolding drop_all
drop_payloads [] = refl
drop_payloads (e ∷ es) = ap₂ (λ (p : List ℕ) (ps : List (List ℕ)). p ∷ ps) (drop_payload e.fate e) (drop_payloads es)

cover_payload : (fate : Fate) (n : ℕ) (e : Entry) → (covered_if fate n e).payload ≡ e.payload
cover_payload waiting n e = by_number (leb e.number n)
  where
    by_number : (t : Bool) → (cond t (became covered e) e).payload ≡ e.payload
    by_number true = refl
    by_number false = refl
cover_payload covered n e = refl
cover_payload dropped n e = refl

cover_payloads : (n : ℕ) (es : List Entry) → payloads (cover_to n es) ≡ payloads es
unfolding cover_to
cover_payloads n [] = refl
cover_payloads n (e ∷ es) = ap₂ (λ (p : List ℕ) (ps : List (List ℕ)). p ∷ ps) (cover_payload e.fate n e) (cover_payloads n es)

named_payloads : (seen : ℕ) (es : List Entry) → payloads (cover seen es) ≡ payloads es
named_payloads seen es = by_name (named seen (held es))
  where
    by_name : (o : Option ℕ) → payloads (cover_named o es) ≡ payloads es
    by_name (some n) = cover_payloads n es
    by_name none = refl

-- an event that leaves the payloads as they were
record Keeps (l : Ledger) (e : Effect) : Type 0 where
  same : payloads e.ledger.entries ≡ payloads l.entries

module _ (l : Ledger) where
  kind_keeps : (kind : Kind) (c : Control) (payload : List ℕ) → Keeps l (by_kind kind l c payload)
  unfolding hear_reset hear_reset_ack hear_reply
  kind_keeps Reset c payload =
      either (Keeps l) _ _ (good_reset c payload) (record { same = drop_payloads l.entries }) (record { same = refl })
  kind_keeps ResetAck c payload =
      either (Keeps l) _ _ l.awaiting
      (either (Keeps l) _ _ (good_reset_ack c payload) (record { same = refl }) (record { same = refl }))
      (record { same = refl })
  kind_keeps Ack c payload =
      either (Keeps l) _ _ l.awaiting (record { same = refl })
      (either (Keeps l) _ _ (is_next l c payload) (record { same = named_payloads c.acknowledged.0 l.entries }) (record { same = refl }))
  kind_keeps Nack c payload =
      either (Keeps l) _ _ l.awaiting (record { same = refl })
      (either (Keeps l) _ _ (is_next l c payload) (record { same = named_payloads c.acknowledged.0 l.entries }) (record { same = refl }))

  hearing_keeps : (found : reading.Read) → Keeps l (hearing l found)
  hearing_keeps (reading.frame control payload) = kind_keeps (control_of control).kind (control_of control) payload
  hearing_keeps (reading.refused n) = record { same = refl }

-- an event hands out what it accepts, behind what was handed out before
record HandsOut (l : Ledger) (e : Event) (effect : Effect) : Type 0 where
  is : payloads effect.ledger.entries ≡ payloads l.entries ++ accepted_in e (leaves e effect.says)

none_more : (l : Ledger) (effect : Effect) → Keeps l effect → payloads effect.ledger.entries ≡ payloads l.entries ++ []
none_more l effect k = k.same ∙ sym (append-nil (payloads l.entries))

one_more : (es : List Entry) (e : Entry) → payloads (es ++ (e ∷ [])) ≡ payloads es ++ (e.payload ∷ [])
one_more [] e = refl
one_more (d ∷ es) e = ap (λ (ps : List (List ℕ)). d.payload ∷ ps) (one_more es e)

send_refused : (l : Ledger) (payload output : List ℕ) (n : Refusal) → HandsOut l (events.send payload output) (refusing l n)
send_refused l payload output n = record { is = sym (append-nil (payloads l.entries)) }

step_hands_out : (l : Ledger) (e : Event) → HandsOut l e (step l e)
unfolding step sending
step_hands_out l (events.reset output) =
    record {
      is = none_more l _ (either (Keeps l) _ _ (ltb (length output) output_room) (record { same = refl }) (record { same = drop_payloads l.entries }));
    }
step_hands_out l (events.timeout output) =
    record { is = none_more l _ (either (Keeps l) _ _ (ltb (length output) output_room) (record { same = refl }) (record { same = refl })) }
step_hands_out l (events.receive frame output buffer) =
    record {
      is = none_more l _ (either (Keeps l) _ _ (ltb (length output) output_room || ltb (length buffer) payload_max) (record { same = refl }) (hearing_keeps l (read_frame payload_max frame)));
    }
step_hands_out l (events.send payload output) =
    either (HandsOut l (events.send payload output)) _ _ (ltb (length output) output_room) (send_refused l payload output short_output)
    (either (HandsOut l (events.send payload output)) _ _ l.awaiting (send_refused l payload output reset_ack_awaited)
    (either (HandsOut l (events.send payload output)) _ _ (leb 2 (length (held l.entries))) (send_refused l payload output two_frames_held)
    (either (HandsOut l (events.send payload output)) _ _ (sendable payload) (record { is = one_more l.entries (handed_out_now (suc l.counter) payload) }) (send_refused l payload output bad_length))))

all_handed_out : (l : Ledger) (es : List Event) → payloads (after l es).entries ≡ payloads l.entries ++ accepted es (given l es)
unfolding after given accepted
all_handed_out l [] = sym (append-nil (payloads l.entries))
all_handed_out l (e ∷ es) =
    let more = accepted_in e (leaves e (step l e).says) in
    all_handed_out (step l e).ledger es
    ∙ ap (λ (ps : List (List ℕ)). ps ++ accepted es (given (step l e).ledger es)) (step_hands_out l e).is
    ∙ append_assoc (payloads l.entries) more (accepted es (given (step l e).ledger es))

-- which frames are held, in the owner's words
pub record HeldExactly (es : List Event) (left : List Left) (end : Session) : Type 0 where
  -- the ledger's entries are the frames of the accepted sends, oldest first, each with what became of it
  pub handed_out : map payload_in (after start es).entries ≡ accepted es left
  -- and the session holds exactly those of them that are neither covered nor dropped
  pub holds : kept_in end ≡ map as_kept (held (after start es).entries)

-- THEOREM. After every list of events from a fresh session, the unacknowledged frames are exactly those handed out and not yet covered or
-- dropped, oldest first.
pub held_exactly : (s : Session) → Starts s → (es : List Event) (left : List Left) (end : Session) → Chain s es left end → HeldExactly es left end
held_exactly s begins es left end chain =
    let is = every_list s begins es left end chain in
    record { handed_out = all_handed_out start es ∙ ap (accepted es) (sym is.answers); holds = is.holds }
