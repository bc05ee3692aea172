-- What an event sends fits the output that was asked for, and what it hands up the payload buffer: at most two frames of 64 bytes are sent again,
-- and an empty one has 7.
use mathlib.Core.Path.{◌≡◌, refl, ap, ◌∙◌}
use mathlib.Core.Bool.{Bool, true, false, cond, ◌||◌}
use mathlib.Core.List.{List, [], ◌∷◌, ◌++◌, map, append-nil}
use Prim.Native.Nat.{ℕ, ◌+◌, ◌≤◌}
use native.Mathlib.Omega.{arith}
use lib.Dec.{ltb}
use lib.ListN.{length, length-append}
use borrow.Author.Tests.{ltb-false}
use Rattle.slices.specs.Each.{each}
use Rattle.slices.proofs.TestLaws.{neither}
use Rattle.ash.specs.Stuffing.{payload_max, stuff}
use Rattle.ash.specs.Reading.{read_frame}
use Rattle.ash.specs.Size.{frame_max}
use Rattle.ash.proofs.WriteLaws.{frame_length}
use Rattle.session.specs.State.{output_room}
use Rattle.session.specs.declared.control.Kind.TheVariants.{Ack}
use Rattle.session.specs.declared.state.Session.{Session}
use Rattle.refusals.specs.Numbers.{short_output}
use Rattle.conversation.specs.Ledger.{Entry, Ledger, held}
use Rattle.conversation.specs.Events as events
use Rattle.conversation.specs.Events.{Event, Sent, Effect, frames_in, handed_in, control_on, frame_on, line_of}
use Rattle.conversation.specs.OurEvents.{refusing, empty, again, repeats}
use Rattle.conversation.specs.PeerFrames.{hearing}
use Rattle.conversation.specs.Steps.{step}
use Rattle.conversation.specs.Shown.{output_lent}
use Rattle.conversation.proofs.Agreement.{Holds, none_held_law, one_held, two_held, Agrees}
use Rattle.conversation.proofs.StepCases.{Cases, step_case}
use Rattle.conversation.proofs.RightFrames.{Among, first, further, Right, reset_right, reset_ack_right, ack_right, nack_right, held_right, Sends, nothing, one, all_again, all_again_and_ack, step_sends}

-- a held frame is within C-11's limit, and so is an empty one
held_short : {s : Session} {counter : ℕ} {es : List Entry} {e : Entry} → Holds s counter es → Among e es → length (stuff e.payload) ≤ payload_max
held_short (none_held_law is) there = elim there [ ]
held_short (one_held is k last) first = k.short
held_short (one_held is k last) (further there) = elim there [ ]
held_short (two_held is j k older newer) first = j.short
held_short (two_held is j k older newer) (further first) = k.short
held_short (two_held is j k older newer) (further (further there)) = elim there [ ]

pub right_short : (l : Ledger) (s : Session) (f : Sent) → Agrees l s → Right l f → length (stuff f.payload) ≤ payload_max
unfolding each
right_short l s f a (reset_right counter good) = omega arith
right_short l s f a (reset_ack_right counter good) = omega arith
right_short l s f a ack_right = omega arith
right_short l s f a nack_right = omega arith
right_short l s f a (held_right e is) = held_short a.holds is

frame_size : (f : Sent) → length (stuff f.payload) ≤ payload_max → length (frame_on f) ≤ frame_max
frame_size f short = omega (arith, frame_length (control_on f) f.payload, short)

one_size : (f : Sent) → length (line_of (f ∷ [])) ≡ length (frame_on f)
unfolding line_of
one_size f = ap length (append-nil (frame_on f))

line_append : (fs gs : List Sent) → length (line_of (fs ++ gs)) ≡ length (line_of fs) + length (line_of gs)
unfolding line_of
line_append [] gs = omega arith
line_append (f ∷ fs) gs =
    length-append (frame_on f) (line_of (fs ++ gs)) ∙ omega (arith, line_append fs gs, length-append (frame_on f) (line_of fs))

repeats_size : (s : Session) (counter good : ℕ) (es : List Entry) → Holds s counter es → length (line_of (map (again good) es)) ≤ frame_max + frame_max
unfolding line_of
repeats_size s counter good [] (none_held_law is) = omega arith
repeats_size s counter good (e ∷ []) (one_held is k last) = omega (arith, one_size (again good e), frame_size (again good e) k.short)
repeats_size s counter good (e ∷ f ∷ []) (two_held is j k older newer) =
    omega (
      arith,
      line_append (again good e ∷ []) (again good f ∷ []),
      one_size (again good e),
      one_size (again good f),
      frame_size (again good e) j.short,
      frame_size (again good f) k.short,
    )
repeats_size s counter good (e ∷ f ∷ _ ∷ _) h = elim h [ ]

ack_size : (l : Ledger) → length (line_of (empty Ack l ∷ [])) ≡ 7
unfolding each
ack_size l = one_size (empty Ack l) ∙ frame_length (control_on (empty Ack l)) []

-- with the ledger and a session as the event leaves them
sends_size : (l : Ledger) (s : Session) (fs : List Sent) → Agrees l s → Sends l fs → length (line_of fs) ≤ output_room
unfolding line_of
sends_size l s [] a nothing = omega arith
sends_size l s (f ∷ []) a (one right) = omega (arith, one_size f, frame_size f (right_short l s f a right))
sends_size l s fs a all_again = omega (arith, repeats_size s l.counter l.good (held l.entries) a.holds)
sends_size l s fs a all_again_and_ack =
    omega (
      arith,
      line_append (repeats l) (empty Ack l ∷ []),
      repeats_size s l.counter l.good (held l.entries) a.holds,
      ack_size l,
    )

-- a payload that is handed up has at most 57 bytes
record HandsUp (e : Effect) : Type 0 where
  little : length (handed_in e.says) ≤ payload_max

hands_cases : (l : Ledger) → Cases l HandsUp
hands_cases l =
    record {
      refuses = λ n. record { little = omega arith };
      resets = record { little = omega arith };
      accepts = λ payload idle few good. record { little = omega arith };
      times_out = record { little = omega arith };
      ignores = record { little = omega arith };
      nacks = record { little = omega arith };
      hears_reset = record { little = omega arith };
      hears_reset_ack = λ payload short. record { little = short };
      hears_reply = λ c nack payload short. record { little = short };
    }

-- a refused event sends nothing and hands up nothing, and the others have asked for room
record Small (e : Effect) : Type 0 where
  sent : length (line_of (frames_in e.says)) ≤ output_room

by_room : (l : Ledger) (f : Effect) (room : ℕ) (t : Bool) → (t ≡ false → output_room ≤ room) → Small (cond t (refusing l short_output) f)
    → length (line_of (frames_in (cond t (refusing l short_output) f).says)) ≤ room
unfolding line_of
by_room l f room true enough small = omega arith
by_room l f room false enough small = let asked = enough refl in omega (arith, small.sent, asked)

-- what an event sends fits its output
pub line_fits : (l : Ledger) (e : Event) (s : Session) → Agrees (step l e).ledger s → length (line_of (frames_in (step l e).says)) ≤ length (output_lent e)
unfolding step
line_fits l e s a = by_event e (record { sent = sends_size (step l e).ledger s _ a (step_sends l e) })
  where
    by_event : (e : Event) → Small (step l e) → length (line_of (frames_in (step l e).says)) ≤ length (output_lent e)
    by_event (events.reset output) small = by_room l _ (length output) (ltb (length output) output_room) (ltb-false (length output) output_room) small
    by_event (events.send payload output) small = by_room l _ (length output) (ltb (length output) output_room) (ltb-false (length output) output_room) small
    by_event (events.timeout output) small = by_room l _ (length output) (ltb (length output) output_room) (ltb-false (length output) output_room) small
    by_event (events.receive frame output buffer) small =
        by_room l _ (length output) (ltb (length output) output_room || ltb (length buffer) payload_max)
        (λ is. ltb-false (length output) output_room (neither (ltb (length output) output_room) (ltb (length buffer) payload_max) is).first)
        small

-- what it hands up fits its buffer
pub payload_fits : (l : Ledger) (frame output buffer : List ℕ)
    → length (handed_in (step l (events.receive frame output buffer)).says) ≤ length buffer
unfolding step
payload_fits l frame output buffer =
    by_test (ltb (length output) output_room || ltb (length buffer) payload_max)
    (λ is. ltb-false (length buffer) payload_max (neither (ltb (length output) output_room) (ltb (length buffer) payload_max) is).second)
    (step_case l HandsUp (hands_cases l) (events.receive frame output buffer))
  where
    by_test : (t : Bool) → (t ≡ false → payload_max ≤ length buffer) → HandsUp (cond t (refusing l short_output) (hearing l (read_frame payload_max frame)))
        → length (handed_in (cond t (refusing l short_output) (hearing l (read_frame payload_max frame))).says) ≤ length buffer
    by_test true enough up = omega arith
    by_test false enough up = let asked = enough refl in omega (arith, up.little, asked)
