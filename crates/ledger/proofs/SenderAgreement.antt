-- The sender does what the ledger's sender does: the writer refuses what the rules refuse, in their order, and what is held is the payload
-- that was sent, since it has at most the 383 bytes that there is room for.
use mathlib.Core.Path.{◌≡◌, refl, sym, ap}
use mathlib.Core.Bool.{Bool, true, false, cond}
use mathlib.Core.List.{List, []}
use mathlib.Core.Option.{Option, some, none}
use Prim.Native.Nat.{ℕ, ◌≤◌}
use native.Mathlib.Omega.{arith}
use lib.Dec.{eqb, ltb}
use lib.ListN.{length, replicate, length-replicate}
use borrow.Author.Tests.{le-ltb}
use Rattle.slices.proofs.Impossible.{impossible}
use Rattle.slices.proofs.PutLaws.{put_first}
use Rattle.slices.specs.Written as writer
use Rattle.slices.specs.Written.{fitted}
use Rattle.refusals.specs.Numbers.{short_output, long_payload}
use Rattle.frame.specs.Content.{payload_max}
use Rattle.frame.specs.Writing.{write_content, write_frame}
use Rattle.sender.specs.State as state
use Rattle.sender.specs.State.{payload_of, kept}
use Rattle.sender.specs.Events as events
use Rattle.sender.specs.Events.{send_of, timeout_of}
use Rattle.sender.specs.declared.state.Answer.TheVariants.{Sent, Repeated, Dropped}
use Rattle.ledger.specs.Ledger.{Held, Sender}
use Rattle.ledger.specs.Sending.{SenderStep, own_frame, sends, repeats_max, sends_again, drops, refusing, with_room, send_step, timeout_step, held_behind, acknowledged}
use Rattle.ledger.specs.Shown.{as_sender, as_sending}
use Rattle.ledger.proofs.SenderLaws.{by_send, by_waiting, by_timeout}

-- an acknowledgement
pub acknowledged_agrees : (s : Sender) (sequence : ℕ) → state.acknowledged (as_sender s) sequence ≡ as_sender (acknowledged s sequence)
acknowledged_agrees s sequence = by_held s.held refl
  where
    by_sequence : (frame : Held) (t : Bool)
        → cond t (state.freed (as_sender (record { next = s.next; held = some frame }))) (as_sender (record { next = s.next; held = some frame }))
        ≡ as_sender (record { next = s.next; held = cond t none (some frame) })
    by_sequence frame true = refl
    by_sequence frame false = refl

    by_held : (held : Option Held) → s.held ≡ held → state.acknowledged (as_sender s) sequence ≡ as_sender (acknowledged s sequence)
    by_held none e = rw e
    by_held (some frame) e = rw e (by_sequence frame (eqb sequence frame.sequence))

-- what the sender's definitions say of a step of the ledger's sender
abbrev pub as_given : SenderStep → events.Given
as_given step = record { outcome = record { sender = as_sender step.sender; answer = as_sending step.answer }; output = step.output }

-- a frame that waits has a payload within the limit
abbrev pub HeldFits : Sender → Type 0
HeldFits s = (frame : Held) → s.held ≡ some frame → length frame.payload ≤ payload_max

-- a send: the writer tests the payload, then the room
pub send_given : (s : Sender) (payload : List ℕ) (room : ℕ) → send_of (as_sender s) payload room ≡ as_given (send_step s payload room)
unfolding send_of send_step write_frame write_content fitted
send_given s payload room = by_held s.held
  where
    idle : Sender
    idle = record { next = s.next; held = none }

    by_tests : (t u : Bool)
        → events.goes_out (cond t (writer.refused long_payload) (cond u (writer.refused short_output) (writer.written (own_frame s.next payload)))) (as_sender idle)
        (state.holding (as_sender idle) payload) (Sent s.next)
        ≡ as_given (cond t (refusing idle long_payload) (cond u (refusing idle short_output) (sends idle payload)))
    by_tests true u = refl
    by_tests false true = refl
    by_tests false false = refl

    by_held : (held : Option Held)
        → send_of (as_sender (record { next = s.next; held = held })) payload room ≡ as_given (send_step (record { next = s.next; held = held }) payload room)
    by_held none = by_tests (ltb payload_max (length payload)) (ltb room (length (own_frame s.next payload)))
    by_held (some frame) = refl

-- what is kept of a payload within the limit is the payload
pub kept_whole : (payload : List ℕ) → length payload ≤ payload_max → kept (payload_of payload) ≡ payload
unfolding payload_of
kept_whole payload few = let room = length-replicate {A = ℕ} payload_max 0 in put_first (replicate payload_max 0) payload (omega (arith, few, room))

-- an event that sends nothing asks no room
no_room_asked : (s : Sender) (step : SenderStep) (room : ℕ) → step.output ≡ [] → with_room room s step ≡ step
no_room_asked s step room empty =
    let few : length step.output ≤ room = rw empty (omega arith) in
    rw (le-ltb room (length step.output) few)

-- a timeout: the payload is within the limit, so the writer tests the room alone
pub timeout_given : (s : Sender) (room : ℕ) → HeldFits s → timeout_of (as_sender s) room ≡ as_given (timeout_step s room)
unfolding timeout_of timeout_step write_frame write_content fitted
timeout_given s room fits = by_held s.held fits
  where
    holding : Held → Sender
    holding frame = record { next = s.next; held = some frame }

    again : (frame : Held) (t : Bool)
        → events.goes_out (cond t (writer.refused short_output) (writer.written (own_frame frame.sequence frame.payload))) (as_sender (holding frame))
        (state.repeated (as_sender (holding frame)) frame.sequence frame.repeats) (Repeated frame.sequence)
        ≡ as_given (cond t (refusing (holding frame) short_output) (sends_again (holding frame) frame))
    again frame true = refl
    again frame false = refl

    by_repeats : (frame : Held) → length frame.payload ≤ payload_max → (t : Bool)
        → cond t (events.sent_again (as_sender (holding frame)) frame.sequence frame.repeats room)
        (events.quiet (state.freed (as_sender (holding frame))) (Dropped frame.sequence))
        ≡ as_given (with_room room (holding frame) (cond t (sends_again (holding frame) frame) (drops (holding frame) frame)))
    by_repeats frame few true =
        rw (kept_whole frame.payload few, le-ltb payload_max (length frame.payload) few)
        (again frame (ltb room (length (own_frame frame.sequence frame.payload))))
    by_repeats frame few false = sym (ap as_given (no_room_asked (holding frame) (drops (holding frame) frame) room refl))

    by_held : (held : Option Held) → HeldFits (record { next = s.next; held = held })
        → timeout_of (as_sender (record { next = s.next; held = held })) room ≡ as_given (timeout_step (record { next = s.next; held = held }) room)
    by_held none fits = sym (ap as_given (no_room_asked (record { next = s.next; held = none }) _ room refl))
    by_held (some frame) fits = by_repeats frame (fits frame refl) (ltb frame.repeats repeats_max)

-- a step of the sender keeps the limit
pub send_fits : (s : Sender) (payload : List ℕ) (room : ℕ) → HeldFits s → HeldFits (send_step s payload room).sender
send_fits s payload room fits =
    by_send (λ (step : SenderStep). HeldFits step.sender) s payload room (λ n. fits)
    (λ free few enough frame e. let same : record { sequence = s.next; payload = payload; repeats = 0 } ≡ frame = cc in rw (← same) few)

pub timeout_fits : (s : Sender) (room : ℕ) → HeldFits s → HeldFits (timeout_step s room).sender
timeout_fits s room fits =
    by_timeout (λ (step : SenderStep). HeldFits step.sender) s room fits
    (λ enough.
    by_waiting (λ (step : SenderStep). HeldFits step.sender) s (λ nothing. fits)
    (λ frame e few again f. let same : frame.payload ≡ again.payload = cc in rw (← same) (fits frame e))
    (λ frame e many again f. impossible cc))

pub acknowledged_fits : (sequence : ℕ) (s : Sender) → HeldFits s → HeldFits (acknowledged s sequence)
acknowledged_fits sequence s fits = by_held s.held refl
  where
    by_sequence : (frame : Held) → length frame.payload ≤ payload_max → (t : Bool) → HeldFits (record { next = s.next; held = cond t none (some frame) })
    by_sequence frame few true again e = impossible cc
    by_sequence frame few false again e = let same : frame ≡ again = cc in rw (← same) few

    by_held : (held : Option Held) → s.held ≡ held → HeldFits (record { next = s.next; held = held_behind sequence held })
    by_held none e = λ again f. impossible cc
    by_held (some frame) e = by_sequence frame (fits frame e) (eqb sequence frame.sequence)
