-- 02, C-21: what each event does to the ledger, and what a list of events does.
use Rattle.std.specs.Prelude.{true, cond, ◌||◌, List, [], ◌∷◌, ltb, length}
use Rattle.refusals.specs.Numbers.{short_output}
use Rattle.ash.specs.Stuffing.{payload_max}
use Rattle.ash.specs.Reading.{read_frame}
use Rattle.session.specs.State.{output_room}
use Rattle.session.specs.declared.control.Kind.TheVariants.{Reset}
use Rattle.conversation.specs.Ledger.{Ledger}
use Rattle.conversation.specs.Events.{Event, reset, send, receive, timeout, Effect, Told}
use Rattle.conversation.specs.OurEvents.{refusing, saying, repeats, restarting, sending}
use Rattle.conversation.specs.PeerFrames.{hearing}

-- The four events. 7 first: under 135 bytes for output or 57 for payload.
unfoldable pub step : Ledger → Event → Effect
step l (reset output) = cond (ltb (length output) output_room) (refusing l short_output) (restarting Reset l 0 true)
step l (send payload output) = cond (ltb (length output) output_room) (refusing l short_output) (sending l payload)
step l (receive frame output buffer) =
    cond (ltb (length output) output_room || ltb (length buffer) payload_max) (refusing l short_output) (hearing l (read_frame payload_max frame))
step l (timeout output) = cond (ltb (length output) output_room) (refusing l short_output) (saying l (repeats l) [] [])

-- the ledger after a list of events, and what it says of each
unfoldable pub after : Ledger → List Event → Ledger
after l [] = l
after l (e ∷ es) = after (step l e).ledger es

unfoldable pub says : Ledger → List Event → List Told
says l [] = []
says l (e ∷ es) = (step l e).says ∷ says (step l e).ledger es
