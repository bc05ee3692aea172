-- 02, C-21: a frame of the peer's.
use Rattle.std.specs.Prelude.{ℕ, zero, suc, Bool, true, false, cond, ◌&&◌, ◌||◌, List, [], ◌∷◌, ◌++◌, eqb, ltb, length}
use Rattle.refusals.specs.Numbers.{short_output}
use Rattle.ash.specs.Stuffing.{payload_max}
use Rattle.ash.specs.Reading as reading
use Rattle.ash.specs.Reading.{read_frame}
use Rattle.session.specs.Counters.{of_peers}
use Rattle.session.specs.Control.{control_of}
use Rattle.session.specs.State.{output_room, covered, restarted, recorded, recorded_data, in_order}
use Rattle.session.specs.Frames.{Sent, empty_frame, repeats_if}
use Rattle.session.specs.Results.{Given, Result, refused, given}
use Rattle.session.specs.declared.control.Kind.{Kind}
use Rattle.session.specs.declared.control.Kind.TheVariants.{Reset, ResetAck, Ack, Nack}
use Rattle.session.specs.declared.control.Control.{Control}
use Rattle.session.specs.declared.state.Held.TheVariants.{Nothing}
use Rattle.session.specs.declared.state.Session.{Session}

-- nothing goes out, nothing is handed up
abbrev pub ignored : Session → Given
ignored s = record { session = s; frames = []; handed = []; dropped = Nothing }

-- a frame at fault only gets an empty NACK with the last good OFC
abbrev pub nacked : Session → Given
nacked s = record { session = s; frames = empty_frame Nack s ∷ []; handed = []; dropped = Nothing }

-- good data gets an empty ACK
abbrev pub ack_for : Session → List ℕ → List Sent
ack_for s [] = []
ack_for s (b ∷ bs) = empty_frame Ack s ∷ []

-- it is handed up, and its ACK stands behind what is sent before it
abbrev pub answered : Session → List Sent → List ℕ → Given
answered s before payload = record { session = s; frames = before ++ ack_for s payload; handed = payload; dropped = Nothing }

-- a RESET is 1/0 without payload; it gets RESET ACK 1/1, and does not end a wait
abbrev pub good_reset : Control → ℕ → Bool
good_reset c size = eqb size 0 && (eqb c.number.0 1 && eqb c.acknowledged.0 0)

abbrev pub reset_heard : Session → Given
reset_heard s =
    let next = restarted s (of_peers 1) s.awaiting in
    record { session = next; frames = empty_frame ResetAck next ∷ []; handed = []; dropped = s.held }

unfoldable pub reset_taken : Session → Control → ℕ → Given
reset_taken s c size = cond (good_reset c size) (reset_heard s) (nacked s)

-- an awaited RESET ACK is good only as 1/1 empty or 2/1 with data
abbrev pub reset_ack_number : ℕ → ℕ
reset_ack_number zero = 1
reset_ack_number (suc more) = 2

abbrev pub good_reset_ack : Control → ℕ → Bool
good_reset_ack c size = eqb c.acknowledged.0 1 && eqb c.number.0 (reset_ack_number size)

-- one that is not awaited is ignored
unfoldable pub reset_ack_taken : Session → Control → List ℕ → Given
reset_ack_taken s c payload =
    cond s.awaiting (cond (good_reset_ack c (length payload)) (answered (recorded s c.number) [] payload) (nacked s)) (ignored s)

-- an ACK or a NACK covers held frames; a NACK then has those still held sent again, before any ACK
abbrev pub reply_heard : Session → Control → Bool → List ℕ → Given
reply_heard s c again payload =
    let next = recorded_data (covered s c.acknowledged) c.number (length payload) in
    answered next (repeats_if again next) payload

-- they are ignored until RESET ACK; data whose OFC is not next only gets a NACK
unfoldable pub reply_taken : Session → Control → Bool → List ℕ → Given
reply_taken s c again payload =
    cond s.awaiting (ignored s) (cond (in_order s.good c.number (length payload)) (reply_heard s c again payload) (nacked s))

abbrev pub by_kind : Kind → Session → Control → List ℕ → Given
by_kind Reset s c payload = reset_taken s c (length payload)
by_kind ResetAck s c payload = reset_ack_taken s c payload
by_kind Ack s c payload = reply_taken s c false payload
by_kind Nack s c payload = reply_taken s c true payload

abbrev pub frame_taken : Session → Control → List ℕ → Given
frame_taken s c payload = by_kind c.kind s c payload

-- a frame that C-11 refuses is at fault too
abbrev pub heard : Session → reading.Read → Given
heard s (reading.frame control payload) = frame_taken s (control_of control) payload
heard s (reading.refused n) = nacked s

-- refusal 7 first: under 135 bytes for output or 57 for payload
unfoldable pub receive_of : Session → List ℕ → ℕ → ℕ → Result
receive_of s bytes room payload_room =
    cond (ltb room output_room || ltb payload_room payload_max) (refused short_output) (given (heard s (read_frame payload_max bytes)))
