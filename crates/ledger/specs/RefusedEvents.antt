-- 02, C-13: the rules alone say which event is refused, by what the sender holds and the event with its buffers.
use Rattle.std.specs.Prelude.{Bool, false, ◌||◌, ltb, length}
use Rattle.frame.specs.Content.{payload_max}
use Rattle.ledger.specs.Ledger.{Sender}
use Rattle.ledger.specs.Answers.{Call, piece, tick, send, timeout}
use Rattle.ledger.specs.Sending.{own_frame, times_out, waiting}
use Rattle.ledger.specs.Calls.{reply_room, packet_room}

-- a piece by a short buffer; a send by a frame that waits, a long payload, or too little room for the frame; a timeout by too little room for the
-- frame that goes out, if one does; a tick never
abbrev pub is_refused : Sender → Call → Bool
is_refused s (piece bytes reply packet) = ltb (length reply) reply_room || ltb (length packet) packet_room
is_refused s tick = false
is_refused s (send payload output) =
    waiting s.held || (ltb payload_max (length payload) || ltb (length output) (length (own_frame s.next payload)))
is_refused s (timeout output) = ltb (length output) (length (times_out s).output)
