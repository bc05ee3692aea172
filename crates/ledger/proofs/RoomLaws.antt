-- A call by the room in its two buffers: with a short one it is refused, else its piece is taken. The link tests the same.
use mathlib.Core.Path.{◌≡◌, refl}
use mathlib.Core.Bool.{Bool, true, false, cond, ◌||◌}
use mathlib.Core.List.{List}
use mathlib.Core.Logic.{◌⊎◌, inl, inr}
use Prim.Native.Nat.{ℕ, ◌≤◌, ◌<◌}
use lib.Dec.{ltb}
use lib.ListN.{length}
use borrow.Author.Tests.{ltb-true, ltb-false, le-ltb}
use Rattle.link.specs.Receiving.{receive_of, short_call}
use Rattle.link.proofs.ReceivingLaws.{short_reply, short_packet}
use Rattle.display.specs.declared.Display.{Display}
use Rattle.ledger.specs.Ledger.{Ledger}
use Rattle.ledger.specs.Frames.{taken}
use Rattle.ledger.specs.Answers.{piece}
use Rattle.ledger.specs.Calls.{Step, piece_step, short_step, step, reply_room, packet_room}

-- what holds of a call with a short buffer, and of one with room, holds of every call
pub by_room : (P : Step → Type 0) (l : Ledger) (bytes reply packet : List ℕ)
    → ((length reply < reply_room) ⊎ (length packet < packet_room) → P (short_step l reply packet))
    → (reply_room ≤ length reply → packet_room ≤ length packet → P (piece_step l (taken l.line.run bytes 0) reply packet))
    → P (step l (piece bytes reply packet))
unfolding step
by_room P l bytes reply packet short room = by_tests (ltb (length reply) reply_room) (ltb (length packet) packet_room) refl refl
  where
    by_tests : (t u : Bool) → ltb (length reply) reply_room ≡ t → ltb (length packet) packet_room ≡ u
        → P (cond (t || u) (short_step l reply packet) (piece_step l (taken l.line.run bytes 0) reply packet))
    by_tests true u e f = short (inl (ltb-true (length reply) reply_room e))
    by_tests false true e f = short (inr (ltb-true (length packet) packet_room f))
    by_tests false false e f = room (ltb-false (length reply) reply_room e) (ltb-false (length packet) packet_room f)

pub with_room : (l : Ledger) (bytes reply packet : List ℕ) → reply_room ≤ length reply → packet_room ≤ length packet
    → step l (piece bytes reply packet) ≡ piece_step l (taken l.line.run bytes 0) reply packet
unfolding step
with_room l bytes reply packet r p = rw (le-ltb (length reply) reply_room r, le-ltb (length packet) packet_room p)

-- the link refuses the same calls
pub call_short : (d : Display) (bytes reply packet : List ℕ) → (length reply < reply_room) ⊎ (length packet < packet_room)
    → receive_of d.link bytes (length reply) (length packet) ≡ short_call d.link
call_short d bytes reply packet (inl few) = short_reply d.link bytes (length reply) (length packet) few
call_short d bytes reply packet (inr few) = by_reply (ltb (length reply) reply_room) refl
  where
    by_reply : (t : Bool) → ltb (length reply) reply_room ≡ t → receive_of d.link bytes (length reply) (length packet) ≡ short_call d.link
    by_reply true e = short_reply d.link bytes (length reply) (length packet) (ltb-true (length reply) reply_room e)
    by_reply false e = short_packet d.link bytes (length reply) (length packet) (ltb-false (length reply) reply_room e) few
