-- DEMAND 1 of the display, a short buffer: the call does not look at the piece, and leaves all as it was.
use mathlib.Core.Path.{◌≡◌, refl}
use mathlib.Core.List.{List, [], ◌∷◌}
use mathlib.Core.Logic.{◌⊎◌}
use Prim.Native.Nat.{ℕ, ◌<◌}
use lib.ListN.{length}
use Rattle.refusals.specs.Numbers.{short_output}
use Rattle.frame.specs.Content.{no_place}
use Rattle.link.specs.Receiving.{short_call}
use Rattle.display.specs.Display.{outcome_of, receive_piece, DisplaysAs}
use Rattle.frame.specs.Answers.{fault_at}
use Rattle.display.specs.declared.Answer.TheVariants.{Refused}
use Rattle.display.specs.declared.Display.{Display}
use Rattle.display.specs.declared.Received.{Received}
use Rattle.ledger.specs.Answers.{piece}
use Rattle.ledger.specs.Shown.{Left, took}
use Rattle.ledger.specs.Calls.{reply_room, packet_room}
use Rattle.ledger.proofs.Chain.{Chain, done, receives, received}
use Rattle.ledger.proofs.RoomLaws.{call_short}

short_done : (d : Display) (reply packet : List ℕ) (result : Received) (reply₁ packet₁ : List ℕ)
    → DisplaysAs (outcome_of d.sender d.board (short_call d.link)) reply packet result reply₁ packet₁
    → (took result.taken result.answer reply₁ packet₁ ≡ took 0 (Refused (fault_at short_output no_place)) reply packet) × (result.display ≡ d)
short_done d reply packet result reply₁ packet₁ does = rw (does.answers, does.replied, does.handed_out) (refl, refl)

-- THEOREM. Whatever the display, a call that is lent a reply buffer of under 9 bytes or a packet buffer of under 383 is refused with 7, takes
-- nothing, and leaves the display and both buffers as they were.
pub short_buffer : (d d₁ : Display) (bytes reply packet : List ℕ) (left : Left) → Chain d (piece bytes reply packet ∷ []) (left ∷ []) d₁
    → (length reply < reply_room) ⊎ (length packet < packet_room) → (left ≡ took 0 (Refused (fault_at short_output no_place)) reply packet) × (d₁ ≡ d)
unfolding receive_piece
short_buffer d d₁ bytes reply packet left (receives {reply₁ = reply₁} {packet₁ = packet₁} {result = result} r done) short =
    short_done d reply packet result reply₁ packet₁ (rw (call_short d bytes reply packet short) at (received r))
