-- 02, C-21: the events of our side, and their refusals in their order.
use Rattle.std.specs.Prelude.{ℕ, true, cond, List, [], ◌∷◌, ltb, length}
use Rattle.refusals.specs.Numbers.{short_output, bad_length, reset_ack_awaited, two_frames_held}
use Rattle.ash.specs.Stuffing.{payload_max, stuff}
use Rattle.session.specs.Counters.{next_of_ours, of_peers}
use Rattle.session.specs.State.{output_room, holds_two, holding, restarted}
use Rattle.session.specs.Frames.{empty_frame, data_frame, repeats_of}
use Rattle.session.specs.Results.{Given, Result, refused, given}
use Rattle.session.specs.declared.control.Kind.TheVariants.{Reset}
use Rattle.session.specs.declared.state.Held.TheVariants.{Nothing}
use Rattle.session.specs.declared.state.Session.{Session}

-- the last good OFC is 0 after our RESET, and RESET ACK is awaited
abbrev pub reset_given : Session → Given
reset_given s =
    let next = restarted s (of_peers 0) true in
    record { session = next; frames = empty_frame Reset next ∷ []; handed = []; dropped = s.held }

unfoldable pub reset_of : Session → ℕ → Result
reset_of s room = cond (ltb room output_room) (refused short_output) (given (reset_given s))

-- our data advances our counter first and goes out in an ACK; it is held
abbrev pub send_given : Session → List ℕ → Given
send_given s payload =
    let number = next_of_ours s.counter in
    record { session = holding s number payload; frames = data_frame number s.good payload ∷ []; handed = []; dropped = Nothing }

-- refusal 22: over 57 bytes as sent
unfoldable pub send_data : Session → List ℕ → Result
send_data s payload = cond (ltb payload_max (length (stuff payload))) (refused bad_length) (given (send_given s payload))

-- refusal 22 also for empty data
abbrev pub send_filled : Session → List ℕ → Result
send_filled s [] = refused bad_length
send_filled s (b ∷ bs) = send_data s (b ∷ bs)

-- 7 first, then 28, 29, 22
unfoldable pub send_of : Session → List ℕ → ℕ → Result
send_of s payload room =
    cond (ltb room output_room) (refused short_output)
    (cond s.awaiting (refused reset_ack_awaited) (cond (holds_two s.held) (refused two_frames_held) (send_filled s payload)))

-- a 500 ms timeout sends those still held again in order
unfoldable pub timeout_of : Session → ℕ → Result
timeout_of s room =
    cond (ltb room output_room) (refused short_output) (given (record { session = s; frames = repeats_of s; handed = []; dropped = Nothing }))
