-- What a call handed out stands at the start of the buffers, as long as the answer says: an acknowledgement has at most the nine bytes
-- that a reply buffer has, a payload at most the 383 of a packet buffer, and a frame of our own goes out only where there is room for it.
use mathlib.Core.Path.{◌≡◌, refl, ap, ap₂}
use mathlib.Core.Bool.{Bool, true, false, cond}
use mathlib.Core.List.{List, [], ◌∷◌, map}
use mathlib.Core.Option.{Option, some, none}
use Prim.Native.Nat.{ℕ, ◌≤◌}
use native.Mathlib.Omega.{arith}
use lib.ListN.{length, take}
use Rattle.slices.specs.Put.{put_at}
use Rattle.slices.proofs.PutLaws.{put_first}
use Rattle.link.specs.Closing.{acknowledgement}
use Rattle.link.proofs.ClosingLaws.{acknowledgement_fits}
use Rattle.ledger.specs.Ledger.{Ledger}
use Rattle.ledger.specs.Frames as frames
use Rattle.ledger.specs.Frames.{Frame, taken, frame_of}
use Rattle.ledger.specs.Answers as answers
use Rattle.ledger.specs.Answers.{Call, Given, Answer, Sending}
use Rattle.ledger.specs.Sending.{SenderStep, own_frame}
use Rattle.ledger.specs.Calls as calls
use Rattle.ledger.specs.Calls.{Effect, answer_to, repeated, closed, effect_of, with_run, step, reply_room, packet_room}
use Rattle.ledger.specs.Shown.{as_answer, as_sending, as_left}
use Rattle.ledger.specs.History.{Handed, as_reply, as_sent, as_packet, handed_as, sent_as, handed_left}
use Rattle.ledger.proofs.FrameLaws.{payload_bounded}
use Rattle.ledger.specs.OwnFrames.{frames_with}
use Rattle.ledger.proofs.RoomLaws.{by_room}
use Rattle.ledger.proofs.SenderLaws.{by_send, by_waiting, by_timeout}

-- what the ledger hands out with an answer
abbrev pub handed_by : Answer → List Handed
handed_by answers.nothing = []
handed_by (answers.refused n place) = []
handed_by (answers.heard sequence) = []
handed_by (answers.again sequence) = as_reply (answer_to sequence) ∷ []
handed_by (answers.new sequence payload verdict) = as_reply (answer_to sequence) ∷ as_packet payload ∷ []

abbrev pub handed_out_now : Sending → List Handed
handed_out_now answer = map as_sent (frames_with answer)

abbrev pub handed_in : Given → List Handed
handed_in (answers.took n answer reply packet) = handed_by answer
handed_in answers.ticked = []
handed_in (answers.outgoing answer output) = handed_out_now answer

-- a frame that was closed, with buffers that have room
module _ (names : List (List ℕ)) (l : Ledger) (reply packet : List ℕ) (room_for_reply : reply_room ≤ length reply) (room_for_packet : packet_room ≤ length packet) where
  abbrev Handed-out : Effect → Type 0
  Handed-out e = handed_as (as_answer names e.answer) (put_at reply 0 e.reply) (put_at packet 0 e.packet) ≡ handed_by e.answer

  reply_stands : (sequence : ℕ) → take (length (answer_to sequence)) (put_at reply 0 (answer_to sequence)) ≡ answer_to sequence
  unfolding acknowledgement
  reply_stands sequence = let fits = acknowledgement_fits sequence in put_first reply (answer_to sequence) (omega (arith, fits))

  good_handed : (sequence : ℕ) (payload : List ℕ) → length payload ≤ packet_room → Handed-out (closed l (frames.good sequence payload))
  good_handed sequence payload few = by_last (repeated l.line.sequence sequence)
    where
      by_last : (t : Bool) → Handed-out (cond t (calls.repeated_frame l sequence) (calls.new_frame l sequence payload))
      by_last true = ap (λ (r : List ℕ). as_reply r ∷ []) (reply_stands sequence)
      by_last false =
          ap₂ (λ (r p : List ℕ). as_reply r ∷ as_packet p ∷ []) (reply_stands sequence)
          (put_first packet payload (omega arith))

  frame_handed : (f : Frame) → ((sequence : ℕ) (payload : List ℕ) → f ≡ frames.good sequence payload → length payload ≤ packet_room) → Handed-out (closed l f)
  frame_handed (frames.refused n place) few = refl
  frame_handed (frames.acknowledgement sequence) few = refl
  frame_handed (frames.good sequence payload) few = good_handed sequence payload (few sequence payload refl)

  effect_handed : (frame : Option (List ℕ)) → Handed-out (effect_of l frame)
  effect_handed none = refl
  effect_handed (some run) = frame_handed (frame_of run) (payload_bounded run)

-- a frame of our own, with room for it
abbrev SentOut : List ℕ → SenderStep → Type 0
SentOut output s = sent_as (as_sending s.answer) (put_at output 0 s.output) ≡ handed_out_now s.answer

pub step_handed : (names : List (List ℕ)) (l : Ledger) (c : Call) → handed_left (as_left names (step l c).given) ≡ handed_in (step l c).given
unfolding step
step_handed names l (answers.piece bytes reply packet) =
    let t = taken l.line.run bytes 0 in
    by_room (λ (s : calls.Step). handed_left (as_left names s.given) ≡ handed_in s.given) l bytes reply packet
    (λ short. refl)
    (λ room_for_reply room_for_packet. effect_handed names (with_run l t.run) reply packet room_for_reply room_for_packet t.frame)
step_handed names l answers.tick = refl
step_handed names l (answers.send payload output) =
    by_send (SentOut output) l.sender payload (length output) (λ n. refl)
    (λ free few fits. ap (λ (bytes : List ℕ). as_sent bytes ∷ []) (put_first output (own_frame l.sender.next payload) fits))
step_handed names l (answers.timeout output) =
    by_timeout (SentOut output) l.sender (length output) refl
    (λ fits.
    by_waiting (λ (s : SenderStep). length s.output ≤ length output → SentOut output s) l.sender (λ nothing few. refl)
    (λ frame e few room. ap (λ (bytes : List ℕ). as_sent bytes ∷ []) (put_first output (own_frame frame.sequence frame.payload) room))
    (λ frame e many few. refl) fits)
