-- A new packet fits the packet buffer of a call that was not refused: it is the payload of content of at most 387 bytes, and no
-- other answer brings a packet. So the part of the buffer that the board reads is the packet.
use Rattle.std.proofs.Common.{Option, None, Some, Ok, Err}
use mathlib.Core.Path.{◌≡◌, refl, sym, ap, ◌∙◌}
use mathlib.Core.Bool.{Bool, true, false, cond}
use mathlib.Core.List.{List}
use Prim.Native.Nat.{ℕ, ◌≤◌}
use native.Mathlib.Omega.{arith}
use lib.Dec.{eqb, ltb}
use lib.ListN.{length, take, length-take}
use borrow.Author.Tests.{ltb-true, ltb-false}
use Rattle.slices.proofs.Impossible.{impossible}
use Rattle.slices.specs.Put.{put_at}
use Rattle.slices.proofs.PutLaws.{put_first}
use Rattle.frame.specs.Stuffing.{content_max}
use Rattle.frame.specs.Content as content
use Rattle.frame.specs.Content.{data_type, acknowledgement_type, payload_max, no_place, judged}
use Rattle.frame.specs.Answers.{read_answer}
use Rattle.frame.proofs.ContentLaws.{answer_frame}
use Rattle.link.specs.Closing.{reply_room, repeats, Outcome, acknowledgement_frame, again_frame, new_frame, data_frame, refused_frame, read_outcome, frame_outcome, close_of}
use Rattle.link.specs.Receiving.{walk_call, receive_of}
use Rattle.link.specs.Walk.{walk_of}
use Rattle.link.specs.declared.counts.Counts.{Counts}
use Rattle.link.specs.Reader.{Ended}
use Rattle.link.specs.declared.receiver.Answer.TheVariants as says
use Rattle.link.specs.declared.receiver.Link.{Link}
use Rattle.link.proofs.ReceivingLaws.{short_reply, short_packet, room_for_both}
use Rattle.link.proofs.WalkLaws.{walk_length}
use Rattle.refusals.specs.Numbers.{unknown_type}
use Rattle.refusals.specs.declared.Refusal.{Refusal}

-- the length that is answered is that of the packet, and it is within the limit
pub record Handed (packet : List ℕ) (n limit : ℕ) : Type 0 where
  pub size : n ≡ length packet
  pub fits : length packet ≤ limit

-- an outcome whose answer is no new packet
abbrev no_packet : Outcome → Type 0
no_packet o = (r n : ℕ) → o.answer ≡ says.New r n → ⊥

refused_none : (number : Refusal) (place : ℕ) (previous : Option ℕ) (before : Counts) → no_packet (refused_frame number place previous before)
refused_none number place previous before r n e = impossible cc

heard_none : (sequence size : ℕ) (previous : Option ℕ) (before : Counts) → no_packet (acknowledgement_frame sequence size previous before)
heard_none sequence size previous before r n e = cases (eqb size 0) refl e
  where
    cases : (t : Bool) → eqb size 0 ≡ t → (acknowledgement_frame sequence size previous before).answer ≡ says.New r n → ⊥
    cases true f e = let told = rw f at e in impossible cc
    cases false f e = let told = rw f at e in impossible cc

module _ (previous : Option ℕ) (before : Counts) (r n : ℕ) where
  data_handed : (sequence : ℕ) (payload : List ℕ) → length payload ≤ payload_max → (data_frame sequence payload previous before).answer ≡ says.New r n
      → Handed (data_frame sequence payload previous before).packet n payload_max
  unfolding data_frame
  data_handed sequence payload short e = cases (repeats previous sequence) e
    where
      cases : (t : Bool) → (cond t (again_frame sequence previous before) (new_frame sequence payload before)).answer ≡ says.New r n
          → Handed (cond t (again_frame sequence previous before) (new_frame sequence payload before)).packet n payload_max
      cases true e = impossible cc
      cases false e = record { size = let same : n ≡ length payload = cc in same; fits = short }

  frame_handed : (c : List ℕ) → length c ≤ content_max → (frame_outcome c previous before).answer ≡ says.New r n
      → Handed (frame_outcome c previous before).packet n payload_max
  unfolding frame_outcome
  frame_handed c limit e = by_content (judged c) refl e
    where
      by_type_law : (kind sequence : ℕ) (payload : List ℕ) → length payload ≤ payload_max → (t u : Bool)
          → (cond t (data_frame sequence payload previous before)
          (cond u (acknowledgement_frame sequence (length payload) previous before) (refused_frame unknown_type no_place previous before))).answer ≡ says.New r n
          → Handed
          (cond t (data_frame sequence payload previous before)
          (cond u (acknowledgement_frame sequence (length payload) previous before) (refused_frame unknown_type no_place previous before))).packet n payload_max
      by_type_law kind sequence payload short true u e = data_handed sequence payload short e
      by_type_law kind sequence payload short false true e = absurd (heard_none sequence (length payload) previous before r n e)
      by_type_law kind sequence payload short false false e = absurd (refused_none unknown_type no_place previous before r n e)

      by_content : (found : content.Read) → judged c ≡ found → (read_outcome found previous before).answer ≡ says.New r n
          → Handed (read_outcome found previous before).packet n payload_max
      by_content (content.refused number place) f e = absurd (refused_none number place previous before r n e)
      by_content (content.frame kind sequence payload) f e =
          let whole = answer_frame c kind sequence (length payload) (sym (ap read_answer f)) in
          by_type_law kind sequence payload (omega (arith, whole.size)) (eqb kind data_type) (eqb kind acknowledgement_type) e

  close_handed : (end : Ended) (array : List ℕ) → length array ≡ content_max → (close_of end array previous before).answer ≡ says.New r n
      → Handed (close_of end array previous before).packet n payload_max
  close_handed (Ok None) array full e = impossible cc
  close_handed (Err fault) array full e = absurd (refused_none fault.refusal fault.place previous before r n e)
  close_handed (Ok (Some k)) array full e =
      frame_handed (take k array) (simp length-take (omega arith)) e

-- a call that answers a new packet hands it out whole
pub receive_handed : (state : Link) (piece : List ℕ) (reply_size packet_size : ℕ) → length state.content ≡ content_max → (r n : ℕ)
    → (receive_of state piece reply_size packet_size).answer ≡ says.New r n → Handed (receive_of state piece reply_size packet_size).packet n packet_size
unfolding walk_call
receive_handed state piece reply_size packet_size full r n e = by_reply (ltb reply_size reply_room) refl
  where
    by_packet : reply_room ≤ reply_size → (t : Bool) → ltb packet_size payload_max ≡ t → Handed (receive_of state piece reply_size packet_size).packet n packet_size
    by_packet h true f =
        let told = rw (short_packet state piece reply_size packet_size h (ltb-true packet_size payload_max f)) at e in
        impossible cc
    by_packet h false f =
        let room : payload_max ≤ packet_size = ltb-false packet_size payload_max f in
        let is = room_for_both state piece reply_size packet_size h room in
        let whole = walk_length piece state.content state.reader 0 ∙ full in
        let w = walk_of piece state.content state.reader 0 in
        let handed = close_handed state.last state.counts r n w.ended w.content whole (rw is at e) in
        rw is (record { size = handed.size; fits = omega (arith, handed.fits) })

    by_reply : (t : Bool) → ltb reply_size reply_room ≡ t → Handed (receive_of state piece reply_size packet_size).packet n packet_size
    by_reply true f =
        let told = rw (short_reply state piece reply_size packet_size (ltb-true reply_size reply_room f)) at e in
        impossible cc
    by_reply false f = by_packet (ltb-false reply_size reply_room f) (ltb packet_size payload_max) refl

-- the part of the packet buffer that the board reads
pub packet_part : (packet₀ packet₁ packet : List ℕ) (n : ℕ) → Handed packet n (length packet₀) → packet₁ ≡ put_at packet₀ 0 packet → take n packet₁ ≡ packet
packet_part packet₀ packet₁ packet n handed is = rw (is, handed.size) (put_first packet₀ packet handed.fits)
