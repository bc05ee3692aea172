-- A call takes at most the bytes of its piece, and at least one where there is any and both buffers have room: the walk counts
-- the bytes that it passes.
use Rattle.std.proofs.Common.{◌≡◌, ℕ, suc, ◌+◌, ◌<◌, ◌≤◌, Bool, true, false, ltb, List, [], ◌∷◌, length, refl, arith, ltb-false, ltb-true}
use Rattle.frame.specs.Content.{payload_max}
use Rattle.link.specs.declared.reader.Reader.{Reader}
use Rattle.link.specs.declared.receiver.Link.{Link}
use Rattle.link.specs.Walk.{Turn, goes_on, stops, turn_of, go_on, walk_of}
use Rattle.link.specs.Closing.{reply_room}
use Rattle.link.specs.Receiving.{walk_call, receive_of}
use Rattle.link.proofs.ReceivingLaws.{short_reply, short_packet, room_for_both}

pub walk_taken : (piece content : List ℕ) (reader : Reader) (n : ℕ)
    → (n ≤ (walk_of piece content reader n).taken) × ((walk_of piece content reader n).taken ≤ n + length piece)
unfolding walk_of
walk_taken [] content reader n = (omega arith, omega arith)
walk_taken (b ∷ bs) content reader n = by_turn (λ content₁ reader₁. walk_taken bs content₁ reader₁ (suc n)) (turn_of content reader b)
  where
    by_turn : ((content₁ : List ℕ) (reader₁ : Reader)
        → (suc n ≤ (walk_of bs content₁ reader₁ (suc n)).taken) × ((walk_of bs content₁ reader₁ (suc n)).taken ≤ suc n + length bs))
        → (turn : Turn)
        → (n ≤ (go_on turn content (suc n) (λ content₁ reader₁ n₁. walk_of bs content₁ reader₁ n₁)).taken)
        × ((go_on turn content (suc n) (λ content₁ reader₁ n₁. walk_of bs content₁ reader₁ n₁)).taken ≤ n + suc (length bs))
    by_turn rest (goes_on content₁ reader₁) = let r = rest content₁ reader₁ in (omega (arith, r.0), omega (arith, r.1))
    by_turn rest (stops end) = (omega arith, omega arith)

pub walk_progress : (piece content : List ℕ) (reader : Reader) (n : ℕ) → 0 < length piece → n < (walk_of piece content reader n).taken
unfolding walk_of
walk_progress [] content reader n h = absurd (omega arith)
walk_progress (b ∷ bs) content reader n h = by_turn (turn_of content reader b)
  where
    by_turn : (turn : Turn) → n < (go_on turn content (suc n) (λ content₁ reader₁ n₁. walk_of bs content₁ reader₁ n₁)).taken
    by_turn (goes_on content₁ reader₁) = (walk_taken bs content₁ reader₁ (suc n)).0
    by_turn (stops end) = omega arith

module _ (state : Link) (piece : List ℕ) (reply_size packet_size : ℕ) where
  pub taken_progress : reply_room ≤ reply_size → payload_max ≤ packet_size → 0 < length piece → 0 < (receive_of state piece reply_size packet_size).taken
  unfolding walk_call
  taken_progress h k some =
      rw (room_for_both state piece reply_size packet_size h k) (walk_progress piece state.content state.reader 0 some)

  pub taken_within : (receive_of state piece reply_size packet_size).taken ≤ length piece
  unfolding walk_call
  taken_within = by_reply (ltb reply_size reply_room) refl
    where
      by_packet : reply_room ≤ reply_size → (t : Bool) → ltb packet_size payload_max ≡ t → (receive_of state piece reply_size packet_size).taken ≤ length piece
      by_packet h true e = rw (short_packet state piece reply_size packet_size h (ltb-true packet_size payload_max e)) (omega arith)
      by_packet h false e =
          let all = walk_taken piece state.content state.reader 0 in
          rw (room_for_both state piece reply_size packet_size h (ltb-false packet_size payload_max e)) (omega (arith, all.1))

      by_reply : (t : Bool) → ltb reply_size reply_room ≡ t → (receive_of state piece reply_size packet_size).taken ≤ length piece
      by_reply true e = rw (short_reply state piece reply_size packet_size (ltb-true reply_size reply_room e)) (omega arith)
      by_reply false e = by_packet (ltb-false reply_size reply_room e) (ltb packet_size payload_max) refl
