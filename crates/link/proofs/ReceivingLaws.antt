-- A call, one law for each way through the code: the room in the two buffers settles whether it is refused, and otherwise the
-- walk and the frame that it ended make it.
use mathlib.Core.Logic.{◌⊎◌, inl, inr}
use Rattle.std.proofs.Common.{◌≡◌, ℕ, ◌<◌, ◌≤◌, Bool, true, false, cond, ltb, List, ◌++◌, length, take, drop, refl, sym, ap, ◌∙◌, arith, append_assoc, length-take-le, le-ltb, lt-ltb}
use Rattle.std.proofs.lemmas.List.{drop-append-le, take-append-drop}
use Rattle.slices.specs.Put.{put_at}
use Rattle.slices.proofs.PutLaws.{put_start}
use Rattle.frame.specs.Content.{payload_max}
use Rattle.link.specs.declared.walk.Walked.{Walked}
use Rattle.link.specs.declared.receiver.Link.{Link}
use Rattle.link.specs.declared.receiver.Received.{Received}
use Rattle.link.specs.declared.closing.Closed.{Closed}
use Rattle.link.specs.Walk.{Walk, walk_of}
use Rattle.link.specs.Closing.{reply_room, close_of}
use Rattle.link.specs.Receiving.{short_call, walk_call, receive_of, short_received, ReceivesAs}
use Rattle.link.specs.Steps.{WalksAs, ClosesAs}
use Rattle.link.proofs.ClosingLaws.{close_reply}

module _ (state : Link) (piece : List ℕ) (reply_size packet_size : ℕ) where
  pub short_reply : reply_size < reply_room → receive_of state piece reply_size packet_size ≡ short_call state
  unfolding receive_of
  short_reply h = rw (lt-ltb reply_size reply_room h)

  pub short_packet : reply_room ≤ reply_size → packet_size < payload_max → receive_of state piece reply_size packet_size ≡ short_call state
  unfolding receive_of
  short_packet h k = rw (le-ltb reply_size reply_room h, lt-ltb packet_size payload_max k)

  pub room_for_both : reply_room ≤ reply_size → payload_max ≤ packet_size
      → receive_of state piece reply_size packet_size ≡ walk_call state (walk_of piece state.content state.reader 0)
  unfolding receive_of
  room_for_both h k = rw (le-ltb reply_size reply_room h, le-ltb packet_size payload_max k)

-- a call with a short buffer puts nothing
pub refuses_short : (state : Link) (piece reply packet : List ℕ) (result : Received) → (length reply < reply_room) ⊎ (length packet < payload_max)
    → result ≡ short_received state → ReceivesAs (receive_of state piece (length reply) (length packet)) reply packet result reply packet
unfolding receive_of
refuses_short state piece reply packet result (inl h) told =
    rw (lt-ltb (length reply) reply_room h) (record { answers = told; replied = refl; handed_out = refl })
refuses_short state piece reply packet result (inr h) told = cases (ltb (length reply) reply_room)
  where
    cases : (t : Bool)
        → ReceivesAs
        (cond t (short_call state) (cond (ltb (length packet) payload_max) (short_call state) (walk_call state (walk_of piece state.content state.reader 0)))) reply
        packet result reply packet
    cases true = record { answers = told; replied = refl; handed_out = refl }
    cases false = rw (lt-ltb (length packet) payload_max h) (record { answers = told; replied = refl; handed_out = refl })

-- what is put into the first bytes of a buffer is put into the buffer
put_front : (n : ℕ) (d xs : List ℕ) → length xs ≤ n → n ≤ length d → put_at (take n d) 0 xs ++ drop n d ≡ put_at d 0 xs
put_front n d xs few room =
    let size = length-take-le n d room in
    let within : length xs ≤ length (take n d) = omega (arith, size) in
    let all : length xs ≤ length d = omega arith in
    rw (put_start (take n d) xs within, put_start d xs all, append_assoc)
    (ap (λ (rest : List ℕ). xs ++ rest) (sym (drop-append-le (length xs) (take n d) (drop n d) within) ∙ ap (drop (length xs)) (take-append-drop n d)))

-- the walk and the frame that it ended make the call
called : (state : Link) (walk : Walk) (walked : Walked) (content : List ℕ) (closed : Closed) (reply packet reply₁ packet₁ : List ℕ)
    → WalksAs walk walked content → ClosesAs (close_of walked.ended content state.last state.counts) reply packet closed reply₁ packet₁
    → ReceivesAs (walk_call state walk) reply packet
    (record {
      link = record { content = content; reader = walked.reader; last = closed.state.last; counts = closed.state.counts };
      taken = walked.taken;
      answer = closed.answer;
    })
    reply₁ packet₁
unfolding walk_call
called state walk walked content closed reply packet reply₁ packet₁ u k =
    let k' = rw (u.answers, u.array) at k in
    record { answers = rw (u.answers, u.array, k'.answers); replied = k'.replied; handed_out = k'.handed_out }

-- and so they do with the reply in the first bytes of its buffer
pub received : (state : Link) (piece reply packet front : List ℕ) (walked : Walked) (content : List ℕ) (closed : Closed) (front₁ packet₁ : List ℕ)
    → reply_room ≤ length reply → payload_max ≤ length packet → front ≡ take reply_room reply
    → WalksAs (walk_of piece state.content state.reader 0) walked content
    → ClosesAs (close_of walked.ended content state.last state.counts) front packet closed front₁ packet₁
    → ReceivesAs (receive_of state piece (length reply) (length packet)) reply packet
    (record {
      link = record { content = content; reader = walked.reader; last = closed.state.last; counts = closed.state.counts };
      taken = walked.taken;
      answer = closed.answer;
    })
    (front₁ ++ drop reply_room reply) packet₁
received state piece reply packet front walked content closed front₁ packet₁ room enough is u k =
    let o = close_of walked.ended content state.last state.counts in
    let walk = walk_of piece state.content state.reader 0 in
    let fits = put_front reply_room reply o.reply (close_reply walked.ended content state.last state.counts) room in
    let replied : front₁ ++ drop reply_room reply ≡ put_at reply 0 o.reply = rw (k.replied, is) fits in
    rw (room_for_both state piece (length reply) (length packet) room enough)
    (called state walk walked content closed reply packet (front₁ ++ drop reply_room reply) packet₁ u
    (record { answers = k.answers; replied = replied; handed_out = k.handed_out }))
