-- DEMAND 3, cuts of the byte stream do not matter: a stream is offered piece by piece, and what a call did not take is offered again. Its
-- history is the stream without its refused events, wherever it is cut, and every cutting gets through, since a call with room takes at
-- least one byte.
use mathlib.Core.Path.{◌≡◌, refl, sym, ap, ◌∙◌}
use mathlib.Core.List.{List, [], ◌∷◌}
use mathlib.Core.Option.{some}
use Prim.Native.Nat.{ℕ, zero, suc, ◌≤◌}
use native.Mathlib.Omega.{arith}
use lib.ListN.{length, drop, replicate, length-drop}
use Rattle.sender.specs.Events.{send_of, timeout_of}
use Rattle.display.specs.Display.{receive_piece, tick_display}
use Rattle.display.specs.Sending.{with_sender}
use Rattle.display.specs.Taking.{Takes}
use Rattle.display.specs.declared.Display.{Display}
use Rattle.display.specs.declared.Received.{Received}
use Rattle.display.proofs.TakingLaws.{takes_some}
use Rattle.ledger.specs.Ledger.{start}
use Rattle.ledger.specs.Answers.{WatchList, names_in, Call, tick}
use Rattle.ledger.specs.Calls.{reply_room, packet_room}
use Rattle.ledger.specs.Shown.{Left, ticked}
use Rattle.ledger.specs.Streams.{Part, cut, pause, send, timeout, offers_in}
use Rattle.ledger.proofs.Chain.{Begins, Receives, received}
use Rattle.ledger.proofs.EveryListRuns.{received_by, sent_by_law, timed_out_by}
use Rattle.ledger.proofs.SameHistory.{Alike, same_history}
use Rattle.ledger.proofs.FedHistory.{Feeds, fed, all_taken, offered, paused, offered_send, offered_timeout, fed_chain, accepted_from, fed_history}

-- THEOREM. Whatever the display, a call that is lent a reply buffer of at least 9 bytes and a packet buffer of at least 383 takes at most its
-- piece, and some of a piece that has any byte.
pub room_takes : {d : Display} {bytes reply packet reply₁ packet₁ : List ℕ} {result : Received} → Receives d bytes reply packet result reply₁ packet₁
    → reply_room ≤ length reply → packet_room ≤ length packet → Takes bytes result.taken
room_takes {d = d} {bytes = bytes} {reply = reply} {packet = packet} {reply₁ = reply₁} {packet₁ = packet₁} {result = result} r a b =
    takes_some d bytes (length reply) (length packet) reply packet reply₁ packet₁ result a b (received r)

-- THEOREM. Wherever a stream is cut, the outcome is the same: from fresh starts with the same names, two ways to cut the same stream, with
-- minutes, sends and timeouts between its bytes, are alike in answers, replies, frames of our own, packets, counts, board and sender, and in
-- all that comes behind.
pub cuts_do_not_matter : (names : List (List ℕ)) (w w₁ : WatchList) → names_in w ≡ some names → names_in w₁ ≡ some names
    → (d d₁ : Display) → Begins w d → Begins w₁ d₁ → (parts parts₁ : List Part) → offers_in parts ≡ offers_in parts₁
    → (cs cs₁ : List Call) (left left₁ : List Left) (end end₁ : Display) → Feeds d parts cs left end → Feeds d₁ parts₁ cs₁ left₁ end₁
    → Alike left left₁ end end₁
cuts_do_not_matter names w w₁ listed listed₁ d d₁ b b₁ parts parts₁ same cs cs₁ left left₁ end end₁ f f₁ =
    same_history names w w₁ listed listed₁ d d₁ b b₁ cs cs₁ left left₁ end end₁ (fed_chain f) (fed_chain f₁)
    (fed_history names w listed d b f ∙ ap (accepted_from (start names)) same ∙ sym (fed_history names w₁ listed₁ d₁ b₁ f₁))

-- calls that take a stream
pub record Fed (d : Display) (parts : List Part) : Type 0 where
  pub cs : List Call
  pub left : List Left
  pub end : Display
  pub feeds : Feeds d parts cs left end

-- a piece is taken in at most as many calls as it has bytes
nothing_left : (parts : List Part) (d : Display) → Fed d parts → Fed d (cut [] ∷ parts)
nothing_left parts d rest = record { cs = rest.cs; left = rest.left; end = rest.end; feeds = all_taken rest.feeds }

offer : (parts : List Part) (n : ℕ) (bytes : List ℕ) → length bytes ≤ suc n → (d : Display) → ((d₁ : Display) → Fed d₁ parts)
    → ((rest : List ℕ) → length rest ≤ n → (d₁ : Display) → Fed d₁ (cut rest ∷ parts)) → Fed d (cut bytes ∷ parts)
offer parts n [] few d behind again = nothing_left parts d (behind d)
offer parts n (b ∷ bs) few d behind again =
    let first = received_by d (b ∷ bs) (replicate reply_room 0) (replicate packet_room 0) in
    let result = (receive_piece d (b ∷ bs) reply_room packet_room).result in
    let takes = room_takes first (omega arith) (omega arith) in
    let fewer : length (drop result.taken (b ∷ bs)) ≤ n = omega (arith, length-drop result.taken (b ∷ bs), takes.some (omega arith)) in
    let rest = again (drop result.taken (b ∷ bs)) fewer result.display in
    record { cs = _ ∷ rest.cs; left = _ ∷ rest.left; end = rest.end; feeds = offered first rest.feeds }

piece_fed : (parts : List Part) → ((d : Display) → Fed d parts) → (n : ℕ) (bytes : List ℕ) → length bytes ≤ n → (d : Display) → Fed d (cut bytes ∷ parts)
piece_fed parts behind zero bytes few d = by_bytes bytes few
  where
    by_bytes : (bytes : List ℕ) → length bytes ≤ 0 → Fed d (cut bytes ∷ parts)
    by_bytes [] few = nothing_left parts d (behind d)
    by_bytes (b ∷ bs) few = absurd (omega arith)
piece_fed parts behind (suc n) bytes few d = offer parts n bytes few d behind (λ rest fewer d₁. piece_fed parts behind n rest fewer d₁)

-- THEOREM. From every display there are calls that take any stream, wherever it is cut.
pub every_cut : (parts : List Part) (d : Display) → Fed d parts
every_cut [] d = record { cs = []; left = []; end = d; feeds = fed }
every_cut (cut bytes ∷ parts) d = piece_fed parts (λ d₁. every_cut parts d₁) (length bytes) bytes (omega arith) d
every_cut (pause ∷ parts) d =
    let rest = every_cut parts (tick_display d) in
    record { cs = tick ∷ rest.cs; left = ticked ∷ rest.left; end = rest.end; feeds = paused refl rest.feeds }
every_cut (send payload output ∷ parts) d =
    let rest = every_cut parts (with_sender d (send_of d.sender payload (length output)).outcome.sender) in
    record { cs = _ ∷ rest.cs; left = _ ∷ rest.left; end = rest.end; feeds = offered_send (sent_by_law d payload output) rest.feeds }
every_cut (timeout output ∷ parts) d =
    let rest = every_cut parts (with_sender d (timeout_of d.sender (length output)).outcome.sender) in
    record { cs = _ ∷ rest.cs; left = _ ∷ rest.left; end = rest.end; feeds = offered_timeout (timed_out_by d output) rest.feeds }
