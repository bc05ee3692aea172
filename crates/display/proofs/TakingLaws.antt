-- A call with buffers of at least 9 and 383 bytes takes some of its piece: the display takes what its link takes.
use mathlib.Core.Path.{◌≡◌, refl, ap, ◌∙◌}
use mathlib.Core.List.{List}
use Prim.Native.Nat.{ℕ, ◌≤◌}
use native.Mathlib.Omega.{arith}
use Rattle.frame.specs.Content.{payload_max}
use Rattle.rows.specs.declared.Board.{Board}
use Rattle.link.specs.Closing.{reply_room}
use Rattle.link.specs.Receiving.{Call, receive_of}
use Rattle.link.specs.declared.receiver.Answer as link_answer
use Rattle.link.proofs.TakenLaws.{taken_progress, taken_within}
use Rattle.sender.specs.declared.state.Sender.{Sender}
use Rattle.display.specs.Display.{result_of, receive_piece, DisplaysAs}
use Rattle.display.specs.declared.Display.{Display}
use Rattle.display.specs.declared.Received.{Received}
use Rattle.display.specs.Taking.{Takes}

pub taken_by_link : (answer : link_answer.Answer) (sender : Sender) (board : Board) (call : Call) → (result_of answer sender board call).taken ≡ call.taken
taken_by_link link_answer.TheVariants.Nothing sender board call = refl
taken_by_link (link_answer.TheVariants.Refused fault) sender board call = refl
taken_by_link (link_answer.TheVariants.Heard sequence) sender board call = refl
taken_by_link (link_answer.TheVariants.Again reply) sender board call = refl
taken_by_link (link_answer.TheVariants.New reply packet) sender board call = refl

pub takes_some : (display : Display) (piece : List ℕ) (reply_size packet_size : ℕ) (reply packet reply₁ packet₁ : List ℕ) (received : Received)
    → reply_room ≤ reply_size → payload_max ≤ packet_size → DisplaysAs (receive_piece display piece reply_size packet_size) reply packet received reply₁ packet₁
    → Takes piece received.taken
unfolding receive_piece
takes_some display piece reply_size packet_size reply packet reply₁ packet₁ received a b r =
    let call = receive_of display.link piece reply_size packet_size in
    let same : received.taken ≡ call.taken =
    ap (λ (x : Received). x.taken) r.answers ∙ taken_by_link call.answer display.sender display.board call in
    rw same
    (record {
      within = taken_within display.link piece reply_size packet_size;
      some = taken_progress display.link piece reply_size packet_size a b;
    })

pub takes : (display : Display) (piece reply packet reply₁ packet₁ : List ℕ) (received : Received)
    → DisplaysAs (receive_piece display piece reply_room payload_max) reply packet received reply₁ packet₁ → Takes piece received.taken
takes display piece reply packet reply₁ packet₁ received r = takes_some display piece reply_room payload_max reply packet reply₁ packet₁ received (omega arith) (omega arith) r
