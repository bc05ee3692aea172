-- The laws of the display: what the link did, and the result by the link's answer, are what the display does.
use Rattle.std.proofs.Common.{◌≡◌, ◌≤◌, ℕ, List, length, take, sym, ap, ◌∙◌, arith}
use Rattle.frame.specs.Stuffing.{content_max}
use Rattle.board.specs.Reading.{read_board}
use Rattle.board.specs.declared.reading.Reading.{Reading}
use Rattle.sender.specs.declared.state.Sender.{Sender}
use Rattle.display.specs.Display.{keep_board, take_reading, received, result_of, receive_piece, DisplaysAs}
use Rattle.display.specs.declared.Answer as declared
use Rattle.display.specs.declared.Display.{Display}
use Rattle.display.specs.declared.Received.{Received}
use Rattle.display.proofs.HandedLaws.{Handed, receive_handed, packet_part}
use Rattle.link.specs.declared.receiver.Answer as link_answer
use Rattle.link.specs.declared.receiver.Received as link_received
use Rattle.link.specs.Receiving.{Call, receive_of, ReceivesAs}
use Rattle.link.specs.declared.receiver.Answer.TheVariants as says

module _ (display : Display) (piece reply packet reply₁ packet₁ : List ℕ) (taken : link_received.Received)
    (link_does : ReceivesAs (receive_of display.link piece (length reply) (length packet)) reply packet taken reply₁ packet₁) where
  abbrev call : Call
  call = receive_of display.link piece (length reply) (length packet)

  -- the answer that is matched on is that of the call
  answered : (answer : link_answer.Answer) → taken.answer ≡ answer → call.answer ≡ answer
  answered answer told = sym (ap (λ (r : link_received.Received). r.answer) link_does.answers) ∙ told

  module _ (result : Received) where
    by_answer : (answer : link_answer.Answer) → taken.answer ≡ answer → result ≡ result_of answer display.sender display.board call
        → DisplaysAs (receive_piece display piece (length reply) (length packet)) reply packet result reply₁ packet₁
    unfolding receive_piece
    by_answer answer told is =
        record {
          answers = is ∙ ap (λ (a : link_answer.Answer). result_of a display.sender display.board call) (sym (answered answer told));
          replied = link_does.replied;
          handed_out = link_does.handed_out;
        }

    pub kept : (answer : link_answer.Answer) (behind : Sender) (said : declared.Answer) → taken.answer ≡ answer
        → result_of answer display.sender display.board call ≡ keep_board (received call) behind display.board said
        → result ≡ keep_board taken behind display.board said
        → DisplaysAs (receive_piece display piece (length reply) (length packet)) reply packet result reply₁ packet₁
    kept answer behind said told passed is =
        by_answer answer told (is ∙ ap (λ (t : link_received.Received). keep_board t behind display.board said) link_does.answers ∙ sym passed)

  module _ (whole : length display.link.content ≡ content_max) (r n : ℕ) (told : taken.answer ≡ says.New r n) where
    handed : Handed call.packet n (length packet)
    handed = receive_handed display.link piece (length reply) (length packet) whole r n (answered (says.New r n) told)

    -- a new packet fits its buffer
    pub new_fits : n ≤ length packet
    new_fits = omega (arith, handed.size, handed.fits)

    pub handed_up : (result : Received) (reading : Reading) → reading ≡ read_board display.board (take n packet₁)
        → result ≡ take_reading taken display.sender r n reading
        → DisplaysAs (receive_piece display piece (length reply) (length packet)) reply packet result reply₁ packet₁
    handed_up result reading read is =
        let part = packet_part packet packet₁ call.packet n handed link_does.handed_out in
        by_answer result (says.New r n) told
        (is
        ∙ ap (λ (t : link_received.Received). take_reading t display.sender r n reading) link_does.answers
        ∙ ap (λ (x : Reading). take_reading (received call) display.sender r n x) (rw part at read))
