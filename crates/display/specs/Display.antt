-- 01, The receiver and The board, and 02, C-13, the sender: what a piece and a tick do to the three together, as the display runs them.
use Rattle.std.specs.Prelude.{ℕ, ◌≡◌, List, Result, Ok, Err}
use Rattle.refusals.specs.declared.Refusal.{Refusal}
use Rattle.slices.specs.Put.{put_at}
use Rattle.rows.specs.Rows.{tick_board}
use Rattle.rows.specs.declared.Board.{Board}
use Rattle.board.specs.Reading.{read_board}
use Rattle.board.specs.declared.reading.Done.{Done}
use Rattle.board.specs.declared.reading.Reading.{Reading}
use Rattle.link.specs.Receiving.{Call, receive_of, fresh_link, with_unread_packet}
use Rattle.link.specs.declared.receiver.Link.{Link}
use Rattle.link.specs.declared.receiver.Answer as link_answer
use Rattle.link.specs.declared.receiver.Received as link_received
use Rattle.sender.specs.State.{fresh_sender, acknowledged}
use Rattle.sender.specs.declared.state.Sender.{Sender}
use Rattle.display.specs.declared.Display.{Display}
use Rattle.display.specs.declared.Answer as declared
use Rattle.display.specs.declared.Answer.TheVariants as says
use Rattle.display.specs.declared.Received.{Received}

-- 01, Refusal numbers: a packet refused by the board adds one to the unread count
abbrev pub count_reading : Link → Result Done Refusal → Link
count_reading state (Err n) = with_unread_packet state
count_reading state (Ok done) = state

-- a call that brought no new packet leaves the board as it was
abbrev pub keep_board : link_received.Received → Sender → Board → declared.Answer → Received
keep_board received sender board answer =
    record { display = record { link = received.link; sender = sender; board = board }; taken = received.taken; answer = answer }

-- 01, Items and packets: every new packet goes to the board at once
abbrev pub take_reading : link_received.Received → Sender → ℕ → ℕ → Reading → Received
take_reading received sender reply packet reading =
    record {
      display = record { link = count_reading received.link reading.answer; sender = sender; board = reading.board };
      taken = received.taken;
      answer = says.New reply packet reading.answer;
    }

-- what a piece gives: the result, and the bytes put at the start of the two buffers
pub record Outcome : Type 0 where
  pub result : Received
  pub reply : List ℕ
  pub packet : List ℕ

abbrev pub received : Call → link_received.Received
received call = record { link = call.link; taken = call.taken; answer = call.answer }

-- by the link's answer. 02, C-13: a heard acknowledgement of its sequence frees the held frame; nothing else in a piece concerns the sender
abbrev pub result_of : link_answer.Answer → Sender → Board → Call → Received
result_of link_answer.TheVariants.Nothing sender board call = keep_board (received call) sender board says.Nothing
result_of (link_answer.TheVariants.Refused fault) sender board call = keep_board (received call) sender board (says.Refused fault)
result_of (link_answer.TheVariants.Heard sequence) sender board call =
    keep_board (received call) (acknowledged sender sequence) board (says.Heard sequence)
result_of (link_answer.TheVariants.Again reply) sender board call = keep_board (received call) sender board (says.Again reply)
result_of (link_answer.TheVariants.New reply packet) sender board call =
    take_reading (received call) sender reply packet (read_board board call.packet)

abbrev pub outcome_of : Sender → Board → Call → Outcome
outcome_of sender board call =
    record { result = result_of call.answer sender board call; reply = call.reply; packet = call.packet }

unfoldable pub receive_piece : Display → List ℕ → ℕ → ℕ → Outcome
receive_piece display piece reply_size packet_size =
    outcome_of display.sender display.board (receive_of display.link piece reply_size packet_size)

pub record DisplaysAs (outcome : Outcome) (reply₀ packet₀ : List ℕ) (result : Received) (reply₁ packet₁ : List ℕ) : Type 0 where
  pub answers : result ≡ outcome.result
  pub replied : reply₁ ≡ put_at reply₀ 0 outcome.reply
  pub handed_out : packet₁ ≡ put_at packet₀ 0 outcome.packet

-- a display before the first byte
abbrev pub fresh : Board → Display
fresh board = record { link = fresh_link; sender = fresh_sender; board = board }

-- a tick concerns the board alone
abbrev pub tick_display : Display → Display
tick_display display = record { link = display.link; sender = display.sender; board = tick_board display.board }
