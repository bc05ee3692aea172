-- 01, Known answers: each case as the definitions that the contracts cite compute it, beside the answer that 01 gives.
use Rattle.std.specs.Prelude as code
use Rattle.std.specs.Prelude.{ℕ, zero, suc, ◌-◌, List, [], ◌∷◌, map, ℤ, pos, negsuc, replicate}
use Rattle.std.proofs.Math.Option.{Option, some}
use Rattle.refusals.specs.Numbers.{bad_value}
use Rattle.refusals.specs.declared.Refusal.{Refusal}
use Rattle.crc.specs.Crc.{link_start, crc_of}
use Rattle.frame.specs.Content.{Read, frame}
use Rattle.slices.specs.Written.{Output, written}
use Rattle.frame.specs.Writing.{write_frame}
use Rattle.frame.specs.Reading.{read_frame}
use Rattle.link.specs.Closing.{acknowledgement}
use Rattle.rows.specs.Rows.{row_count, board_of, update_board, tick_board}
use Rattle.rows.specs.declared.Board.{Board}
use Rattle.rows.specs.declared.Row as row
use Rattle.rows.specs.declared.State.{State}
use Rattle.rows.specs.declared.State.TheVariants.{Never, Current, Silent}
use Rattle.board.specs.Reading.{read_board}
use Rattle.board.specs.declared.reading.Done as board
use Rattle.value.specs.Value.{value_of}
use Rattle.display.specs.Display.{Outcome, receive_piece, fresh}
use Rattle.display.specs.declared.Answer.{Answer}
use Rattle.display.specs.declared.Answer.TheVariants.{New}
use Rattle.ledger.specs.Ledger.{Entry, Row, current, silent, never, older, start, row_of}
use Rattle.ledger.specs.Answers.{piece}
use Rattle.ledger.specs.Calls.{after}

-- what a case is about: a check, a frame that was written or read, bytes on the line, a value, the board's answer to a packet, what the
-- ledger's rows show, the states of the board's rows, or what the display made of a piece: its answer, the reply and these states
pub data Result : Type 0 where
  check : ℕ → Result
  frame_written : Output → Result
  frame_read : Read → Result
  bytes : List ℕ → Result
  value : Option ℤ → Result
  packet_read : code.Result board.Done Refusal → Result
  rows : List Row → Result
  states : List State → Result
  displayed : Answer → List ℕ → List State → Result

pub record Case : Type 0 where
  pub number : ℕ
  pub computed : Result
  pub answer : Result

abbrev given : ℕ → Result → Result → Case
given number computed answer = record { number = number; computed = computed; answer = answer }

-- the payload of case 1
abbrev pub letters : List ℕ
letters = 0x7a ∷ 0x7b ∷ 0x7c ∷ 0x7d ∷ 0x7e ∷ []

-- the frame of case 1
abbrev pub frame1 : List ℕ
frame1 = 0x7e ∷ 0x02 ∷ 0x01 ∷ 0x7a ∷ 0x7b ∷ 0x7c ∷ 0x7d ∷ 0x5d ∷ 0x7d ∷ 0x5e ∷ 0x9f ∷ 0xfa ∷ 0x7e ∷ []

-- the names h1 and h2
abbrev pub h1 : List ℕ
h1 = 0x68 ∷ 0x31 ∷ []

abbrev h2 : List ℕ
h2 = 0x68 ∷ 0x32 ∷ []

-- the frame of case 6
abbrev pub frame6 : List ℕ
frame6 =
    0x7e ∷ 0x01 ∷ 0x00 ∷ 0x01 ∷ 0x03 ∷ 0x00 ∷ 0x00 ∷ 0x01 ∷ 0x02 ∷ 0x68 ∷ 0x31 ∷ 0x16 ∷ 0x04 ∷ 0x00 ∷ 0x00 ∷ 0x0d ∷ 0x7a ∷ 0x1a ∷ 0xa4 ∷ 0x7e ∷ []

abbrev shown : Entry → Row
shown entry = row_of entry.last

-- the states of the board's rows
abbrev row_state : row.Row → State
row_state r = r.state

abbrev states_of : Board → List State
states_of board = map row_state board.rows

abbrev outcome : Outcome → Result
outcome o = displayed o.result.answer o.reply (states_of o.result.display.board)

-- nothing came yet for the rows behind the first
abbrev others : List State
others = replicate (row_count - 1) Never

-- a board right after an update of h1
abbrev just_updated : Board
just_updated = update_board 0 (pos 1) (board_of row_count (h1 ∷ []))

-- the board after so many ticks
abbrev ticked : ℕ → Board → Board
ticked zero board = board
ticked (suc n) board = tick_board (ticked n board)

-- a packet of opcode 03 with the Name h1 and a value item
abbrev valued : List ℕ → List ℕ
valued item = 0x01 ∷ 0x03 ∷ 0x00 ∷ 0x00 ∷ 0x01 ∷ 0x02 ∷ 0x68 ∷ 0x31 ∷ item

abbrev pub table : List Case
table =
    given 1 (check (crc_of link_start (0x02 ∷ 0x01 ∷ letters))) (check 0x9ffa)
    ∷ given 1 (frame_written (write_frame 13 0x02 0x01 letters)) (frame_written (written frame1))
    ∷ given 1 (frame_read (read_frame 383 frame1)) (frame_read (frame 0x02 0x01 letters))
    ∷ given 2 (bytes (acknowledgement 0x01)) (bytes (0x7e ∷ 0x02 ∷ 0x01 ∷ 0x6b ∷ 0x4c ∷ 0x7e ∷ []))
    ∷ given 3 (bytes (acknowledgement 0x00)) (bytes (0x7e ∷ 0x02 ∷ 0x00 ∷ 0x7b ∷ 0x6d ∷ 0x7e ∷ []))
    ∷ given 4 (bytes (acknowledgement 0x7d)) (bytes (0x7e ∷ 0x02 ∷ 0x7d ∷ 0x5d ∷ 0xd4 ∷ 0x57 ∷ 0x7e ∷ []))
    ∷ given 5 (check (crc_of link_start [])) (check 0xffff)
    ∷ given 6 (rows (map shown (after (start (h1 ∷ h2 ∷ [])) (piece frame6 (replicate 9 0) (replicate 383 0) ∷ [])).hives.entries))
    (rows (current (pos 3450) 0 ∷ never ∷ []))
    ∷ given 6 (outcome (receive_piece (fresh (board_of row_count (h1 ∷ h2 ∷ []))) frame6 9 383))
    (displayed (New 6 14 (code.Ok (board.TheVariants.Updated 0 0))) (0x7e ∷ 0x02 ∷ 0x00 ∷ 0x7b ∷ 0x6d ∷ 0x7e ∷ []) (Current (pos 3450) 0 ∷ others))
    ∷ given 7 (value (value_of 0x02 (0xff ∷ 0x38 ∷ []))) (value (some (negsuc 199)))
    ∷ given 7 (value (value_of 0x02 (0x80 ∷ []))) (value (some (negsuc 127)))
    ∷ given 8 (value (value_of 0x16 (0x00 ∷ 0x00 ∷ 0x26 ∷ 0x90 ∷ []))) (value (some (pos 9872)))
    ∷ given 9 (packet_read (read_board (board_of row_count (h1 ∷ [])) (valued (0x02 ∷ 0x03 ∷ 0x00 ∷ 0x00 ∷ 0x01 ∷ []))).answer)
    (packet_read (code.Err bad_value))
    ∷ given 10 (rows (row_of (some (record { value = pos 1; ticks = 29 })) ∷ row_of (older (some (record { value = pos 1; ticks = 29 }))) ∷ []))
    (rows (current (pos 1) 29 ∷ silent ∷ []))
    ∷ given 10 (states (states_of (ticked 29 just_updated))) (states (Current (pos 1) 29 ∷ others))
    ∷ given 10 (states (states_of (ticked 30 just_updated))) (states (Silent ∷ others))
    ∷ []
