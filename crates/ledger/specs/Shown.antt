-- How the code says what the ledger says: each count modulo 65,536, the rows as they are shown, the answers as the code has them.
use Rattle.std.specs.Prelude as code
use Rattle.std.specs.Prelude.{ℕ, ◌%◌, List, [], map, length, get_or}
use Rattle.std.proofs.Math.Option.{Option, some, none}
use Rattle.slices.specs.declared.fixed_bytes.FixedBytes.{FixedBytes}
use Rattle.refusals.specs.declared.Refusal.{Refusal}
use Rattle.frame.specs.Answers.{fault_at}
use Rattle.frame.specs.Content.{payload_max}
use Rattle.rows.specs.Entries as shown
use Rattle.rows.specs.Names.{place_of}
use Rattle.rows.specs.Rows.{fresh_row}
use Rattle.rows.specs.declared.Board.{Board}
use Rattle.rows.specs.declared.Row as row
use Rattle.rows.specs.declared.State.{State}
use Rattle.rows.specs.declared.State.TheVariants.{Never, Current, Silent}
use Rattle.board.specs.Reading as reading
use Rattle.board.specs.Reading.{Verdict}
use Rattle.board.specs.declared.reading.Done as board_done
use Rattle.link.specs.declared.counts.Counts as link_counts
use Rattle.sender.specs.State.{payload_of, no_payload}
use Rattle.sender.specs.declared.state.Answer as sender_answer
use Rattle.sender.specs.declared.state.Held as sender_held
use Rattle.sender.specs.declared.state.Sender as sender
use Rattle.display.specs.declared.Answer as display_answer
use Rattle.ledger.specs.Ledger.{Counts, Held, Sender, Entry, Row, never, current, silent, row_of}
use Rattle.ledger.specs.Answers as answers
use Rattle.ledger.specs.Sending.{own_frame}
use Rattle.ledger.specs.Calls.{answer_to}

-- 01, The shape we want: the value equals the history's count modulo 65,536
abbrev pub wrapped : ℕ → ℕ
wrapped n = n % 65536

abbrev pub as_counts : Counts → link_counts.Counts
as_counts c =
    record {
      new = wrapped c.new;
      again = wrapped c.again;
      heard = wrapped c.heard;
      unread = wrapped c.unread;
      refused = map wrapped c.refused;
    }

abbrev pub as_state : Row → State
as_state never = Never
as_state (current value age) = Current value age
as_state silent = Silent

-- 02, C-13: what the sender holds; where it holds nothing its room is empty
abbrev pub as_held : Option Held → code.Option sender_held.Held
as_held none = code.None
as_held (some frame) = code.Some (record { sequence = frame.sequence; repeats = frame.repeats })

abbrev pub as_payload : Option Held → FixedBytes payload_max
as_payload none = no_payload
as_payload (some frame) = payload_of frame.payload

abbrev pub as_sender : Sender → sender.Sender
as_sender s = record { next = s.next; held = as_held s.held; payload = as_payload s.held }

-- a name with what its row shows
abbrev pub as_entry : Entry → shown.Entry
as_entry entry = record { name = entry.name; state = as_state (row_of entry.last) }

-- the row of an update is its name's place in the watch list (an update is always of a watched name, so none does not come)
abbrev pub as_updated : ℕ → Option ℕ → board_done.Done
as_updated id (some place) = board_done.TheVariants.Updated place id
as_updated id none = board_done.TheVariants.EndMark id

abbrev pub as_reading : List (List ℕ) → Verdict → code.Result board_done.Done Refusal
as_reading names (reading.refused n) = code.Err n
as_reading names (reading.end_mark id) = code.Ok (board_done.TheVariants.EndMark id)
as_reading names (reading.update id name value) = code.Ok (as_updated id (place_of name names))

abbrev pub as_answer : List (List ℕ) → answers.Answer → display_answer.Answer
as_answer names answers.nothing = display_answer.TheVariants.Nothing
as_answer names (answers.refused n place) = display_answer.TheVariants.Refused (fault_at n place)
as_answer names (answers.heard sequence) = display_answer.TheVariants.Heard sequence
as_answer names (answers.again sequence) = display_answer.TheVariants.Again (length (answer_to sequence))
as_answer names (answers.new sequence payload verdict) =
    display_answer.TheVariants.New (length (answer_to sequence)) (length payload) (as_reading names verdict)

-- of a frame that goes out sequence and length are told, of one that was dropped its sequence
abbrev pub as_sending : answers.Sending → sender_answer.Answer
as_sending answers.idle = sender_answer.TheVariants.Nothing
as_sending (answers.refused n) = sender_answer.TheVariants.Refused n
as_sending (answers.sent sequence payload) = sender_answer.TheVariants.Sent sequence (length (own_frame sequence payload))
as_sending (answers.repeated sequence payload) = sender_answer.TheVariants.Repeated sequence (length (own_frame sequence payload))
as_sending (answers.dropped frame) = sender_answer.TheVariants.Dropped frame.sequence

-- what a call left: the bytes taken, the answer, and the bytes in the two buffers; nothing, of a tick; or the answer and the bytes in the
-- output
pub data Left : Type 0 where
  took : ℕ → display_answer.Answer → List ℕ → List ℕ → Left
  ticked : Left
  outgoing : sender_answer.Answer → List ℕ → Left

abbrev pub as_left : List (List ℕ) → answers.Given → Left
as_left names (answers.took n answer reply packet) = took n (as_answer names answer) reply packet
as_left names answers.ticked = ticked
as_left names (answers.outgoing answer output) = outgoing (as_sending answer) output

-- the row at a place of the board
abbrev pub row_at : Board → ℕ → row.Row
row_at board place = get_or board.rows place (fresh_row [])
