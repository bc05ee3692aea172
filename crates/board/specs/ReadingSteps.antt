-- How the code reads a packet: first what the packet asks of the board, then, of a Name and the item behind it, the update. The proof of
-- `read` ties these to the definitions of Reading.
use Rattle.std.specs.Prelude.{ℕ, cond, ◌&&◌, List, eqb, ltb, Result, Ok, Err}
use Rattle.std.proofs.Math.Option.{Option}
use Rattle.refusals.specs.Numbers.{other_opcode, bad_name}
use Rattle.refusals.specs.declared.Refusal.{Refusal}
use Rattle.packet.specs.ItemTypes.{name_kind, eof_kind}
use Rattle.packet.specs.Items.{Item, count_of}
use Rattle.packet.specs.Packet.{packet_items}
use Rattle.packet.specs.Answers.{item_at, look_of}
use Rattle.packet.specs.declared.reading.Look.{Look}
use Rattle.rows.specs.Rows.{watched}
use Rattle.rows.specs.declared.Board.{Board}
use Rattle.board.specs.Reading.{update_opcode, Verdict, refused, end_mark, value_of_item, with_name, if_watched, applied}
use Rattle.board.specs.declared.reading.Reading.{Reading}
use Rattle.board.specs.declared.reading.Task.{Task}
use Rattle.board.specs.declared.reading.Task.TheVariants.{Finish, Apply}

-- what a packet asks, by what a look for Names found in it and the number of its EOF items
unfoldable pub task_of_items : Look → ℕ → Result Task Refusal
task_of_items names ends =
    cond (eqb names.count 0 && ltb 0 ends)
    (Ok (Finish names.head.id))
    (cond (eqb names.count 1) (Ok (Apply names.head.id names.first names.behind)) (Err bad_name))

-- the same after the packet reader's answer
abbrev pub task_by : Result Look Refusal → ℕ → Result Task Refusal
task_by (Err r) ends = Err r
task_by (Ok names) ends = cond (eqb names.head.opcode update_opcode) (task_of_items names ends) (Err other_opcode)

abbrev pub task_of : List ℕ → Result Task Refusal
task_of bytes = task_by (look_of name_kind bytes) (count_of eof_kind (packet_items bytes))

-- the verdict on an update with this Name and this item behind it
abbrev pub verdict_on : ℕ → Option Item → Option Item → Verdict
verdict_on id name behind = with_name id name (value_of_item behind)

-- the verdict that a task comes to, with its items read in the bytes
abbrev pub verdict_by : List ℕ → Result Task Refusal → Verdict
verdict_by bytes (Err r) = refused r
verdict_by bytes (Ok (Finish id)) = end_mark id
verdict_by bytes (Ok (Apply id name behind)) = verdict_on id (item_at bytes name) (item_at bytes behind)

-- the board after an update with these items
unfoldable pub read_update : Board → ℕ → Option Item → Option Item → Reading
read_update board id name behind = applied board (if_watched (watched board) (verdict_on id name behind))
