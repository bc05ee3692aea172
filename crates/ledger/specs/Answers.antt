-- 01, The ledger: where a list of calls starts, what a call is, and what it is given.
use Rattle.std.specs.Prelude.{ℕ, List}
use Rattle.std.proofs.Math.Option.{Option, some}
use Rattle.refusals.specs.declared.Refusal.{Refusal}
use Rattle.rows.specs.Rows.{row_count}
use Rattle.board.specs.Reading.{Verdict}
use Rattle.board.specs.WatchList.{watch_names}
use Rattle.ledger.specs.Ledger.{Held}

-- a fresh board of any watch list: its bytes, or its names one at a time, as a history has them
pub data WatchList : Type 0 where
  as_bytes : List ℕ → WatchList
  one_by_one : List (List ℕ) → WatchList

abbrev pub names_in : WatchList → Option (List (List ℕ))
names_in (as_bytes fields) = watch_names row_count fields
names_in (one_by_one names) = some names

-- a piece with its two buffers, or a tick; 02, C-13: a send with its payload and output, or a timeout with its output
pub data Call : Type 0 where
  piece : List ℕ → List ℕ → List ℕ → Call
  tick : Call
  send : List ℕ → List ℕ → Call
  timeout : List ℕ → Call

-- what a piece is answered: no frame; a refusal with its place; the sequence heard; a data frame repeated at once; or a new one, with what the
-- board reads in its payload
pub data Answer : Type 0 where
  nothing : Answer
  refused : Refusal → ℕ → Answer
  heard : ℕ → Answer
  again : ℕ → Answer
  new : ℕ → List ℕ → Verdict → Answer

-- what a send or a timeout is answered: nothing was held; a refusal; a frame went out for the first time, or again, with its sequence and
-- payload; or a frame was dropped
pub data Sending : Type 0 where
  idle : Sending
  refused : Refusal → Sending
  sent : ℕ → List ℕ → Sending
  repeated : ℕ → List ℕ → Sending
  dropped : Held → Sending

-- what a call gives: the bytes taken, the answer and the bytes left in the two buffers; nothing, of a tick; or the answer and the bytes
-- left in the output
pub data Given : Type 0 where
  took : ℕ → Answer → List ℕ → List ℕ → Given
  ticked : Given
  outgoing : Sending → List ℕ → Given
