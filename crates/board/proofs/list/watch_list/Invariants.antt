-- `board::list::watch_list` meets its contract. The invariant says what is still to read: the board is that of the names read
-- so far, and with the rest of the list behind them they give what the whole list gives.
use lib.ListN.{length}
use Rattle.board.proofs.FieldLaws.{Reached}
use Rattle.board.proofs.list.watch_list.Given as goal

abbrev pub invariant-loop-rest : goal.invariant-loop-rest
invariant-loop-rest l = Reached l.fields l.board l.rest

abbrev pub decreases-loop-rest : goal.decreases-loop-rest
decreases-loop-rest l = length l.rest
