-- `history::lines::row` meets its contract: the bytes appended are the name of the row, and behind it its state.
use Rattle.history.proofs.AppendingLaws.{appends_both, appends_same}
use Rattle.history.proofs.RowLine.{named_row}
use Rattle.history.proofs.lines.row.Goals as goal

pub returns : goal.returns
returns c =
    let named = named_row c.args.row _ c.as_slice-name.ensures c.if-is_empty.ensures in
    appends_same named (appends_both c.append-place.ensures c.state.ensures)
