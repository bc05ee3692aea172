-- `history::lines::labelled` meets its contract: it appends the two texts one behind the other.
use Rattle.history.proofs.AppendingLaws.{appends_both}
use Rattle.history.proofs.lines.labelled.Goals as goal

pub returns : goal.returns
returns c = appends_both c.append-place.ensures c.decimal.ensures
