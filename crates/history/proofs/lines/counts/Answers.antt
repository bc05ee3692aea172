-- `history::lines::counts` meets its contract: it appends its texts one behind the other.
use Rattle.history.proofs.AppendingLaws.{appends_both}
use Rattle.history.proofs.lines.counts.Goals as goal

pub returns : goal.returns
returns c =
    rw (← c.from.ensures, ← c.from-2.ensures, ← c.from-3.ensures, ← c.from-4.ensures)
    (appends_both
    (appends_both
    (appends_both (appends_both c.labelled-first.ensures c.labelled-second.ensures) c.labelled-third.ensures)
    c.labelled-fourth.ensures)
    c.append.ensures)
