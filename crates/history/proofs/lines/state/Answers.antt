-- `history::lines::state` meets its contract: of a current row it appends the texts of the definition one behind the other.
use Rattle.std.proofs.Common.{◌≡◌, ap, rules, w64, to_z, of_z}
use Rattle.history.specs.Numbers.{signed_of}
use Rattle.history.proofs.AppendingLaws.{appends_both, appends_same}
use Rattle.history.proofs.lines.state.Goals as goal

pub returns-in-Current : goal.returns-in-Current
returns-in-Current c =
    let back : to_z w64 (of_z w64 c.in-Current.value) ≡ c.in-Current.value = search rules in
    let signed = appends_same (ap signed_of back) c.signed-second.ensures in
    rw (c.in-Current.is, ← c.from.ensures)
    (appends_both (appends_both (appends_both c.append-first.ensures signed) c.labelled-third.ensures) c.append-in-Current.ensures)
