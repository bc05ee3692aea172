-- `ash::reader::read_by_header` meets its contract: what stands behind the header is what `read_payload` was given.
use mathlib.Core.Path.{sym, ◌∙◌}
use native.Mathlib.Omega.{arith}
use Rattle.ash.proofs.ReadLaws.{header_taken}
use Rattle.ash.proofs.reader.read_by_header.Goals as goal

pub returns : goal.returns
returns c =
    let size = rw c.length_escaped.ensures at c.unescape-size.ensures in
    let meant = rw c.control_escaped.ensures at c.unescape.ensures in
    let good = sym c.good_header.ensures ∙ c.if-not-good_header.false in
    rw (header_taken c.args.escape c.args.control c.args.length c.args.behind.now _ _ good size meant (omega arith) (omega arith))
    (rw (c.split_at.ensures.front, c.split_at.ensures.back) at c.read_payload.ensures)
