-- `ash::reader::read_payload` meets its contract: what was unstuffed is what `hand_out` was given.
use Rattle.ash.proofs.PayloadLaws.{checked_payload}
use Rattle.ash.proofs.reader.read_payload.Goals as goal

pub returns : goal.returns
returns c =
    let some = c.in_ok-length.ensures.ok_part in
    checked_payload c.args.control c.args.check.now c.args.sent.now _ _ c.args.out.now _ _ _ c.requires (rw some at c.unstuff.ensures.few)
    (rw some at c.unstuff.ensures.read) c.hand_out.ensures
