-- `ash::writer::put_frame` meets its contract: header, payload and check bytes are put one behind the other.
use Rattle.ash.proofs.WriteLaws.{put_together}
use Rattle.ash.proofs.writer.put_frame.Goals as goal

pub returns : goal.returns
returns c =
    put_together c.args.out.now c.args.sent.now c.args.payload.now c.args.control _ _ _ _
    c.header_escape.ensures
    c.sent_byte.ensures
    c.sent_byte-2.ensures
    c.check_bytes-check.ensures
    _ _ _
    c.put.ensures
    c.put-2.ensures
    c.put-3.ensures
