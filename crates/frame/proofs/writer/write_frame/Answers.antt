-- `frame::writer::write_frame` meets its contract: the check goes on over the payload from that of type and sequence, and what
-- `put_frame` writes are the parts of the content.
use mathlib.Core.Path.{◌≡◌}
use Prim.Native.Nat.{◌/◌, ◌%◌}
use native.Mathlib.Omega.{arith}
use lib.ListN.{length}
use Rattle.refusals.specs.Numbers.{long_payload}
use Rattle.slices.proofs.WrittenLaws.{refuses}
use Rattle.crc.specs.Crc.{check_bytes}
use Rattle.frame.proofs.WriteLaws.{content_parts, payload_too_long, payload_allowed}
use Rattle.frame.proofs.writer.write_frame.Goals as goal

pub returns-then-payload-gt-PAYLOAD_MAX : goal.returns-then-payload-gt-PAYLOAD_MAX
returns-then-payload-gt-PAYLOAD_MAX c =
    refuses _ long_payload c.args.out.now (payload_too_long (length c.args.out.now) c.args.kind c.args.sequence c.args.payload.now c.if-payload-gt-PAYLOAD_MAX.true)

pub returns : goal.returns
returns c =
    let high : c.check-check.result / 256 % 256 ≡ c.check-check.result / 256 = omega arith in
    let tail : c.to_be_bytes.result ≡ check_bytes c.check-check.result = rw high at c.to_be_bytes.ensures in
    rw (payload_allowed (length c.args.out.now) c.args.kind c.args.sequence c.args.payload.now c.if-payload-gt-PAYLOAD_MAX.false, content_parts c.args.kind c.args.sequence c.args.payload.now)
    (rw (tail, c.check-check.ensures, c.check_pair.ensures) at c.put_frame.ensures)
