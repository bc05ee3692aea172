-- `link::data::acknowledge` meets its contract: nine bytes are room for any acknowledgement, so the writer refuses none.
use Rattle.std.proofs.Common.{arith}
use Rattle.link.proofs.ClosingLaws.{acknowledged}
use Rattle.link.proofs.data.acknowledge.Goals as goal

pub returns : goal.returns
returns c = rw c.unwrap_or.ensures (acknowledged c.args.sequence c.args.reply.now _ _ (omega arith) c.write_frame.ensures)
