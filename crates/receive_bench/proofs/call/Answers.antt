-- `receive_bench::call` takes what the display's call takes: the display says so of each of its calls with buffers of at least these sizes.
use Rattle.std.proofs.Common.{arith, length}
use Rattle.display.proofs.TakingLaws.{takes_some}
use Rattle.receive_bench.proofs.call.Goals as goal

pub returns : goal.returns
returns c =
    takes_some c.args.display c.args.piece.now (length c.args.buffers.now.reply) (length c.args.buffers.now.packet) _ _ _ _ c.receive.result (omega arith) (omega arith) c.receive.ensures
