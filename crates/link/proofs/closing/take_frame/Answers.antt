-- `link::closing::take_frame` meets its contract: what `judge` answered says what the content is, and each type has its law.
use Rattle.std.proofs.Common.{arith}
use Rattle.link.proofs.ClosingLaws.{closes_refused, closes_data, closes_heard, closes_unknown, payload_ends}
use Rattle.link.proofs.closing.take_frame.Goals as goal

pub overflow_add-payload : goal.overflow_add-payload
overflow_add-payload c = let ends = payload_ends c.args.content.now _ _ _ c.in-Ok.ensures in omega arith

pub slice_bounds-payload-end : goal.slice_bounds-payload-end
slice_bounds-payload-end c = let ends = payload_ends c.args.content.now _ _ _ c.in-Ok.ensures in omega arith

pub returns-in-1 : goal.returns-in-1
returns-in-1 c =
    closes_data c.args.content.now c.args.state.last c.args.state.counts _ _ _ _ _ _ c.in-Ok.ensures _ _ c.in-1.is c.take_data.ensures

pub returns-in-2 : goal.returns-in-2
returns-in-2 c =
    closes_heard c.args.content.now c.args.state.last c.args.state.counts c.args.reply.now c.args.packet.now _ _ _ _ c.in-Ok.ensures c.in-2.is c.hear.ensures

pub returns-in-Err : goal.returns-in-Err
returns-in-Err c =
    closes_refused c.args.content.now c.args.state.last c.args.state.counts c.args.reply.now c.args.packet.now _ _ _ c.in-Err.ensures c.refuse.ensures

pub returns-in_default : goal.returns-in_default
returns-in_default c =
    closes_unknown c.args.content.now c.args.state.last c.args.state.counts c.args.reply.now c.args.packet.now _ _ _ _ c.in-Ok.ensures
    (λ e. omega arith) (λ e. omega arith) c.refuse_kind.ensures
