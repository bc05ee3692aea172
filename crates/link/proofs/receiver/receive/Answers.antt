-- `link::receiver::receive` meets its contract: a short buffer has its law; otherwise the walk and the frame that it ended
-- make the call.
use mathlib.Core.Logic.{inl, inr}
use Rattle.link.proofs.ReceivingLaws.{refuses_short, received}
use Rattle.link.proofs.receiver.receive.Goals as goal

pub returns-then-packet-lt-PAYLOAD_MAX : goal.returns-then-packet-lt-PAYLOAD_MAX
returns-then-packet-lt-PAYLOAD_MAX c =
    refuses_short c.args.link c.args.piece.now c.args.reply.now c.args.packet.now _ (inr c.if-packet-lt-PAYLOAD_MAX.true) c.short_output.ensures

pub returns-in_default : goal.returns-in_default
returns-in_default c =
    refuses_short c.args.link c.args.piece.now c.args.reply.now c.args.packet.now _ (inl c.in_default.ensures.cases) c.short_output-in_default.ensures

pub returns : goal.returns
returns c =
    let front = c.in-Some.ensures.cases in
    received c.args.link c.args.piece.now c.args.reply.now c.args.packet.now c.in-Some.reply.now _ _ _ _ _ front.enough c.if-packet-lt-PAYLOAD_MAX.false front.same
    c.walk-walked.ensures c.close-closed.ensures
