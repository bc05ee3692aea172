-- `link::data::take_data` meets its contract: what it calls answers for the reply, the counts and the packet.
use Rattle.std.proofs.Common.{sym, ◌∙◌}
use Rattle.link.proofs.ClosingLaws.{closes_again, closes_new}
use Rattle.link.proofs.data.take_data.Goals as goal

pub returns-then-repeated : goal.returns-then-repeated
returns-then-repeated c =
    rw c.counted.ensures
    (closes_again c.args.sequence c.args.payload.now c.args.state.last c.args.state.counts _ c.args.reply.now c.args.packet.now _ c.args.packet.now c.acknowledge-length.ensures
    (sym c.repeated.ensures ∙ c.if-repeated.true))

pub returns : goal.returns
returns c =
    rw c.counted-2.ensures
    (closes_new c.args.sequence c.args.payload.now c.args.state.last c.args.state.counts _ c.args.reply.now c.args.packet.now _ _ c.acknowledge-length.ensures
    (sym c.repeated.ensures ∙ c.if-repeated.false) c.put.ensures)
