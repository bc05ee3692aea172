-- `session::replies::take_reply` meets its contract: what is answered stands behind the frames that are sent again.
use mathlib.Core.Path.{ap, ◌∙◌}
use native.Mathlib.Omega.{arith}
use lib.ListN.{length}
use Rattle.session.specs.declared.state.Session.{Session}
use Rattle.session.specs.State.{covered, recorded_data}
use Rattle.session.specs.Results.{given}
use Rattle.session.proofs.FrameLaws.{repeats_counted}
use Rattle.session.proofs.ReceivingLaws.{answers_behind}
use Rattle.session.proofs.TakenLaws.{reply_heard_law}
use Rattle.session.proofs.replies.take_reply.Goals as goal

pub answer_data-requires : goal.answer_data-requires
answer_data-requires c = omega (arith, repeats_counted c.repeat-repeated.ensures)

pub returns : goal.returns
returns c =
    let is = ap given (reply_heard_law c.args.session c.args.control c.args.payload.now c.args.again c.if-session.false (rw c.in_order.ensures at c.if-not-in_order.false)) in
    let next = c.record_data-next.ensures ∙ ap (λ (s : Session). recorded_data s c.args.control.number (length c.args.payload.now)) c.cover-covering.ensures in
    answers_behind c.args.session (recorded_data (covered c.args.session c.args.control.acknowledged) c.args.control.number (length c.args.payload.now)) _ c.args.payload.now _ c.args.output.now _ c.args.handed.now _ _ _ _ is (rw next at c.repeat-repeated.ensures.puts) (rw next at c.answer_data.ensures)
