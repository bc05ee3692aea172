-- `session::ours::send_data` meets its contract: the writer has room enough, and what it refuses is refused.
use mathlib.Core.Path.{◌≡◌, ap, ◌∙◌}
use Rattle.session.specs.Counters.{next_of_ours}
use Rattle.session.specs.Control.{control_byte}
use Rattle.session.specs.State.{holding}
use Rattle.session.specs.Results.{done}
use Rattle.session.specs.Events.{send_given}
use Rattle.session.specs.declared.counters.OFC.{OFC}
use Rattle.session.specs.declared.control.Kind.TheVariants.{Ack}
use Rattle.session.specs.declared.state.Held.TheVariants.{Nothing}
use Rattle.session.specs.declared.state.Session.{Session}
use Rattle.session.proofs.EventLaws.{data_refused, data_sent}
use Rattle.session.proofs.ResultLaws.{refuses, gives}
use Rattle.session.proofs.ours.send_data.Goals as goal

pub returns-in-Err : goal.returns-in-Err
returns-in-Err c =
    let law = data_refused c.args.session c.args.payload.now c.args.output.now c.requires _ _ _ c.write_frame.ensures _ c.in-Err.is in
    rw law.1 (refuses c.args.session _ _ c.args.output.now _ law.0 c.refuse.ensures)

pub returns-in-Ok : goal.returns-in-Ok
returns-in-Ok c =
    let control-is : c.control_byte-control.result ≡ control_byte Ack (next_of_ours c.args.session.counter) c.args.session.good = c.control_byte-control.ensures ∙ ap (λ (n : OFC). control_byte Ack n c.args.session.good) c.next_of_ours-number.ensures in
    let law = data_sent c.args.session c.args.payload.now c.args.output.now c.requires _ _ _ c.write_frame.ensures _ c.in-Ok.is control-is in
    let next = c.hold-next.ensures ∙ ap (λ (n : OFC). holding c.args.session n c.args.payload.now) c.next_of_ours-number.ensures in
    gives c.args.session _ (send_given c.args.session c.args.payload.now) c.args.output.now _ _ _ law.0 law.1 (c.finish.ensures ∙ ap (λ (s : Session). done s c.in-Ok.length 0 Nothing) next)
