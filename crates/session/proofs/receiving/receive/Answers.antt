-- `session::receiving::receive` meets its contract: what `read_frame` answered says which frame it is.
use mathlib.Core.Path.{ap, ◌∙◌}
use lib.ListN.{length, replicate}
use Rattle.ash.specs.Stuffing.{payload_max}
use Rattle.session.specs.Results.{given}
use Rattle.session.proofs.EventLaws.{receive_goes}
use Rattle.session.proofs.TakenLaws.{read_taken}
use Rattle.session.proofs.receiving.receive.Goals as goal

pub returns-in-Ok : goal.returns-in-Ok
returns-in-Ok c =
    let a = c.args in
    let goes = receive_goes a.session (length a.output.now) a.frame.now (length a.payload.now) c.if-output-lt-OUTPUT_ROOM.false c.if-payload-lt-PAYLOAD_MAX.false in
    let taken = read_taken a.session a.frame.now (replicate payload_max 0) _ _ _ c.in-Ok.ensures in
    rw (goes ∙ ap given taken) (rw (c.read_control-said.ensures, c.first.ensures) at c.take_frame.ensures)
