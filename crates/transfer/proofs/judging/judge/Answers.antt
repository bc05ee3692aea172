-- `transfer::judging::judge` meets its contract: a refused look refuses the packet.
use Rattle.std.specs.Prelude.{Err}
use Rattle.std.proofs.Common.{rules, ◌≡◌, sym}
use Rattle.packet.specs.Packet.{packet_of}
use Rattle.transfer.proofs.JudgeLaws.{verdict_refused}
use Rattle.transfer.proofs.judging.judge.Goals as goal

pub returns-in_err-locations : goal.returns-in_err-locations
returns-in_err-locations c =
    let passed : c.from_residual.result ≡ Err c.in_err-locations.field-0.0 = search rules in
    rw (passed, verdict_refused c.args.transfer c.args.room (packet_of c.args.packet.now) _ (sym c.in_err-locations.ensures))
