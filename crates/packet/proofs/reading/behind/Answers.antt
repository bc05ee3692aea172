-- `packet::reading::behind` meets its contract: it finds what a look finds.
use Rattle.std.proofs.Common.{rules, ◌∙◌}
use Rattle.packet.specs.Packet.{packet_of, packet_items}
use Rattle.packet.specs.declared.reading.Look.{Look}
use Rattle.packet.proofs.PacketLaws.{found_in, behind_seen}
use Rattle.packet.proofs.reading.behind.Goals as goal

pub returns : goal.returns
unfolding packet_items
returns c =
    found_in (λ (look : Look). look.behind) c.look_for.result c.and_then.result (search rules)
    ∙ rw c.look_for.ensures (behind_seen c.args.kind (packet_of c.args.s.now))
