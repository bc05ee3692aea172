-- `packet::reading::count_all` meets its contract: it counts the items that a look counts.
use Rattle.std.proofs.Common.{rules, ◌∙◌}
use Rattle.packet.specs.Packet.{packet_of, packet_items}
use Rattle.packet.specs.declared.reading.Look.{Look}
use Rattle.packet.specs.ItemTypes.{eof_kind}
use Rattle.packet.proofs.PacketLaws.{seen_in, all_seen}
use Rattle.packet.proofs.reading.count_all.Goals as goal

pub returns : goal.returns
unfolding packet_items
returns c =
    seen_in (λ (look : Look). look.all) 0 c.look_for.result c.map_or.result (search rules)
    ∙ rw c.look_for.ensures (all_seen eof_kind (packet_of c.args.s.now))
