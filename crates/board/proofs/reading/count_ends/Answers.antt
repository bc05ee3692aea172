-- `board::reading::count_ends` meets its contract: it counts the EOF items that a look counts.
use Rattle.std.proofs.Common.{rules, ◌∙◌}
use Rattle.packet.specs.ItemTypes.{eof_kind}
use Rattle.packet.specs.Packet.{packet_of, packet_items}
use Rattle.packet.specs.declared.reading.Look.{Look}
use Rattle.packet.proofs.PacketLaws.{seen_in, count_seen}
use Rattle.board.proofs.reading.count_ends.Goals as goal

pub returns : goal.returns
unfolding packet_items
returns c =
    seen_in (λ (look : Look). look.count) 0 c.look_for.result c.map_or.result (search rules)
    ∙ rw c.look_for.ensures (count_seen eof_kind (packet_of c.args.packet.now))
