-- `packet::reading::read_packet` meets its contract: it answers the head that a look answers.
use Rattle.std.proofs.Common.{rules, ◌∙◌, sym}
use Rattle.packet.specs.ItemTypes.{eof_kind}
use Rattle.packet.specs.Packet.{packet_of}
use Rattle.packet.proofs.PacketLaws.{heads_in, head_seen}
use Rattle.packet.proofs.reading.read_packet.Goals as goal

pub returns : goal.returns
returns c = heads_in c.look_for.result c.map.result (search rules) ∙ rw c.look_for.ensures (sym (head_seen eof_kind (packet_of c.args.s.now)))
