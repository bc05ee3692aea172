-- `packet::requests::write_packet` meets its contract: the four strings are put one behind the other.
use mathlib.Core.Path.{◌≡◌}
use Prim.Native.Nat.{◌/◌, ◌%◌}
use native.Mathlib.Omega.{arith}
use Rattle.packet.proofs.WriteLaws.{packet_short, packet_put}
use Rattle.packet.proofs.requests.write_packet.Goals as goal

pub returns-then-out-total : goal.returns-then-out-total
returns-then-out-total c =
    packet_short c.args.opcode c.args.id c.args.front.now c.args.value.now c.args.further.now c.args.out.now c.if-out-total.true

pub returns : goal.returns
returns c =
    let high : c.args.id / 256 % 256 ≡ c.args.id / 256 = omega arith in
    packet_put c.args.opcode c.args.id c.args.front.now c.args.value.now c.args.further.now c.args.out.now
    c.put.new.dst c.put-2.new.dst c.put-3.new.dst c.put-4.new.dst
    c.if-out-total.false
    (rw (c.to_be_bytes.ensures, high) at c.put.ensures) c.put-2.ensures c.put-3.ensures c.put-4.ensures
