-- `packet::items::read_items` meets its contract. The invariant says where the reader stands, and the bytes left fall by the item read.
use Prim.Native.Nat.{◌-◌}
use lib.ListN.{length}
use Rattle.packet.proofs.ReaderLaws.{Reached}
use Rattle.packet.proofs.items.read_items.Given as goal

abbrev pub invariant-loop-at : goal.invariant-loop-at
invariant-loop-at l = Reached l.s l.wanted l.survey l.at

abbrev pub decreases-loop-at : goal.decreases-loop-at
decreases-loop-at l = length l.s - l.at
