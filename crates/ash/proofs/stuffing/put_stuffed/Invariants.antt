-- `ash::stuffing::put_stuffed` meets its contract. The invariant says what is still to do: the bytes left, stuffed and put from the
-- present place on, give what the whole payload put at the start gives.
use Rattle.slices.proofs.EachPut.{Putting}
use Rattle.ash.specs.Stuffing.{stuff_byte}
use Rattle.ash.proofs.stuffing.put_stuffed.Given as goal

abbrev pub invariant-loop-byte : goal.invariant-loop-byte
invariant-loop-byte l = Putting stuff_byte l.initial.out 0 l.payload l.out l.to l.byte-index
