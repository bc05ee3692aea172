-- `frame::writer::put_stuffed` meets its contract. The invariant says what is still to do: the bytes left, stuffed and put from the
-- present place on, give what the whole string put at the start gives.
use Rattle.slices.proofs.EachPut.{Putting}
use Rattle.frame.specs.Stuffing.{stuff_byte}
use Rattle.frame.proofs.writer.put_stuffed.Given as goal

abbrev pub invariant-loop-byte : goal.invariant-loop-byte
invariant-loop-byte l = Putting stuff_byte l.initial.out l.at l.content l.out l.to l.byte-index
