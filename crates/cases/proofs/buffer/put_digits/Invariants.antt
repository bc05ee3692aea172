-- `cases::buffer::put_digits` meets its contract. The invariant says what is still to do: the digits of the bytes left, put from the
-- present place on, give what those of all bytes put at the start give.
use Prim.Native.Nat.{◌*◌}
use Rattle.cases.specs.Buffer.{byte_digits}
use Rattle.slices.proofs.EachPut.{Putting}
use Rattle.cases.proofs.buffer.put_digits.Given as goal

abbrev pub invariant-loop-place : goal.invariant-loop-place
invariant-loop-place l = Putting byte_digits l.initial.out 0 l.bytes l.out (2 * l.place) l.place
