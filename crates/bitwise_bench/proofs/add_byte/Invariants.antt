-- `bitwise_bench::add_byte` meets its contract. The invariant says what is still to do: the bits left, shifted out of the register as it
-- is, give what all eight give.
use mathlib.Core.Path.{◌≡◌}
use Prim.Native.Nat.{◌-◌}
use Rattle.crc.specs.Crc.{shift_bits}
use Rattle.bitwise_bench.proofs.add_byte.Given as goal

abbrev pub invariant-loop : goal.invariant-loop
invariant-loop l = shift_bits (8 - l.counter) l.next ≡ shift_bits 8 l.initial.next
