-- `bitwise_bench::check` meets its contract. The invariant says what is still to do: the bytes left, from the register as it is, give what
-- all of them give from the start.
use mathlib.Core.Path.{◌≡◌}
use lib.ListN.{drop}
use Rattle.crc.specs.Crc.{crc_of}
use Rattle.bitwise_bench.proofs.check.Given as goal

abbrev pub invariant-loop-byte : goal.invariant-loop-byte
invariant-loop-byte l = crc_of l.register (drop l.byte-index l.bytes) ≡ crc_of l.start l.bytes
