-- `crc::check_by_two` meets its contract. The invariant says what is still to do: the bytes left, from the register as it is, give what
-- all of them give from the start.
use mathlib.Core.Path.{◌≡◌}
use Prim.Native.Nat.{◌*◌}
use lib.ListN.{drop}
use Rattle.crc.specs.Crc.{crc_of}
use Rattle.crc.proofs.check_by_two.Given as goal

abbrev pub invariant-loop-first : goal.invariant-loop-first
invariant-loop-first l = crc_of l.register (drop (l.first-index * 2) l.bytes) ≡ crc_of l.start l.bytes
