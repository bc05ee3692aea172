-- `crc::check` meets its contract. The invariant says what is still to do: the bytes left, from the register as it is, give what
-- all of them give from the start.
use mathlib.Core.Path.{◌≡◌}
use Prim.Native.Nat.{◌*◌}
use lib.ListN.{drop}
use Rattle.crc.specs.Crc.{crc_of}
use Rattle.crc.proofs.check.Given as goal

abbrev pub invariant-loop-eight : goal.invariant-loop-eight
invariant-loop-eight l = crc_of l.register (drop (l.eight-index * 8) l.bytes) ≡ crc_of l.start l.bytes
