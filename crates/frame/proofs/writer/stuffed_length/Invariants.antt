-- `frame::writer::stuffed_length` meets its contract. The invariant says what is still to do: the sum so far with the stuffed
-- length of the bytes left is that of all. It fits, since no byte becomes more than two.
use mathlib.Core.Path.{◌≡◌}
use Prim.Native.Nat.{◌+◌}
use lib.ListN.{length, drop}
use Rattle.frame.specs.Stuffing.{stuff}
use Rattle.frame.proofs.writer.stuffed_length.Given as goal

abbrev pub invariant-loop-byte : goal.invariant-loop-byte
invariant-loop-byte l = l.total + length (stuff (drop l.byte-index l.content)) ≡ length (stuff l.content)
