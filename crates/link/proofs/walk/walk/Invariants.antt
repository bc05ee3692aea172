-- `link::walk::walk` meets its contract. The invariant says what is still to do: the walk over the rest of the piece, from
-- the present content and reader on, comes to where the walk over the whole piece comes.
use Rattle.std.proofs.Common.{◌≡◌, drop}
use Rattle.link.specs.Walk.{walk_of}
use Rattle.link.proofs.walk.walk.Given as goal

abbrev pub invariant-loop-i : goal.invariant-loop-i
invariant-loop-i l = walk_of (drop l.i l.piece) l.content l.next l.i ≡ walk_of l.piece l.initial.content l.initial.next 0
