-- `receive_bench::feed_piece` ends, since each call takes some of what is left.
use Rattle.std.proofs.Common.{length}
use Rattle.receive_bench.proofs.feed_piece.Given as goal

abbrev pub decreases-loop-left : goal.decreases-loop-left
decreases-loop-left l = length l.left
