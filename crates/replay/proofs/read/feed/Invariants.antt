-- `replay::read::feed` ends, since each call takes some of what is left.
use Rattle.std.proofs.Common.{length}
use Rattle.replay.proofs.read.feed.Given as goal

abbrev pub decreases-loop-left : goal.decreases-loop-left
decreases-loop-left g l = length l.left
