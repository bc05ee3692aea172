-- The bytes left fall with each call.
use Rattle.std.proofs.Common.{length}
use Rattle.frame.proofs.unstuffing.+read_escaped_read_plain.Given as goal

abbrev pub decreases-read_escaped : goal.decreases-read_escaped
decreases-read_escaped l = length l.sent.now

abbrev pub decreases-read_plain : goal.decreases-read_plain
decreases-read_plain l = length l.sent.now
