-- `replay::read::take` takes what its call takes: the display says so of each of its calls.
use Rattle.display.proofs.TakingLaws.{takes}
use Rattle.replay.proofs.read.take.Goals as goal

pub returns : goal.returns
returns g c = takes _ _ _ _ _ _ _ c.receive-received.ensures
