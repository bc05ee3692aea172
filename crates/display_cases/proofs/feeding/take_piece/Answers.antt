-- `display_cases::feeding::take_piece` takes what its call takes: the display says so of each of its calls.
use Rattle.display.proofs.TakingLaws.{takes}
use Rattle.display_cases.proofs.feeding.take_piece.Goals as goal

pub returns : goal.returns
returns g c = takes _ _ _ _ _ _ _ c.receive-received.ensures
