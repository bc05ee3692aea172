-- `board::reading::read` meets its contract: the verdict is the one that the task comes to.
use Rattle.std.proofs.Common.{arith}
use Rattle.std.proofs.lemmas.Grind.{common_steps}
use Rattle.board.specs.Reading.{if_watched, applied, reading_of, read_board}
use Rattle.board.specs.ReadingSteps.{read_update}
use Rattle.board.proofs.ReadingLaws.{by_task}
use Rattle.board.proofs.reading.read.Goals as goal

pub returns-in-Ok-Finish : goal.returns-in-Ok-Finish
unfolding read_board reading_of if_watched applied
returns-in-Ok-Finish c = grind (arith, common_steps, by_task)

pub returns-in-Ok-Apply : goal.returns-in-Ok-Apply
unfolding read_board reading_of read_update
returns-in-Ok-Apply c = grind (arith, common_steps, by_task)

pub returns-in-Err : goal.returns-in-Err
unfolding read_board reading_of if_watched applied
returns-in-Err c = grind (arith, common_steps, by_task)
