-- `session::answers::answer_data` meets its contract: an ACK is one frame, for which there is room behind what was sent.
use native.Mathlib.Omega.{arith}
use Rattle.session.proofs.FrameLaws.{one_counted}
use Rattle.session.proofs.answers.answer_data.Goals as goal

pub overflow_add-sent : goal.overflow_add-sent
overflow_add-sent c = omega (arith, c.requires, one_counted c.put_empty-acknowledged.ensures)
