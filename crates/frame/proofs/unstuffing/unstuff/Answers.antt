-- `frame::unstuffing::unstuff` meets its contract: what the readers answer for a refusal is above any length of content.
use Rattle.frame.proofs.ReadersLaws.{told_content, told_refusal}
use Rattle.frame.proofs.unstuffing.unstuff.Goals as goal

pub returns-then-answer-lt-PLACE_LIMIT : goal.returns-then-answer-lt-PLACE_LIMIT
returns-then-answer-lt-PLACE_LIMIT c = told_content _ _ _ _ c.read_plain-answer.ensures c.if-answer-lt-PLACE_LIMIT.true

pub returns : goal.returns
returns c = rw c.refusal_told.ensures (told_refusal _ _ _ _ c.read_plain-answer.ensures c.if-answer-lt-PLACE_LIMIT.false)
