use Rattle.std.proofs.Common.{rules}
use Rattle.cases.proofs.BufferLaws.{written_by}
use Rattle.cases.proofs.buffer.written.Goals as goal

pub returns-clause-value : goal.returns-clause-value
returns-clause-value c = rw (← written_by c.args.buffer.now c.last_touched.result c.last_touched.ensures) (search rules)
