use Rattle.std.proofs.Common.{arith, rules}
use Rattle.cases.proofs.InputLaws.{one_read}
use Rattle.cases.proofs.input.read_full.Goals as goal

pub loop-count-preserved : goal.loop-count-preserved
loop-count-preserved g c =
    let bound = c.in-Ok.ensures.bound in
    let consumed =
    one_read _ _ _ c.loop-count.buffer c.read.new.buf c.loop-count.count c.in-Ok.more (omega arith) (search rules) (omega arith) c.loop-count.invariant.2
    c.in-Ok.ensures.bytes.0 in
    (search rules, search rules, consumed)
