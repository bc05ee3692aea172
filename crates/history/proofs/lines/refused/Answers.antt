use Rattle.history.specs.Lines.{refused_word, space, labelled}
use Rattle.history.proofs.LineLaws.{line_begins, line_goes_on, line_ends}
use Rattle.history.proofs.lines.refused.Goals as goal

pub loop-count-init : goal.loop-count-init
loop-count-init c = line_begins (labelled space) refused_word c.args.counts.now c.args.out.now c.append-place.ensures

pub loop-count-preserved : goal.loop-count-preserved
loop-count-preserved c =
    let one = rw c.from.ensures at c.labelled-place.ensures in
    line_goes_on (labelled space) refused_word c.args.counts.now c.args.out.now c.loop-count.invariant c.loop-count-test.true one

pub returns : goal.returns
returns c = line_ends (labelled space) refused_word c.args.counts.now c.args.out.now c.loop-count.invariant c.loop-count-test.false c.append.ensures
