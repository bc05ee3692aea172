-- `history::lines::refused` meets its contract: each turn appends a number.
use Rattle.history.specs.Lines.{refused_word, space, labelled}
use Rattle.history.proofs.LineLaws.{Line}
use Rattle.history.proofs.lines.refused.Given as goal

abbrev pub invariant-loop-count : goal.invariant-loop-count
invariant-loop-count l = Line (labelled space) refused_word l.counts l.fn.out l.count-index l.out l.place
