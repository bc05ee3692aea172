use Rattle.std.proofs.Common.{◌≡◌, refl, arith}
use Rattle.history.specs.Numbers.{decimal_of}
use Rattle.history.proofs.NumberLaws.{text_from, next_digit, first_digit, all_digits}
use Rattle.history.proofs.AppendingLaws.{appends_same}
use Rattle.history.proofs.text.decimal.Goals.{else-loop-left-test, then-loop-left-test+then-rest-eq0}
use Rattle.history.proofs.text.decimal.Goals as goal

pub loop-left-init : goal.loop-left-init
loop-left-init c = ((refl, refl), refl)

pub loop-left-preserved : goal.loop-left-preserved
loop-left-preserved c =
    (next_digit c.args.number c.loop-left.digits c.loop-left.left c.loop-left.rest (omega arith) (omega arith) c.if-rest-eq0.false c.loop-left.invariant.0, c.loop-left.invariant.1)

pub slice_bounds-append-count : goal.slice_bounds-append-count
slice_bounds-append-count c =
    elim c.loop-left-test.branch [
      | else-loop-left-test w ↦ rw (w.first-is, c.loop-left.invariant.1) (omega arith)
      | then-loop-left-test+then-rest-eq0 w ↦ rw w.first-is (omega arith)
    ]

pub returns : goal.returns
returns c =
    let text : text_from c.loop-left-test.first c.loop-left-test.digits ≡ decimal_of c.args.number =
    elim c.loop-left-test.branch [
      | else-loop-left-test w ↦
          rw (w.first-is, w.digits-is, c.loop-left.invariant.1)
          (all_digits c.args.number c.loop-left.digits c.loop-left.left c.loop-left.rest w.loop-left-test.false c.loop-left.invariant.0)
      | then-loop-left-test+then-rest-eq0 w ↦
          rw (w.first-is, w.digits-is)
          (first_digit c.args.number c.loop-left.digits c.loop-left.left c.loop-left.rest w.loop-left-test.true (omega arith) w.if-rest-eq0.true c.loop-left.invariant.0)
    ] in
    appends_same text c.append.ensures
