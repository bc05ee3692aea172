-- `transfer::parts::find_parts` meets its contract: a refused look is the refusal, and five looks tell of the parts.
use Rattle.std.specs.Prelude.{Err}
use Rattle.std.proofs.Common.{rules, ◌≡◌, ◌∙◌}
use Rattle.transfer.proofs.JudgeLaws.{parts_refused, looks_seen}
use Rattle.transfer.proofs.parts.find_parts.Goals as goal

pub returns-in_err-offsets : goal.returns-in_err-offsets
returns-in_err-offsets c =
    let passed : c.from_residual.result ≡ Err c.in_err-offsets.field-0.0 = search rules in
    passed ∙ parts_refused _ _ _ _ c.in_err-offsets.ensures

pub returns-in_err-binaries : goal.returns-in_err-binaries
returns-in_err-binaries c =
    let passed : c.from_residual-in_err-binaries.result ≡ Err c.in_err-binaries.field-0.0 = search rules in
    passed ∙ parts_refused _ _ _ _ c.in_err-binaries.ensures

pub returns-in_err-lengths : goal.returns-in_err-lengths
returns-in_err-lengths c =
    let passed : c.from_residual-in_err-lengths.result ≡ Err c.in_err-lengths.field-0.0 = search rules in
    passed ∙ parts_refused _ _ _ _ c.in_err-lengths.ensures

pub returns-in_err-ends : goal.returns-in_err-ends
returns-in_err-ends c =
    let passed : c.from_residual-in_err-ends.result ≡ Err c.in_err-ends.field-0.0 = search rules in
    passed ∙ parts_refused _ _ _ _ c.in_err-ends.ensures

pub returns : goal.returns
returns c = looks_seen _ _ _ _ _ _ c.in_ok-offsets.ensures c.in_ok-binaries.ensures c.in_ok-lengths.ensures c.in_ok-ends.ensures
