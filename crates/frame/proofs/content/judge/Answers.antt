-- `frame::content::judge` meets its contract: each answer is the law of whole content for the tests that led there.
use mathlib.Core.Path.{sym, ◌∙◌}
use Prim.Native.Nat.{◌≤◌}
use native.Mathlib.Omega.{arith}
use lib.ListN.{length}
use Rattle.frame.proofs.ContentLaws.{length_payload, length_between, judged_short, judged_bad, judged_good}
use Rattle.frame.proofs.content.judge.Goals as goal

pub returns-in_default : goal.returns-in_default
returns-in_default c = rw (judged_short c.args.content.now (omega arith))

pub returns-then-check-ne0 : goal.returns-then-check-ne0
returns-then-check-ne0 c =
    let whole : 4 ≤ length c.args.content.now = omega arith in
    rw (judged_bad c.args.content.now whole (λ e. c.if-check-ne0.true (c.check.ensures ∙ e)))

pub returns : goal.returns
returns c =
    let whole : 4 ≤ length c.args.content.now = omega arith in
    rw (judged_good c.args.content.now whole (sym c.check.ensures ∙ c.if-check-ne0.false), length_payload c.args.content.now, length_between c.args.content.now)
