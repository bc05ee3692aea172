-- `packet::items::read_items` meets its contract: each way through a turn has its law of ReaderLaws.
use mathlib.Core.Path.{sym, ◌∙◌}
use native.Mathlib.Omega.{arith}
use Rattle.packet.proofs.ReaderLaws.{Passed, reached_first, reached_broken, reached_last, item_read}
use Rattle.packet.proofs.items.read_items.Goals.{In_ok-item}
use Rattle.packet.proofs.items.read_items.Goals as goal

pub loop-at-init : goal.loop-at-init
loop-at-init c = rw c.no_items-survey.ensures (reached_first c.args.s.now c.args.wanted c.requires)

pub item_at-requires : goal.item_at-requires
item_at-requires c = c.loop-at.invariant.within

pub returns-in_err-item : goal.returns-in_err-item
returns-in_err-item c =
    c.from_residual.ensures ∙ reached_broken c.args.s.now c.args.wanted c.loop-at.survey c.loop-at.at c.loop-at.invariant c.loop-at-test.true (sym c.in_err-item.ensures)

-- the item that was found here
passed : (c : In_ok-item) → Passed c.args.s.now c.args.wanted c.loop-at.survey c.loop-at.at c.in_ok-item.item
passed c = item_read c.args.s.now c.args.wanted c.loop-at.survey c.loop-at.at c.loop-at.invariant c.in_ok-item.item (sym c.in_ok-item.ensures)

pub overflow_add-at : goal.overflow_add-at
overflow_add-at c = let fits = (passed (goal.at.overflow_add-at c).In_ok-item).reached.within in omega arith

pub loop-at-smaller : goal.loop-at-smaller
loop-at-smaller c =
    let fits = (passed (goal.at.loop-at-smaller c).In_ok-item).reached.within in
    let more = (passed (goal.at.loop-at-smaller c).In_ok-item).further in
    omega arith

pub loop-at-preserved : goal.loop-at-preserved
loop-at-preserved c = rw c.with_item.ensures (passed (goal.at.loop-at-preserved c).In_ok-item).reached

pub returns : goal.returns
returns c =
    reached_last c.args.s.now c.args.wanted c.loop-at.survey c.loop-at.at c.loop-at.invariant (omega (arith, c.loop-at-test.false))
