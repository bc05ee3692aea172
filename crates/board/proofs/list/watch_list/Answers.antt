-- `board::list::watch_list` meets its contract: each way through a turn has its law.
use Rattle.std.proofs.Common.{refl, [], arith}
use Rattle.std.proofs.lemmas.Grind.{common_steps}
use Rattle.board.proofs.NameLaws.{good_none}
use Rattle.board.proofs.FieldLaws.{field_shorter, reached_bad, reached_refused, reached_next, reached_end}
use Rattle.board.proofs.list.watch_list.Goals as goal

pub loop-rest-init : goal.loop-rest-init
loop-rest-init c = record { names = []; good = good_none; is = c.fresh-board.ensures; still = refl }

pub returns-in_default : goal.returns-in_default
returns-in_default c = rw (c.refused.ensures, c.fresh.ensures, reached_bad c.loop-rest.invariant (grind (arith, common_steps)) c.in_default.ensures)

pub returns-then-is_err : goal.returns-then-is_err
returns-then-is_err c =
    rw (c.refused-then-is_err.ensures, c.fresh-then-is_err.ensures, reached_refused c.loop-rest.invariant c.in-Some.ensures c.watch-watched.ensures c.if-is_err.ensures.value)

pub loop-rest-smaller : goal.loop-rest-smaller
loop-rest-smaller c = field_shorter c.in-Some.name.now c.in-Some.behind.now c.loop-rest.rest.now c.in-Some.ensures

pub loop-rest-preserved : goal.loop-rest-preserved
loop-rest-preserved c = reached_next c.loop-rest.invariant c.in-Some.ensures c.watch-watched.ensures c.if-is_err.ensures.value

pub returns : goal.returns
returns c = reached_end c.loop-rest.invariant (grind (arith, common_steps))
