-- `board::list::watch` meets its contract: each way through it has its law.
use Rattle.std.proofs.Common.{sym, ◌∙◌, arith}
use Rattle.board.proofs.WatchLaws.{watch_bad, watch_again, watch_full, watch_first}
use Rattle.board.proofs.list.watch.Goals as goal

pub returns-then-not-valid_name : goal.returns-then-not-valid_name
returns-then-not-valid_name c = c.refused.ensures ∙ sym (watch_bad _ _ c.if-not-valid_name.ensures)

pub returns-then-is_some : goal.returns-then-is_some
returns-then-is_some c = c.refused-then-is_some.ensures ∙ sym (watch_again _ _ c.if-not-valid_name.ensures c.find.ensures c.if-is_some.ensures)

pub returns-in_default : goal.returns-in_default
returns-in_default c =
    c.refused-in_default.ensures ∙ sym (watch_full _ _ c.if-not-valid_name.ensures c.find.ensures c.if-is_some.ensures (omega arith) c.in_default.ensures)

pub returns : goal.returns
returns c =
    rw (c.put_row.ensures, c.fresh_row.ensures)
    (sym (watch_first _ _ c.if-not-valid_name.ensures c.find.ensures c.if-is_some.ensures (omega arith) c.in-Some.ensures))
