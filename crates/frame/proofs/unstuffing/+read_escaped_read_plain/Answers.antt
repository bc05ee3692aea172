-- `frame::unstuffing::read_plain` and `read_escaped` meet their contracts. Each answer is the law of unstuffing for what the byte means, on
-- what the call for the rest gave.
use native.Mathlib.Omega.{arith}
use Rattle.std.proofs.Common.{get_or}
use Rattle.frame.specs.Stuffing.{plain, escaped}
use Rattle.frame.proofs.UnstuffLaws.{plain_byte, escaped_byte}
use Rattle.frame.proofs.ReadersLaws.{ends_plain, reads_escape, reads_fault, reads_byte, reads_full}
use Rattle.frame.proofs.unstuffing.+read_escaped_read_plain.Goals as goal

pub read_escaped-returns-then-held-lt-CONTENT_MAX : goal.read_escaped-returns-then-held-lt-CONTENT_MAX
read_escaped-returns-then-held-lt-CONTENT_MAX t c =
    reads_byte _ _ _ _ c.in-94.len_at_least escaped _ (escaped_byte _ (omega arith) (omega arith)) c.if-held-lt-CONTENT_MAX.true _ _ c.read_plain.ensures

pub read_escaped-returns-else-held-lt-CONTENT_MAX : goal.read_escaped-returns-else-held-lt-CONTENT_MAX
read_escaped-returns-else-held-lt-CONTENT_MAX t c =
    reads_full _ _ _ _ c.in-94.len_at_least escaped _ (escaped_byte (get_or c.args.sent.now 0 0) (omega arith) (omega arith)) c.if-held-lt-CONTENT_MAX.false

pub read_escaped-returns-in_default : goal.read_escaped-returns-in_default
read_escaped-returns-in_default t c = reads_fault _ _ _ _ (grind arith)

pub read_plain-returns-in-empty : goal.read_plain-returns-in-empty
read_plain-returns-in-empty t c = ends_plain _ _ _ _ (omega arith)

pub read_plain-returns-in-125 : goal.read_plain-returns-in-125
read_plain-returns-in-125 t c = reads_escape _ _ _ _ c.in-125.len_at_least (omega arith) _ _ c.read_escaped.ensures

pub read_plain-returns-in-len1-up : goal.read_plain-returns-in-len1-up
read_plain-returns-in-len1-up t c =
    reads_byte _ _ _ _ c.in-len1-up.len_at_least plain _ (plain_byte _ (λ e. omega arith)) c.if-held-lt-CONTENT_MAX.true _ _ c.read_plain.ensures

pub read_plain-returns-in_default : goal.read_plain-returns-in_default
read_plain-returns-in_default t c =
    reads_full _ _ _ _ c.in-len1-up.len_at_least plain _ (plain_byte _ (λ e. omega arith)) c.if-held-lt-CONTENT_MAX.false
