use Rattle.slices.proofs.Impossible.{impossible}
use Rattle.ash.proofs.UnstuffLaws.{escape_read, byte_read, fault_read, escape_last, all_held}
use Rattle.ash.proofs.stuffing.unstuff.Goals as goal
use Rattle.ash.proofs.stuffing.unstuff.Goals.{else-not-escaped-via-then-not-escaped+else-byte-eq-ESCAPE, else-not-escaped-via-else-not-escaped}

pub loop-byte-preserved-then-byte-eq-ESCAPE : goal.loop-byte-preserved-then-byte-eq-ESCAPE
loop-byte-preserved-then-byte-eq-ESCAPE c = escape_read c.loop-byte.invariant c.loop-byte-test.true c.if-not-escaped.true c.if-byte-eq-ESCAPE.true

pub returns-then-not-rightly_escaped-clause-read : goal.returns-then-not-rightly_escaped-clause-read
returns-then-not-rightly_escaped-clause-read c =
    let fault = fault_read c.loop-byte.invariant c.loop-byte-test.true in
    elim c.else-not-escaped.branch [
      | else-not-escaped-via-then-not-escaped+else-byte-eq-ESCAPE w ↦ fault (λ e. w.if-byte-eq-ESCAPE.false) c.if-not-rightly_escaped.ensures
      | else-not-escaped-via-else-not-escaped w ↦ fault (λ e is. impossible cc) c.if-not-rightly_escaped.ensures
    ]

pub loop-byte-preserved : goal.loop-byte-preserved
loop-byte-preserved c = byte_read c.loop-byte.invariant c.loop-byte-test.true c.if-not-rightly_escaped.ensures _ c.unescape.ensures

pub returns-then-escaped-clause-read : goal.returns-then-escaped-clause-read
returns-then-escaped-clause-read c = escape_last c.loop-byte.invariant c.loop-byte-test.false c.if-escaped.true

pub returns-else-escaped-clause-read : goal.returns-else-escaped-clause-read
returns-else-escaped-clause-read c = all_held c.loop-byte.invariant c.loop-byte-test.false c.if-escaped.false
