use Rattle.std.proofs.Common.{◌-◌, take, drop, length, arith, rules}
use Rattle.std.proofs.lemmas.List.{set-get_or}
use Rattle.cases.specs.Line.{bytes_of}
use Rattle.cases.proofs.LineLaws.{no_colon, behind_colon, one_group, short}
use Rattle.cases.proofs.ReadingLaws.{next_stored, none_left, full}
use Rattle.cases.proofs.line.bytes.Goals as goal

pub returns-in_default-clause-out_after : goal.returns-in_default-clause-out_after
returns-in_default-clause-out_after c = rw (no_colon c.args.line.now c.in_default.ensures) (search rules)

pub returns-in_default-clause-value : goal.returns-in_default-clause-value
returns-in_default-clause-value c = rw (no_colon c.args.line.now c.in_default.ensures) (search rules)

pub returns-in_default-left : goal.returns-in_default-left
returns-in_default-left c =
    let none = none_left c.loop-count.invariant (short _ c.in_default-left.len_below) (omega arith) in
    let read = rw (behind_colon c.args.line.now c.in-Some.colon c.in-Some.ensures) at none in
    rw (set-get_or c.loop-count.out c.loop-count.count 0) (record { out_after = read.0; value = read.1; prefix_len = search rules })

pub loop-count-preserved : goal.loop-count-preserved
loop-count-preserved c =
    let left = c.loop-count.left.now in
    next_stored c.loop-count.invariant c.byte.result (bytes_of (take (length left - 3) (drop 3 left)))
    (rw c.byte.ensures (one_group left c.in-len3-up.len_at_least)) (omega arith)

pub returns : goal.returns
returns c =
    let all = full c.loop-count.invariant (omega arith) in
    let read = rw (behind_colon c.args.line.now c.in-Some.colon c.in-Some.ensures) at all in
    record { out_after = read.0; value = read.1; prefix_len = search rules }
