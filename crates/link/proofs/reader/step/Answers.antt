-- `link::reader::step` meets its contract: each way through it has its law.
use Rattle.std.proofs.Common.{◌+◌, ◌≤◌, arith}
use Rattle.frame.specs.Stuffing.{stands_for}
use Rattle.frame.proofs.UnstuffLaws.{plain_byte, escaped_byte}
use Rattle.link.proofs.ReaderLaws.{step_plain, step_escaped, escapes, faults, idles}
use Rattle.link.proofs.reader.step.Goals as goal

pub returns-in-125 : goal.returns-in-125
returns-in-125 c = escapes c.args.reader c.args.byte _ c.next_place-place.ensures c.args.content.now c.in-Plain.is c.in-125.is

pub returns-in_default : goal.returns-in_default
returns-in_default c =
    rw (step_plain c.args.reader c.args.byte _ c.next_place-place.ensures (stands_for c.args.byte) c.in-Plain.is (plain_byte c.args.byte (λ e. omega arith)))
    c.store.ensures

pub returns-in-94 : goal.returns-in-94
returns-in-94 c =
    let low : 0x5d ≤ c.args.byte = omega arith in
    let high : c.args.byte ≤ 0x5e = omega arith in
    rw (step_escaped c.args.reader c.args.byte _ c.next_place-place.ensures (stands_for (c.args.byte + 0x20)) c.in-Escaped.is (escaped_byte c.args.byte low high))
    c.store-in-94.ensures

pub returns-in_default-byte : goal.returns-in_default-byte
returns-in_default-byte c =
    faults c.args.reader c.args.byte _ c.next_place-place.ensures c.args.content.now c.in-Escaped.is (λ e. omega arith) (λ e. omega arith)

pub returns-in_default-byte-2 : goal.returns-in_default-byte-2
returns-in_default-byte-2 c =
    faults c.args.reader c.args.byte _ c.next_place-place.ensures c.args.content.now c.in-Escaped.is (λ e. omega arith) (λ e. omega arith)

pub returns-in-Before : goal.returns-in-Before
returns-in-Before c = idles c.args.reader c.args.byte c.args.content.now c.in-Before.is
