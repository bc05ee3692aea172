-- `frame::reader::read_frame` meets its contract: each refusal is the law of its test; otherwise it is what `read_run` did with the
-- bytes between the flags.
use mathlib.Core.Path.{◌≡◌}
use mathlib.Core.Bool.{true}
use native.Mathlib.Omega.{arith}
use lib.ListN.{length}
use Rattle.refusals.specs.Numbers.{short_output}
use Rattle.frame.specs.Content.{no_place}
use Rattle.frame.specs.Reading.{flagged_bytes}
use Rattle.frame.proofs.ReadLaws.{frame_no_room, frame_run, between_part, refuses}
use Rattle.frame.proofs.FlagLaws.{Flags, unflagged_read, flags_none, flags_some}
use Rattle.frame.proofs.reader.read_frame.Goals as goal

pub returns-then-out-lt-PAYLOAD_MAX : goal.returns-then-out-lt-PAYLOAD_MAX
returns-then-out-lt-PAYLOAD_MAX c =
    refuses _ short_output no_place c.args.out.now (frame_no_room (length c.args.out.now) c.args.bytes.now c.if-out-lt-PAYLOAD_MAX.true)

pub returns-in-126 : goal.returns-in-126
returns-in-126 c =
    let flags : flagged_bytes c.args.bytes.now ≡ true = flags_none c.args.bytes.now (omega arith) (omega arith) (omega arith) c.if-not-contains.ensures.cases in
    let found = frame_run (length c.args.out.now) c.args.bytes.now c.if-out-lt-PAYLOAD_MAX.false flags in
    rw (found, ← between_part c.args.bytes.now) c.read_run.ensures

pub returns-in_default : goal.returns-in_default
returns-in_default c =
    unflagged_read c.args.bytes.now c.args.out.now c.if-out-lt-PAYLOAD_MAX.false (λ (f : Flags c.args.bytes.now). omega arith)

pub returns-in_default-2 : goal.returns-in_default-2
returns-in_default-2 c =
    unflagged_read c.args.bytes.now c.args.out.now c.if-out-lt-PAYLOAD_MAX.false (flags_some c.args.bytes.now c.if-not-contains.ensures.cases)

pub returns-in_default-3 : goal.returns-in_default-3
returns-in_default-3 c =
    unflagged_read c.args.bytes.now c.args.out.now c.if-out-lt-PAYLOAD_MAX.false (λ (f : Flags c.args.bytes.now). omega arith)

pub returns-in_default-4 : goal.returns-in_default-4
returns-in_default-4 c =
    unflagged_read c.args.bytes.now c.args.out.now c.if-out-lt-PAYLOAD_MAX.false (λ (f : Flags c.args.bytes.now). omega arith)
