-- `host::arznavik_frame_check` meets its contract: the reader's answer, packed into a report; a payload's length fits its part.
use native.Mathlib.Omega.{arith}
use lib.ListN.{length}
use Rattle.frame.specs.Content.{payload_max}
use Rattle.frame.specs.Stuffing.{sent_max}
use Rattle.frame.specs.Reading.{read_frame}
use Rattle.frame.proofs.FrameTheorems.{read_bounded}
use Rattle.frame.proofs.RefusalLaws.{reader_place}
use Rattle.host.proofs.ReportLaws.{read_size, read_place}
use Rattle.host.proofs.arznavik_frame_check.Goals as goal

pub report-requires : goal.report-requires
report-requires c =
    let answers = c.in-Err.ensures.answers in
    let small = read_place (read_frame (length c.args.output.now) c.args.bytes.now) _ _ sent_max (λ n place. reader_place n place _ _) answers in
    (omega arith, omega (arith, small))

pub report-requires-in-Ok : goal.report-requires-in-Ok
report-requires-in-Ok c =
    let answers = c.in-Ok.ensures.answers in
    let small = read_size (read_frame (length c.args.output.now) c.args.bytes.now) _ _ _ payload_max (read_bounded _ _) answers in
    (omega (arith, small), omega arith)
