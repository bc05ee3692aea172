-- `host::arznavik_frame_write` meets its contract: the writer's answer, packed into a report; a frame's length fits its part.
use Prim.Native.Nat.{◌+◌, ◌*◌}
use native.Mathlib.Omega.{arith}
use lib.ListN.{length}
use Rattle.frame.specs.Stuffing.{content_max}
use Rattle.frame.specs.Writing.{write_frame}
use Rattle.frame.proofs.FrameTheorems.{written_bounded}
use Rattle.host.proofs.ReportLaws.{write_size}
use Rattle.host.proofs.arznavik_frame_write.Goals as goal

pub report-requires-in-Ok : goal.report-requires-in-Ok
report-requires-in-Ok c =
    let room = length c.args.output.now in
    let answers = c.in-Ok.ensures.answers in
    let bounded = written_bounded room c.args.kind c.args.sequence c.args.payload.now in
    let small = write_size (write_frame room c.args.kind c.args.sequence c.args.payload.now) _ (2 + 2 * content_max) bounded answers in
    (omega (arith, small), omega arith)
