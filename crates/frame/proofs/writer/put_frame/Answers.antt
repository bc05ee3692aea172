-- `frame::writer::put_frame` meets its contract: the lengths of the stuffed parts add up to the frame's, and the parts put one
-- behind the other are the frame.
use mathlib.Core.Path.{◌≡◌, sym}
use mathlib.Core.List.{◌++◌}
use Prim.Native.Nat.{◌+◌}
use native.Mathlib.Omega.{arith}
use lib.ListN.{length}
use Rattle.refusals.specs.Numbers.{short_output}
use Rattle.frame.specs.Writing.{framed}
use Rattle.slices.proofs.WrittenLaws.{refuses, writes}
use Rattle.frame.proofs.WriteLaws.{framed_length, assembled, content_no_room, content_room}
use Rattle.frame.proofs.writer.put_frame.Goals as goal
use Rattle.frame.proofs.writer.put_frame.Goals.{After-stuffed_length-tail_length}

-- the frame's length, from those of its parts
whole : (c : After-stuffed_length-tail_length)
    → length (framed (c.args.head.now ++ c.args.payload.now ++ c.args.tail.now))
    ≡ 2 + c.stuffed_length-head_length.result + c.stuffed_length-payload_length.result + c.stuffed_length-tail_length.result
whole c = omega (arith, framed_length c.args.head.now c.args.payload.now c.args.tail.now)

pub returns-then-out-length : goal.returns-then-out-length
returns-then-out-length c =
    refuses _ short_output c.args.out.now
    (content_no_room (length c.args.out.now) (c.args.head.now ++ c.args.payload.now ++ c.args.tail.now) _
    (whole (goal.at.returns-then-out-length c).After-stuffed_length-tail_length) c.if-out-length.true)

pub returns : goal.returns
returns c =
    let size = whole (goal.at.returns c).After-stuffed_length-tail_length in
    writes _ (framed (c.args.head.now ++ c.args.payload.now ++ c.args.tail.now)) c.args.out.now _ _
    (content_room (length c.args.out.now) (c.args.head.now ++ c.args.payload.now ++ c.args.tail.now) _ size c.if-out-length.false)
    (sym size)
    (assembled c.args.out.now c.args.head.now c.args.payload.now c.args.tail.now _ _ _ _ _ _
    c.put_stuffed-payload_at.ensures.0 c.put_stuffed-tail_at.ensures.0 c.put_stuffed-end.ensures.0
    c.put_stuffed-payload_at.ensures.1 c.put_stuffed-tail_at.ensures.1 c.put_stuffed-end.ensures.1)
