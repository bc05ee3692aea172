-- `frame::reader::hand_out` meets its contract: what `judge` answered says what the content is, and its payload is what is put.
use native.Mathlib.Omega.{arith}
use Rattle.frame.proofs.ContentLaws.{FoundFrame, answer_frame, payload_part}
use Rattle.frame.proofs.reader.hand_out.Goals as goal
use Rattle.frame.proofs.reader.hand_out.Goals.{In_ok-frame}

found : (c : In_ok-frame) → FoundFrame c.args.content.now c.in_ok-frame.frame.kind c.in_ok-frame.frame.sequence c.in_ok-frame.frame.length
found c = answer_frame c.args.content.now _ _ _ c.in_ok-frame.ensures

pub overflow_add-end : goal.overflow_add-end
overflow_add-end c = omega (arith, found (goal.at.overflow_add-end c).In_ok-frame)

pub slice_bounds-put-end : goal.slice_bounds-put-end
slice_bounds-put-end c = omega (arith, found (goal.at.slice_bounds-put-end c).In_ok-frame)

pub returns : goal.returns
returns c =
    let f = found (goal.at.returns c).In_ok-frame in
    record {
      answers = c.in_ok-frame.ensures;
      output = rw (f.found, ← payload_part c.args.content.now c.in_ok-frame.frame.length f.whole f.size) c.put.ensures;
    }
