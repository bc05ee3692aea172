-- `frame::reader::read_run` meets its contract: what `unstuff` answered says what the run is; the array holds unstuffed content, and
-- what `hand_out` did with it is what is read.
use mathlib.Core.Path.{refl, sym}
use lib.ListN.{replicate}
use lib.Seq.{length-take-le}
use Rattle.std.proofs.lemmas.Result.{err_from_is_err_and}
use Rattle.frame.specs.Stuffing.{content_max, unstuff}
use Rattle.frame.proofs.ReadersLaws.{unstuff_refused, Filled, filled}
use Rattle.frame.proofs.ReadLaws.{run_refused, run_content, refuses}
use Rattle.frame.proofs.reader.read_run.Goals as goal
use Rattle.frame.proofs.reader.read_run.Goals.{In_ok-length}

filled_at : (c : In_ok-length) → Filled c.args.run.now c.in_ok-length.length c.unstuff.new.content
filled_at c = filled c.args.run.now _ (replicate content_max 0) _ refl c.in_ok-length.ensures

pub slice_bounds-content-end : goal.slice_bounds-content-end
slice_bounds-content-end c = (filled_at c).fits

pub slice_bounds-hand_out-end : goal.slice_bounds-hand_out-end
slice_bounds-hand_out-end c = sym (length-take-le _ _ (filled_at (goal.at.slice_bounds-hand_out-end c).In_ok-length).fits)

pub returns-in_err-length : goal.returns-in_err-length
returns-in_err-length c =
    let fault = c.in_err-length.field-0.0 in
    let is = unstuff_refused (unstuff c.args.run.now) fault.refusal fault.place (c.in_err-length.ensures.answers) in
    let p = err_from_is_err_and c.from_residual.result c.from_residual.ensures.1 in
    rw (p.1, p.2) (refuses _ _ _ c.args.out.now (run_refused c.args.run.now _ _ is))

pub returns : goal.returns
returns c =
    let f = filled_at (goal.at.returns c).In_ok-length in
    rw (run_content c.args.run.now f.bytes f.unstuffs, ← f.first) c.hand_out.ensures
