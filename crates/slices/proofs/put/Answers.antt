-- `slices::put` meets its contract.
use Rattle.slices.proofs.PutLaws.{put_over}
use Rattle.slices.proofs.put.Goals as goal

pub returns : goal.returns
returns c = put_over c.args.dst.now c.args.at c.args.src.now c.min-start.result c.min-count.result c.min-start.ensures c.min-count.ensures _ c.copy_from_slice.ensures.after
