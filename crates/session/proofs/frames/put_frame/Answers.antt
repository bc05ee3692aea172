-- `session::frames::put_frame` meets its contract: the frame is written into an array that it fits, and put from there.
use mathlib.Core.Path.{refl, ap, ◌∙◌}
use lib.ListN.{replicate}
use Rattle.slices.specs.Put.{put_at}
use Rattle.ash.specs.Size.{frame_max}
use Rattle.session.proofs.FrameLaws.{array_written}
use Rattle.session.proofs.frames.put_frame.Goals as goal

pub returns-in-Ok : goal.returns-in-Ok
returns-in-Ok c =
    let did = array_written c.args.control c.args.payload.now (replicate frame_max 0) _ _ _ refl c.in-Ok.is c.write_frame.ensures in
    (did.0, c.put.ensures ∙ ap (put_at c.args.output.now c.args.at) (c.first.ensures ∙ did.1))
