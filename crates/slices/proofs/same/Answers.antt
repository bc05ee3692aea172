-- `slices::same` meets its contract.
use mathlib.Core.Path.{◌∙◌}
use Rattle.slices.proofs.SameLaws.{same_pointwise}
use Rattle.slices.proofs.same.Goals as goal

pub returns : goal.returns
returns c = c.eq.ensures ∙ same_pointwise c.args.a.now c.args.b.now
