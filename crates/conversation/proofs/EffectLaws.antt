-- What holds of both effects of a test holds of the test's.
use mathlib.Core.Bool.{Bool, true, false, cond}
use Rattle.conversation.specs.Events.{Effect}

pub either : (P : Effect → Type 0) (e f : Effect) (t : Bool) → P e → P f → P (cond t e f)
either P e f true first second = first
either P e f false first second = second
