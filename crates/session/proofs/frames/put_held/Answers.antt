-- `session::frames::put_held` meets its contract: of two frames the newer is put behind the older.
use mathlib.Core.List.{[], ◌∷◌}
use native.Mathlib.Omega.{arith}
use Rattle.session.proofs.FrameLaws.{put_behind, one_counted}
use Rattle.session.proofs.frames.put_held.Goals as goal

pub overflow_add-result : goal.overflow_add-result
overflow_add-result c = omega (arith, one_counted c.put_data-before.ensures, one_counted c.put_data-behind.ensures)

pub returns-in-Two : goal.returns-in-Two
returns-in-Two c = rw c.in-Two.is (put_behind (_ ∷ []) (_ ∷ []) _ _ _ _ _ c.put_data-before.ensures c.put_data-behind.ensures)
