-- Two tests joined: where the second is not asked, the first has settled it.
use mathlib.Core.Path.{◌≡◌, refl}
use mathlib.Core.Bool.{Bool, true, false, ◌&&◌, ◌||◌}
use Rattle.slices.proofs.Impossible.{impossible}

-- what both tests answered
pub record Both (t u s : Bool) : Type 0 where
  pub first : t ≡ s
  pub second : u ≡ s

pub both : (t u : Bool) → (t && u) ≡ true → Both t u true
both true u h = record { first = refl; second = h }
both false u h = impossible cc

pub neither : (t u : Bool) → (t || u) ≡ false → Both t u false
neither true u h = impossible cc
neither false u h = record { first = refl; second = h }
