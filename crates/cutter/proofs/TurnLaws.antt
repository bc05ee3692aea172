-- One byte of the line: whether it is a flag settles which step it is.
use mathlib.Core.Path.{◌≡◌}
use Prim.Native.Nat.{ℕ}
use borrow.Author.Tests.{eq-eqb, ne_eqb}
use Rattle.ash.specs.Reserved.{flag_byte}
use Rattle.cutter.specs.Cutting.{Place, flag_step, other_step, step_of}

module _ (place : Place) (b : ℕ) where
  pub step_flag : b ≡ flag_byte → step_of place b ≡ flag_step place
  unfolding step_of
  step_flag e = rw (eq-eqb b flag_byte e)

  pub step_other : (b ≡ flag_byte → ⊥) → step_of place b ≡ other_step place b
  unfolding step_of
  step_other n = rw (ne_eqb b flag_byte n)
