-- What a line hands on is a whole frame or is refused, byte by byte: each place that it reaches is one of the three, and a frame under way is
-- shorter than its header says.
use mathlib.Core.Bool.{Bool, true, false, cond}
use mathlib.Core.List.{List, [], ◌∷◌, ◌++◌}
use mathlib.Core.Logic.{inr}
use Prim.Native.Nat.{ℕ, suc}
use native.Mathlib.Omega.{arith}
use lib.Dec.{eqb}
use Rattle.ash.specs.Reserved.{flag_byte}
use Rattle.cutter.specs.Cutting.{wake_byte, Place, between, passing, Step, goes_on, hands_on, flag_step, between_step, other_step, step_of, place_behind, handed_on, frames_from, place_after}
use Rattle.cutter.specs.Calls.{go_on, walk_of}
use Rattle.cutter.proofs.Handed.{Handed, short_refused}
use Rattle.cutter.proofs.ReachedLaws.{Reached, at_between, at_inside, at_passing, ReachedBy, begun_reached, cut_short, joins}

-- a byte between frames that is no flag
starts : (b : ℕ) → ReachedBy (between_step b)
starts b = by_wake (eqb b wake_byte)
  where
    by_wake : (t : Bool) → ReachedBy (cond t (goes_on between) (hands_on (b ∷ []) passing))
    by_wake true = at_between
    by_wake false =
        (record { some = omega arith; most = omega arith; sort = inr (short_refused (b ∷ []) (omega arith)) }, at_passing)

pub step_reached : (place : Place) (b : ℕ) → Reached place → ReachedBy (step_of place b)
unfolding step_of
step_reached place b r = by_flag (eqb b flag_byte)
  where
    flagged : {place : Place} → Reached place → ReachedBy (flag_step place)
    flagged at_between = begun_reached
    flagged (at_inside {held} u) = (cut_short held u, begun_reached)
    flagged at_passing = begun_reached

    other : {place : Place} → Reached place → ReachedBy (other_step place b)
    other at_between = starts b
    other (at_inside {held} u) = joins held b u
    other at_passing = at_passing

    by_flag : (t : Bool) → ReachedBy (cond t (flag_step place) (other_step place b))
    by_flag true = flagged r
    by_flag false = other r

-- and so is what a walk comes to
pub walk_reached : (piece : List ℕ) (place : Place) (n : ℕ) → Reached place → ReachedBy (walk_of piece place n).last
unfolding walk_of
walk_reached [] place n r = r
walk_reached (b ∷ bs) place n r = by_step (λ place₁ r₁. walk_reached bs place₁ (suc n) r₁) (step_of place b) (step_reached place b r)
  where
    by_step : ((place₁ : Place) → Reached place₁ → ReachedBy (walk_of bs place₁ (suc n)).last) → (step : Step) → ReachedBy step
        → ReachedBy (go_on step (suc n) (λ place₁ n₁. walk_of bs place₁ n₁)).last
    by_step rest (goes_on place₁) s = rest place₁ s
    by_step rest (hands_on frame place₁) s = s

-- each of a list of frames
pub data EachHanded : List (List ℕ) → Type 0 where
  no_more : EachHanded []
  one_more : {frame : List ℕ} {frames : List (List ℕ)} → Handed frame → EachHanded frames → EachHanded (frame ∷ frames)

-- all frames of a line
pub line_handed : (line : List ℕ) (place : Place) → Reached place → EachHanded (frames_from place line) × Reached (place_after place line)
unfolding frames_from place_after
line_handed [] place r = (no_more, r)
line_handed (b ∷ line) place r = by_step (λ place₁ r₁. line_handed line place₁ r₁) (step_of place b) (step_reached place b r)
  where
    by_step : ((place₁ : Place) → Reached place₁ → EachHanded (frames_from place₁ line) × Reached (place_after place₁ line))
        → (step : Step) → ReachedBy step
        → EachHanded (handed_on step ++ frames_from (place_behind step) line) × Reached (place_after (place_behind step) line)
    by_step rest (goes_on place₁) s = rest place₁ s
    by_step rest (hands_on frame place₁) s = (one_more s.0 (rest place₁ s.1).0, (rest place₁ s.1).1)
