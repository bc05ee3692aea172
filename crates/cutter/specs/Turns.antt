-- Steps of the cutter's code: what a byte and a walk leave in the state. What stands in its array beyond the bytes held is open.
use Rattle.std.specs.Prelude.{◌≤◌, ◌≡◌, Option, Some, None, [], ◌∷◌, length}
use Rattle.slices.specs.FixedBytes.{shown}
use Rattle.ash.specs.Reserved.{flag_byte}
use Rattle.ash.specs.Size.{frame_max}
use Rattle.cutter.specs.Cutting.{Place, Step, goes_on, hands_on}
use Rattle.cutter.specs.Calls.{held_max, place_of, Walk}
use Rattle.cutter.specs.declared.state.Place as kinds
use Rattle.cutter.specs.declared.state.Cutter.{Cutter}
use Rattle.cutter.specs.declared.walk.Walked.{Walked}

-- room in the array for one byte more
pub record Room (cutter : Cutter) : Type 0 where
  pub within : cutter.held.length ≤ held_max
  pub whole : length cutter.held.bytes ≡ frame_max

-- the place that a state stands for
abbrev pub place_now : Cutter → Place
place_now cutter = place_of cutter.place (shown cutter.held)

-- what a byte did: the line goes on; or what is held is a frame to be handed on, and behind it only the flag that ended it is held
abbrev pub meant : Option kinds.Place → Cutter → Step
meant None cutter = goes_on (place_now cutter)
meant (Some place) cutter = hands_on (shown cutter.held) (place_of place (flag_byte ∷ []))

pub record TurnsAs (step : Step) (behind : Option kinds.Place) (exit : Cutter) : Type 0 where
  pub means : meant behind exit ≡ step
  pub room : behind ≡ None → exit.held.length ≤ held_max
  pub fits : exit.held.length ≤ frame_max
  pub whole : length exit.held.bytes ≡ frame_max

pub record WalksAs (walk : Walk) (walked : Walked) (exit : Cutter) : Type 0 where
  pub last : TurnsAs walk.last walked.behind exit
  pub taken : walked.taken ≡ walk.taken
