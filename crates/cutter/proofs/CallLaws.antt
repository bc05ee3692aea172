-- A call of the cutter, one law for each way through the code: the room in the buffer settles whether it is refused, and otherwise the walk
-- makes it.
use mathlib.Core.Path.{◌≡◌}
use mathlib.Core.List.{List}
use Prim.Native.Nat.{ℕ, ◌≤◌, ◌<◌}
use borrow.Author.Tests.{lt-ltb, le-ltb}
use Rattle.ash.specs.Size.{frame_max}
use Rattle.cutter.specs.Calls.{place_in, walk_of, walk_call, short_call, cut_of}
use Rattle.cutter.specs.declared.state.Cutter.{Cutter}

module _ (cutter : Cutter) (piece : List ℕ) where
  pub short_call_law : (room : ℕ) → room < frame_max → cut_of cutter piece room ≡ short_call cutter
  unfolding cut_of
  short_call_law room h = rw (lt-ltb room frame_max h)

  pub long_call : (room : ℕ) → frame_max ≤ room → cut_of cutter piece room ≡ walk_call (walk_of piece (place_in cutter) 0)
  unfolding cut_of
  long_call room h = rw (le-ltb room frame_max h)
