-- A byte that joins a frame, one law for each answer of the header's tests: the array holds the frame's bytes, so the header is read from it.
use mathlib.Core.Path.{◌≡◌, sym, ◌∙◌}
use mathlib.Core.List.{List, [], ◌∷◌, ◌++◌}
use Prim.Native.Nat.{ℕ, ◌+◌, ◌≤◌, ◌<◌}
use native.Mathlib.Numerals.{add-one}
use native.Mathlib.Omega.{arith}
use lib.ListN.{length, take, get_or, set, length-set, length-append}
use lib.Seq.{length-take-le, take-suc-set, get_or-take}
use borrow.Author.Tests.{lt-ltb, le-ltb}
use Rattle.std.specs.Prelude.{Option, Some, None}
use Rattle.slices.specs.FixedBytes.{shown}
use Rattle.slices.proofs.Impossible.{impossible}
use Rattle.ash.specs.Header.{header_size}
use Rattle.ash.specs.Size.{frame_size}
use Rattle.ash.proofs.SizeLaws.{size_bounds}
use Rattle.cutter.specs.Cutting.{inside, goes_on, sized_step, joined_step}
use Rattle.cutter.specs.Turns.{Room, meant, TurnsAs}
use Rattle.cutter.specs.declared.state.Place as kinds
use Rattle.cutter.specs.declared.state.Place.TheVariants.{Between, Inside, Passing}
use Rattle.cutter.specs.declared.state.Cutter.{Cutter}

module _ (cutter : Cutter) (room : Room cutter) (within : cutter.place ≡ Inside) (b : ℕ) where
  abbrev held : ℕ
  held = cutter.held.length

  -- the frame with this byte, and the state with it
  abbrev bytes : List ℕ
  bytes = shown cutter.held ++ (b ∷ [])

  abbrev array : List ℕ
  array = set cutter.held.bytes held b

  abbrev exit : Cutter
  exit = record { place = cutter.place; held = record { length = held + 1; bytes = array } }

  stored : take (held + 1) array ≡ bytes
  stored = rw add-one (take-suc-set cutter.held.bytes held b (omega (arith, room.within, room.whole)))

  joined_length : length bytes ≡ held + 1
  joined_length =
      length-append (shown cutter.held) (b ∷ []) ∙ omega (arith, length-take-le held cutter.held.bytes (omega (arith, room.within, room.whole)))

  size_of : 4 ≤ held + 1
      → frame_size (get_or bytes 1 0) (get_or bytes 2 0) (get_or bytes 3 0) ≡ frame_size (get_or array 1 0) (get_or array 2 0) (get_or array 3 0)
  size_of h =
      rw (← stored, get_or-take (held + 1) array 1 0 (omega arith), get_or-take (held + 1) array 2 0 (omega arith), get_or-take (held + 1) array 3 0 (omega arith))

  by_size : (size : Option ℕ) → 4 ≤ held + 1 → size ≡ frame_size (get_or array 1 0) (get_or array 2 0) (get_or array 3 0)
      → joined_step bytes ≡ sized_step size bytes
  unfolding joined_step
  by_size size h e =
      let long : header_size ≤ length bytes = omega (arith, joined_length) in
      rw (le-ltb (length bytes) header_size long, size_of h, ← e)

  turns : (behind : Option kinds.Place) → joined_step bytes ≡ meant behind exit → (behind ≡ None → held + 1 ≤ 63) → TurnsAs (joined_step bytes) behind exit
  turns behind e room_left =
      record { means = sym e; room = room_left; fits = omega (arith, room.within); whole = length-set cutter.held.bytes held b ∙ room.whole }

  on : joined_step bytes ≡ goes_on (inside bytes) → held + 1 ≤ 63 → TurnsAs (joined_step bytes) None exit
  on e h = turns None (rw (within, stored) e) (λ f. h)

  pub join_header : held + 1 < 4 → TurnsAs (joined_step bytes) None exit
  unfolding joined_step
  join_header h = on (let few : length bytes < header_size = omega (arith, joined_length) in rw (lt-ltb (length bytes) header_size few)) (omega arith)

  module _ (h : 4 ≤ held + 1) where
    pub join_bad : None ≡ frame_size (get_or array 1 0) (get_or array 2 0) (get_or array 3 0) → TurnsAs (joined_step bytes) (Some Passing) exit
    join_bad e = turns (Some Passing) (rw stored (by_size None h e)) (λ f. impossible cc)

    module _ (n : ℕ) (e : Some n ≡ frame_size (get_or array 1 0) (get_or array 2 0) (get_or array 3 0)) where
      pub join_more : held + 1 < n → TurnsAs (joined_step bytes) None exit
      join_more more =
          let few : length bytes < n = omega (arith, joined_length) in
          on (by_size (Some n) h e ∙ rw (lt-ltb (length bytes) n few)) (omega (arith, (size_bounds _ _ _ n (sym e)).most))

      pub join_whole : n ≤ held + 1 → TurnsAs (joined_step bytes) (Some Between) exit
      join_whole all =
          let enough : n ≤ length bytes = omega (arith, joined_length) in
          turns (Some Between) (rw stored (by_size (Some n) h e ∙ rw (le-ltb (length bytes) n enough))) (λ f. impossible cc)
