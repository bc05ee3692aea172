-- The walk over a piece goes byte by byte: a byte at which it goes on, one at which a frame is handed on, and the end of the piece.
use mathlib.Core.Path.{◌≡◌, refl, sym}
use mathlib.Core.List.{List}
use Prim.Native.Nat.{ℕ, ◌+◌, ◌≤◌, ◌<◌}
use native.Mathlib.Numerals.{add-one}
use native.Mathlib.Omega.{arith}
use lib.ListN.{length, drop, get_or, drop_of_length-le}
use lib.Seq.{drop-cons}
use Rattle.std.specs.Prelude.{Some, None}
use Rattle.cutter.specs.Cutting.{Step, step_of}
use Rattle.cutter.specs.Calls.{Walk, go_on, walk_of}
use Rattle.cutter.specs.Turns.{Room, place_now, TurnsAs, WalksAs}
use Rattle.cutter.specs.declared.state.Place as kinds
use Rattle.cutter.specs.declared.state.Cutter.{Cutter}

-- i bytes of a piece have been walked, and no frame was handed on yet
pub record Walking (piece : List ℕ) (walk : Walk) (cutter : Cutter) (i : ℕ) : Type 0 where
  pub room : Room cutter
  pub rest : walk_of (drop i piece) (place_now cutter) i ≡ walk

module _ {piece : List ℕ} {walk : Walk} {cutter : Cutter} {i : ℕ} (w : Walking piece walk cutter i) where
  -- one byte more
  module _ (more : i < length piece) (cutter₁ : Cutter) where
    one_more : (step : Step) → step_of (place_now cutter) (get_or piece i 0) ≡ step → go_on step (i + 1) (λ place n. walk_of (drop (i + 1) piece) place n) ≡ walk
    unfolding walk_of
    one_more step e = rw (add-one, ← e) (rw (drop-cons piece i 0 more) at w.rest)

    pub walks_on : TurnsAs (step_of (place_now cutter) (get_or piece i 0)) None cutter₁ → Walking piece walk cutter₁ (i + 1)
    walks_on t = record { room = record { within = t.room refl; whole = t.whole }; rest = one_more _ (sym t.means) }

    pub walk_hands_on : (place : kinds.Place) → TurnsAs (step_of (place_now cutter) (get_or piece i 0)) (Some place) cutter₁
        → WalksAs walk (record { taken = i + 1; behind = Some place }) cutter₁
    walk_hands_on place t = rw (← one_more _ (sym t.means)) (record { last = rw (← t.means) at t; taken = refl })

  pub walk_ends : i ≡ length piece → WalksAs walk (record { taken = length piece; behind = None }) cutter
  unfolding walk_of
  walk_ends all =
      let none : length piece ≤ i = omega arith in
      rw (← w.rest, drop_of_length-le piece none, all)
      (record {
        last = record { means = refl; room = λ e. w.room.within; fits = omega (arith, w.room.within); whole = w.room.whole };
        taken = refl;
      })
