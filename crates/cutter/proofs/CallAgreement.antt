-- One call agrees with the frames of the line: the state that it left stands for the place behind the bytes taken, and the buffer holds the
-- frame that they make.
use mathlib.Core.Path.{◌≡◌, refl, sym, ap, ◌∙◌}
use mathlib.Core.Bool.{Bool, true, false}
use mathlib.Core.List.{List, [], ◌∷◌}
use Prim.Native.Nat.{ℕ, ◌≤◌, min}
use native.Mathlib.Nat.{min-eq_left}
use native.Mathlib.Omega.{arith}
use lib.Dec.{ltb}
use lib.ListN.{length, take, replicate}
use borrow.Author.Tests.{ltb-true, ltb-false}
use Rattle.slices.specs.Put.{put_at}
use Rattle.slices.proofs.PutLaws.{put_first}
use Rattle.cutter.specs.Cutting.{Place, inside, Step, goes_on, hands_on, place_behind, handed_on, frames_from, place_after}
use Rattle.ash.specs.Size.{frame_max}
use Rattle.cutter.specs.Calls.{held_max, place_in, cutter_of, walk_of, Call, call_of, walk_call, short_call, cut_of, cut_by}
use Rattle.cutter.specs.History.{Left, frame_left}
use Rattle.cutter.specs.declared.state.Cutter.{Cutter}
use Rattle.cutter.specs.declared.state.Cut.{Cut}
use Rattle.cutter.proofs.StreamLaws.{walk_takes}
use Rattle.cutter.proofs.ReachedLaws.{Reached, at_between, at_inside, at_passing, ReachedBy}
use Rattle.cutter.proofs.WalkReached.{walk_reached}
use Rattle.cutter.proofs.CallLaws.{short_call_law, long_call}
use Rattle.cutter.proofs.Chain.{Cuts, left_by, was_cut}

-- a state that a call left stands for the place that it came to
stands : {place : Place} → Reached place → place_in (cutter_of place) ≡ place
stands at_between = refl
stands (at_inside {held} u) =
    let least : min (length held) held_max ≡ length held = min-eq_left u.few in
    rw least (ap inside (put_first (replicate frame_max 0) held (omega (arith, u.few))))
stands at_passing = refl

-- what a call does at a place: it takes bytes of its piece, and hands on their frames
pub record Brings (place : Place) (piece : List ℕ) (left : Left) (end : Cutter) : Type 0 where
  pub frames : frame_left left.answer left.buffer ≡ frames_from place (take left.taken piece)
  pub ends : end ≡ cutter_of (place_after place (take left.taken piece))

-- of a step that a walk came to
module _ (n : ℕ) where
  steps_to : (step : Step) → (call_of step n).cutter ≡ cutter_of (place_behind step)
  steps_to (goes_on place) = refl
  steps_to (hands_on frame place) = refl

  pub takes_all : (step : Step) → (call_of step n).taken ≡ n
  takes_all (goes_on place) = refl
  takes_all (hands_on frame place) = refl

  hands_out : (step : Step) → ReachedBy step → (before : List ℕ) → frame_max ≤ length before
      → frame_left (call_of step n).answer (put_at before 0 (call_of step n).frame) ≡ handed_on step
  hands_out (goes_on place) r before h = refl
  hands_out (hands_on frame place) r before h =
      ap (λ (f : List ℕ). f ∷ []) (put_first before frame (omega (arith, r.0.most)))

module _ (place : Place) (r : Reached place) (piece before : List ℕ) where
  short_brings : (call : Call) → call ≡ short_call (cutter_of place)
      → Brings place piece (left_by (cut_by call) (put_at before 0 call.frame)) call.cutter
  unfolding frames_from place_after
  short_brings call e = rw e (record { frames = refl; ends = refl })

  walk_brings : frame_max ≤ length before → (call : Call) → call ≡ walk_call (walk_of piece place 0)
      → Brings place piece (left_by (cut_by call) (put_at before 0 call.frame)) call.cutter
  walk_brings h call e =
      let walk = walk_of piece place 0 in
      let t = walk_takes piece place 0 in
      let count : (walk_call walk).taken ≡ t.count = takes_all walk.taken walk.last ∙ omega (arith, t.counts) in
      let s = walk_reached piece place 0 r in
      rw (e, count)
      (record {
        frames = hands_out walk.taken walk.last s before h ∙ sym t.frames;
        ends = steps_to walk.taken walk.last ∙ ap cutter_of (sym t.behind);
      })

  -- a call with any buffer
  call_brings : (call : Call) → call ≡ cut_of (cutter_of place) piece (length before)
      → Brings place piece (left_by (cut_by call) (put_at before 0 call.frame)) call.cutter
  call_brings call e = by_room (ltb (length before) frame_max) refl
    where
      by_room : (t : Bool) → ltb (length before) frame_max ≡ t → Brings place piece (left_by (cut_by call) (put_at before 0 call.frame)) call.cutter
      by_room true f = short_brings call (e ∙ short_call_law (cutter_of place) piece (length before) (ltb-true (length before) frame_max f))
      by_room false f =
          let enough = ltb-false (length before) frame_max f in
          let walks = ap (λ (p : Place). walk_call (walk_of piece p 0)) (stands r) in
          walk_brings enough call (e ∙ long_call (cutter_of place) piece (length before) enough ∙ walks)

-- what one call does, by the contract
pub cut_brings : {cutter : Cutter} {piece before after : List ℕ} {result : Cut} → Cuts cutter piece before result after
    → (place : Place) → Reached place → cutter ≡ cutter_of place → Brings place piece (left_by result after) result.cutter
cut_brings {piece = piece} {before = before} c place r e =
    let did = rw e at (was_cut c) in
    rw (did.answers, did.frame_handed_on) (call_brings place r piece before (cut_of (cutter_of place) piece (length before)) refl)
