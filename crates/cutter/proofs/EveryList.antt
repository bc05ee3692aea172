-- Over every list of calls: each takes the line's next bytes and hands on the frame that they make, so that all together hand on the frames of
-- all bytes taken.
use mathlib.Core.Path.{◌≡◌, refl, sym, ap, ap₂, ◌∙◌}
use mathlib.Core.List.{List, ◌++◌}
use Prim.Native.Nat.{ℕ}
use lib.ListN.{take}
use Rattle.cutter.specs.Cutting.{Place, between, frames_from, place_after, frames_of}
use Rattle.cutter.specs.Calls.{cutter_of}
use Rattle.cutter.specs.History.{Offer, Left, line_taken, all_frames}
use Rattle.cutter.specs.declared.state.Cutter.{Cutter}
use Rattle.cutter.proofs.StreamLaws.{frames_append, place_append}
use Rattle.cutter.proofs.ReachedLaws.{Reached, at_between}
use Rattle.cutter.proofs.WalkReached.{EachHanded, line_handed}
use Rattle.cutter.proofs.Chain.{Begins, Chain, done, cuts, same_calls}
use Rattle.cutter.proofs.CallAgreement.{cut_brings}

-- what a list of calls handed on, and the state that it left, by the bytes taken from a place on
pub record Agrees (place : Place) (line : List ℕ) (left : List Left) (end : Cutter) : Type 0 where
  pub frames : all_frames left ≡ frames_from place line
  pub ends : end ≡ cutter_of (place_after place line)

chain_agrees : {cutter end : Cutter} {os : List Offer} {left : List Left} → Chain cutter os left end → (place : Place) → Reached place
    → cutter ≡ cutter_of place → Agrees place (line_taken os left) left end
unfolding frames_from place_after line_taken all_frames
chain_agrees done place r e = record { frames = refl; ends = e }
chain_agrees (cuts {piece = piece} {result = result} c rest) place r e =
    let first = take result.taken piece in
    let b = cut_brings c place r e in
    let others = chain_agrees rest (place_after place first) (line_handed first place r).1 b.ends in
    record {
      frames = ap₂ (λ (x y : List (List ℕ)). x ++ y) b.frames others.frames ∙ sym (frames_append place first _);
      ends = others.ends ∙ ap cutter_of (sym (place_append place first _));
    }

-- THEOREM. Of every list of calls from a fresh state, refused ones among them: the frames handed on, in order, are the frames of the bytes
-- taken, and the state left is that of the place behind them.
pub every_list : {cutter end : Cutter} {os : List Offer} {left : List Left} → Begins cutter → Chain cutter os left end
    → Agrees between (line_taken os left) left end
every_list b c = chain_agrees c between at_between b

-- THEOREM. Each frame handed on has 1 to 64 bytes, and is as long as its header says or refused by the reader.
pub each_handed : {cutter end : Cutter} {os : List Offer} {left : List Left} → Begins cutter → Chain cutter os left end → EachHanded (all_frames left)
each_handed {os = os} {left = left} b c =
    rw (every_list b c).frames (line_handed (line_taken os left) between at_between).0

-- two lists of calls: what they handed on and left, and what the same further calls leave
pub record Alike (left left₁ : List Left) (end end₁ : Cutter) : Type 0 where
  pub frames : all_frames left ≡ all_frames left₁
  pub ends : end ≡ end₁
  pub next : (os : List Offer) (more more₁ : List Left) (then then₁ : Cutter) → Chain end os more then → Chain end₁ os more₁ then₁
      → (more ≡ more₁) × (then ≡ then₁)

-- THEOREM. Lists of calls from fresh states that took the same bytes are alike, wherever the pieces were cut and whichever calls were refused.
pub same_line : {cutter cutter₁ end end₁ : Cutter} {os os₁ : List Offer} {left left₁ : List Left} → Begins cutter → Begins cutter₁
    → Chain cutter os left end → Chain cutter₁ os₁ left₁ end₁ → line_taken os left ≡ line_taken os₁ left₁ → Alike left left₁ end end₁
same_line b b₁ c c₁ same =
    let one = every_list b c in
    let two = every_list b₁ c₁ in
    let ends = one.ends ∙ ap (λ (line : List ℕ). cutter_of (place_after between line)) same ∙ sym two.ends in
    record {
      frames = one.frames ∙ ap frames_of same ∙ sym two.frames;
      ends = ends;
      next = λ os more more₁ then then₁ d d₁. same_calls ends d d₁;
    }
