-- Good frames over the calls that run: what the calls handed on are the frames of the bytes taken, and a good frame among those comes out whole.
use mathlib.Core.Path.{◌≡◌, refl, sym, ap, ◌∙◌}
use mathlib.Core.List.{List, [], ◌∷◌, ◌++◌, append-nil}
use Prim.Native.Nat.{ℕ, zero, suc, ◌≤◌}
use native.Mathlib.Omega.{arith}
use lib.ListN.{length, take, replicate}
use Rattle.std.specs.Prelude.{Result, Ok, Err}
use Rattle.refusals.specs.declared.Refusal.{Refusal}
use Rattle.slices.specs.Put.{put_at}
use Rattle.ash.specs.Stuffing.{payload_max, stuff}
use Rattle.ash.specs.Writing.{frame_of}
use Rattle.ash.specs.Reading as reading
use Rattle.ash.specs.Reading.{read_frame}
use Rattle.ash.specs.Answers.{frame_read, read_answer, read_payload}
use Rattle.ash.specs.declared.reader.Frame.{Frame}
use Rattle.ash.proofs.Calls.{Writes, Reads, was_read, frame_out, frame_in}
use Rattle.ash.proofs.FrameTheorems.{frame_read_back}
use Rattle.cutter.specs.Cutting.{wake_byte, between, goes_on, step_of, frames_from, place_after, frames_of}
use Rattle.cutter.specs.History.{Offer, Left, line_taken, all_frames}
use Rattle.cutter.specs.declared.state.Cutter.{Cutter}
use Rattle.cutter.proofs.TurnLaws.{step_other}
use Rattle.cutter.proofs.Handed.{ReaderRefuses}
use Rattle.cutter.proofs.Chain.{Begins, Chain}
use Rattle.cutter.proofs.EveryList.{every_list}
use Rattle.cutter.proofs.GoodFrames.{unfinished, good_frame, good_frame_within}

-- a frame that the reader takes
pub record Good (frame : List ℕ) : Type 0 where
  pub room : ℕ
  pub control : ℕ
  pub payload : List ℕ
  pub taken : read_frame room frame ≡ reading.frame control payload

-- what calls handed on that took a good frame behind some bytes and in front of others: the frames of the bytes before it, what of another was
-- under way, the frame, and the frames of the bytes behind it from between frames on
abbrev Within : (before frame after : List ℕ) (left : List Left) → Type 0
Within before frame after left = all_frames left ≡ frames_of before ++ (unfinished (place_after between before) ++ (frame ∷ frames_of after))

module _ {cutter end : Cutter} {os : List Offer} {left : List Left} (b : Begins cutter) (c : Chain cutter os left end) (before after : List ℕ) where
  good_within : (frame : List ℕ) → Good frame → line_taken os left ≡ before ++ (frame ++ after) → Within before frame after left
  good_within frame g line =
      (every_list b c).frames ∙ ap frames_of line ∙ good_frame_within g.room frame g.control g.payload g.taken between before after

  -- THEOREM. Any bytes that a call of `read_frame` takes are handed on whole by the calls that took them.
  pub read_frame_handed_on : (frame out : List ℕ) (control n : ℕ) (out₁ : List ℕ) → Reads frame out (Ok (frame_read control n)) out₁
      → line_taken os left ≡ before ++ (frame ++ after) → Within before frame after left
  read_frame_handed_on frame out control n out₁ r =
      good_within frame (record { room = length out; control = control; payload = take n out₁; taken = frame_in r })

  -- THEOREM. So is every frame of a payload of at most 57 bytes as sent, and what a call of `write_frame` wrote.
  pub good_frame_handed_on : (control : ℕ) (payload : List ℕ) → length (stuff payload) ≤ payload_max
      → line_taken os left ≡ before ++ (frame_of control payload ++ after) → Within before (frame_of control payload) after left
  good_frame_handed_on control payload short =
      let taken = frame_read_back control payload payload_max (omega arith) short in
      good_within (frame_of control payload) (record { room = payload_max; control = control; payload = payload; taken = taken })

  pub written_frame_handed_on : (control : ℕ) (payload out : List ℕ) (n : ℕ) (sent : List ℕ) → Writes control payload out (Ok n) sent
      → line_taken os left ≡ before ++ (take n sent ++ after) → Within before (take n sent) after left
  written_frame_handed_on control payload out n sent w =
      let f = frame_out w in
      rw f.is (good_frame_handed_on control payload f.short)

-- THEOREM. A frame that is handed on and not whole is refused by each call of `read_frame`, which leaves its output as it was.
pub refused_by_the_reader : (frame out : List ℕ) (answer : Result Frame Refusal) (out₁ : List ℕ) → (r : ReaderRefuses (length out) frame) → Reads frame out answer out₁
    → (answer ≡ Err r.reason) × (out₁ ≡ out)
refused_by_the_reader frame out answer out₁ r call =
    let did = was_read call in
    (did.answers ∙ ap read_answer r.is, did.output ∙ ap (λ (found : reading.Read). put_at out 0 (read_payload found)) r.is)

-- a line of good frames, with any number of wake bytes before, between and behind them
pub data GoodLine : List ℕ → List (List ℕ) → Type 0 where
  only_wakes : (n : ℕ) → GoodLine (replicate n wake_byte) []
  frame_next : (n : ℕ) {frame line : List ℕ} {frames : List (List ℕ)} → Good frame → GoodLine line frames
      → GoodLine (replicate n wake_byte ++ (frame ++ line)) (frame ∷ frames)

-- 002, 3.7: wake bytes between frames change nothing
wakes : (n : ℕ) (line : List ℕ) → frames_from between (replicate n wake_byte ++ line) ≡ frames_from between line
unfolding frames_from
wakes zero line = refl
wakes (suc n) line =
    let step : step_of between wake_byte ≡ goes_on between = step_other between wake_byte (λ e. omega arith) in
    rw step (wakes n line)

good_line : {line : List ℕ} {frames : List (List ℕ)} → GoodLine line frames → frames_of line ≡ frames
unfolding frames_from
good_line (only_wakes n) = ap frames_of (sym (append-nil (replicate n wake_byte))) ∙ wakes n []
good_line (frame_next n {frame} {line} g rest) =
    wakes n (frame ++ line)
    ∙ good_frame g.room frame g.control g.payload g.taken between line
    ∙ ap (λ (fs : List (List ℕ)). frame ∷ fs) (good_line rest)

-- THEOREM. Calls from a fresh state that take such a line hand on exactly its frames, in order.
pub good_line_handed_on : {cutter end : Cutter} {os : List Offer} {left : List Left} {frames : List (List ℕ)} → Begins cutter → Chain cutter os left end
    → GoodLine (line_taken os left) frames → all_frames left ≡ frames
good_line_handed_on b c g = (every_list b c).frames ∙ good_line g
