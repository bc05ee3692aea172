-- Every good frame comes out whole, wherever it stands on the line: its flag begins it, no other byte of it is a flag, and it is as long as its
-- header says.
use mathlib.Core.Path.{◌≡◌, refl, sym, ap, ◌∙◌}
use mathlib.Core.Bool.{Bool, true, false}
use mathlib.Core.List.{List, [], ◌∷◌, ◌++◌, append_assoc}
use mathlib.Core.Logic.{⊎_elim}
use Prim.Native.Nat.{ℕ, suc, ◌≤◌, ◌<◌}
use native.Mathlib.Omega.{arith}
use lib.Dec.{ltb}
use lib.ListN.{length, get_or, length-append}
use borrow.Author.Tests.{eqb-true, ltb-false, lt-ltb, le-ltb}
use Rattle.std.specs.Prelude.{Some}
use Rattle.ash.specs.Header.{frame_min}
use Rattle.ash.specs.Reserved.{flag_byte, reserved}
use Rattle.ash.specs.Writing.{frame_of}
use Rattle.ash.specs.Reading as reading
use Rattle.ash.specs.Reading.{flag_first, read_frame}
use Rattle.ash.proofs.FrameTheorems.{wrote_frame}
use Rattle.ash.proofs.SizeLaws.{taken_size}
use Rattle.ash.proofs.OnlyWritten.{only_written}
use Rattle.ash.proofs.FreeFrames.{only_flag_and_escapes}
use Rattle.ash.proofs.TakenLaws.{Opened, opened}
use Rattle.cutter.specs.Cutting.{Place, between, inside, passing, goes_on, hands_on, flag_step, joined_step, step_of, place_behind, handed_on, frames_from, place_after}
use Rattle.cutter.proofs.Handed.{size_in, size_append}
use Rattle.cutter.proofs.TurnLaws.{step_flag, step_other}
use Rattle.cutter.proofs.StreamLaws.{frames_append}

-- what a flag ends: a frame under way as it stands
abbrev pub unfinished : Place → List (List ℕ)
unfinished between = []
unfinished (inside held) = held ∷ []
unfinished passing = []

-- bytes without a flag
abbrev NoFlag : List ℕ → Type 0
NoFlag bytes = (i : ℕ) → get_or bytes i 0 ≡ flag_byte → ⊥

-- a frame whose header says its length
module _ (frame : List ℕ) (long : frame_min ≤ length frame) (size : size_in frame ≡ Some (length frame)) where
  whole : joined_step frame ≡ hands_on frame between
  unfolding joined_step
  whole =
      let header : 4 ≤ length frame = omega arith in
      let all : length frame ≤ length frame = omega arith in
      rw (le-ltb (length frame) 4 header, size, le-ltb (length frame) (length frame) all)

  -- a part of it from its start
  part : (held rest : List ℕ) → held ++ rest ≡ frame → 1 ≤ length rest → joined_step held ≡ goes_on (inside held)
  unfolding joined_step
  part held rest is more = by_length (ltb (length held) 4) refl
    where
      fewer : length held < length frame
      fewer = omega (arith, length-append held rest, ap length is)

      by_length : (t : Bool) → ltb (length held) 4 ≡ t → joined_step held ≡ goes_on (inside held)
      by_length true f = rw f
      by_length false f =
          let said : size_in held ≡ Some (length frame) = sym (size_append held rest (ltb-false (length held) 4 f)) ∙ ap size_in is ∙ size in
          rw (f, said, lt-ltb (length held) (length frame) fewer)

  module _ (after : List ℕ) where
    through : (rest held : List ℕ) → 1 ≤ length rest → held ++ rest ≡ frame → NoFlag rest
        → frames_from (inside held) (rest ++ after) ≡ frame ∷ frames_from between after
    unfolding frames_from
    through [] held more is free = absurd (omega arith)
    through (b ∷ []) held more is free =
        let step : step_of (inside held) b ≡ hands_on frame between = step_other (inside held) b (free 0) ∙ ap joined_step is ∙ whole in
        rw step
    through (b ∷ c ∷ bs) held more is free =
        let joined = append_assoc held (b ∷ []) (c ∷ bs) ∙ is in
        let step = step_other (inside held) b (free 0) ∙ part (held ++ (b ∷ [])) (c ∷ bs) joined (omega arith) in
        rw step (through (c ∷ bs) (held ++ (b ∷ [])) (omega arith) joined (λ i. free (suc i)))

-- a flag ends what is under way and begins a frame
behind_flag : (place : Place) (line : List ℕ) → frames_from place (flag_byte ∷ line) ≡ unfinished place ++ frames_from (inside (flag_byte ∷ [])) line
unfolding frames_from
behind_flag place line = rw (step_flag place flag_byte refl) (by_place place)
  where
    by_place : (place : Place)
        → handed_on (flag_step place) ++ frames_from (place_behind (flag_step place)) line ≡ unfinished place ++ frames_from (inside (flag_byte ∷ [])) line
    by_place between = refl
    by_place (inside held) = refl
    by_place passing = refl

-- a frame that the reader takes has no flag behind its first byte
module _ (room : ℕ) (frame : List ℕ) (control : ℕ) (p : List ℕ) (taken : read_frame room frame ≡ reading.frame control p) where
  is_written : frame ≡ frame_of control p
  is_written = (wrote_frame (length frame) control p frame (only_written room frame control p taken)).is

  only_first : (i : ℕ) → get_or frame (suc i) 0 ≡ flag_byte → ⊥
  unfolding reserved
  only_first i e =
      let byte : get_or (frame_of control p) (suc i) 0 ≡ flag_byte = rw (← is_written) e in
      let is : reserved (get_or (frame_of control p) (suc i) 0) ≡ true = rw byte in
      ⊎_elim (λ first. omega (arith, first.0)) (λ escape. omega (arith, byte, escape.escapes.escape)) (only_flag_and_escapes control p (suc i) is)

  -- THEOREM. From any place on, what came of another frame is handed on as it stands, then this frame whole; behind it the line is between
  -- frames.
  pub good_frame : (place : Place) (after : List ℕ) → frames_from place (frame ++ after) ≡ unfinished place ++ (frame ∷ frames_from between after)
  good_frame place after = by_bytes frame refl
    where
      o : Opened room frame (reading.frame control p)
      o = opened room frame control p taken

      by_bytes : (bytes : List ℕ) → frame ≡ bytes → frames_from place (bytes ++ after) ≡ unfinished place ++ (frame ∷ frames_from between after)
      by_bytes [] e = absurd (omega (arith, o.long, ap length e))
      by_bytes (a ∷ rest) e =
          let flag : a ≡ flag_byte = eqb-true a flag_byte (sym (ap flag_first e) ∙ o.flag) in
          let more : 1 ≤ length rest = omega (arith, o.long, ap length e) in
          let is : flag_byte ∷ rest ≡ frame = rw (← flag) (sym e) in
          let free : NoFlag rest = λ i h. only_first i (rw e h) in
          rw flag
          (behind_flag place (rest ++ after)
          ∙ ap (λ (fs : List (List ℕ)). unfinished place ++ fs)
          (through frame o.long (taken_size room frame control p taken) after rest (flag_byte ∷ []) more is free))

  -- THEOREM. So it is in the middle of a line.
  pub good_frame_within : (place : Place) (before after : List ℕ)
      → frames_from place (before ++ (frame ++ after))
      ≡ frames_from place before ++ (unfinished (place_after place before) ++ (frame ∷ frames_from between after))
  good_frame_within place before after =
      frames_append place before (frame ++ after)
      ∙ ap (λ (fs : List (List ℕ)). frames_from place before ++ fs) (good_frame (place_after place before) after)
