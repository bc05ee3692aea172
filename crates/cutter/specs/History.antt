-- 02, C-21: lists of calls of the cutter: the bytes that they took of the line, and the frames that they handed on.
use Rattle.std.specs.Prelude.{ℕ, Option, Some, None, Result, Ok, Err, List, [], ◌∷◌, ◌++◌, take}
use Rattle.refusals.specs.declared.Refusal.{Refusal}

-- what a call is lent: a piece of the line, and a buffer as it was
pub record Offer : Type 0 where
  pub piece : List ℕ
  pub buffer : List ℕ

-- what it left: how many bytes it took, its answer, and the buffer as it is
pub record Left : Type 0 where
  pub taken : ℕ
  pub answer : Result (Option ℕ) Refusal
  pub buffer : List ℕ

-- the bytes that the calls took, in order. (A chain has what each call left beside the call; other pairs do not come.)
unfoldable pub line_taken : List Offer → List Left → List ℕ
line_taken [] left = []
line_taken (o ∷ os) [] = []
line_taken (o ∷ os) (l ∷ left) = take l.taken o.piece ++ line_taken os left

-- a frame stands at the start of the buffer, as long as the answer says
abbrev pub frame_left : Result (Option ℕ) Refusal → List ℕ → List (List ℕ)
frame_left (Ok None) buffer = []
frame_left (Ok (Some n)) buffer = take n buffer ∷ []
frame_left (Err r) buffer = []

-- all frames of a list of calls, in order
unfoldable pub all_frames : List Left → List (List ℕ)
all_frames [] = []
all_frames (l ∷ left) = frame_left l.answer l.buffer ++ all_frames left

-- the pieces into which a line was cut, joined
unfoldable pub joined : List (List ℕ) → List ℕ
joined [] = []
joined (piece ∷ pieces) = piece ++ joined pieces
