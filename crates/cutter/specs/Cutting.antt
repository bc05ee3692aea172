-- 02, C-21, and 002, 3.6 to 3.8: the line's bytes cut into frames.
use Rattle.std.specs.Prelude.{ℕ, cond, Option, Some, None, List, [], ◌∷◌, ◌++◌, eqb, ltb, length, get_or}
use Rattle.ash.specs.Reserved.{flag_byte}
use Rattle.ash.specs.Header.{header_size}
use Rattle.ash.specs.Size.{frame_size}

-- 002, 3.7: the byte that wakes the other side
abbrev pub wake_byte : ℕ
wake_byte = 0xff

-- where the line stands: between frames; in a frame, of which these bytes have come; or in what is left of one at fault
pub data Place : Type 0 where
  between : Place
  inside : List ℕ → Place
  passing : Place

-- what one byte does: the line goes on to a place; or a frame is handed on, to be read or refused by C-11, with the place behind it
pub data Step : Type 0 where
  goes_on : Place → Step
  hands_on : List ℕ → Place → Step

-- 002, 3.8: the flag is a frame's first byte
abbrev pub begun : Place
begun = inside (flag_byte ∷ [])

-- C-11: no other flag stands in a sent frame, so each flag begins one; what came of another is handed on as it stands
abbrev pub flag_step : Place → Step
flag_step between = goes_on begun
flag_step (inside held) = hands_on held begun
flag_step passing = goes_on begun

-- 002, 3.7: between frames wake bytes are passed over. 002, 3.6: another byte there does not start with a flag. It is handed on alone,
-- and what follows it up to the next flag is the same fault.
abbrev pub between_step : ℕ → Step
between_step b = cond (eqb b wake_byte) (goes_on between) (hands_on (b ∷ []) passing)

-- a frame that is as long as its header says is whole; one whose header is bad is handed on at once
abbrev pub sized_step : Option ℕ → List ℕ → Step
sized_step (Some n) bytes = cond (ltb (length bytes) n) (goes_on (inside bytes)) (hands_on bytes between)
sized_step None bytes = hands_on bytes passing

-- 002, 3.8: the bytes of a frame so far; the first four are its header
unfoldable pub joined_step : List ℕ → Step
joined_step bytes =
    cond (ltb (length bytes) header_size) (goes_on (inside bytes))
    (sized_step (frame_size (get_or bytes 1 0) (get_or bytes 2 0) (get_or bytes 3 0)) bytes)

-- a byte that is no flag
abbrev pub other_step : Place → ℕ → Step
other_step between b = between_step b
other_step (inside held) b = joined_step (held ++ (b ∷ []))
other_step passing b = goes_on passing

unfoldable pub step_of : Place → ℕ → Step
step_of place b = cond (eqb b flag_byte) (flag_step place) (other_step place b)

abbrev pub place_behind : Step → Place
place_behind (goes_on place) = place
place_behind (hands_on frame place) = place

abbrev pub handed_on : Step → List (List ℕ)
handed_on (goes_on place) = []
handed_on (hands_on frame place) = frame ∷ []

-- all frames of a line's bytes from a place on, and the place behind them
unfoldable pub frames_from : Place → List ℕ → List (List ℕ)
frames_from place [] = []
frames_from place (b ∷ line) = handed_on (step_of place b) ++ frames_from (place_behind (step_of place b)) line

unfoldable pub place_after : Place → List ℕ → Place
place_after place [] = place
place_after place (b ∷ line) = place_after (place_behind (step_of place b)) line

-- a line begins between frames
abbrev pub frames_of : List ℕ → List (List ℕ)
frames_of line = frames_from between line
