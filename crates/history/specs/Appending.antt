-- Text appended to a lent buffer.
use Rattle.std.specs.Prelude.{ℕ, ◌+◌, min, ◌≡◌, List, length}
use Rattle.slices.specs.Put.{put_at}

-- the text stands in the buffer from the place at on, and the answer is the place behind it; in a buffer that is too short
-- the first bytes of the text do, and the place is the buffer's end
pub record Appends (text before : List ℕ) (at : ℕ) (after : List ℕ) (place : ℕ) : Type 0 where
  pub puts : after ≡ put_at before at text
  pub ends : place ≡ min (at + length text) (length before)
