-- A step of the reader: how the payload that was unstuffed is answered.
use Rattle.std.specs.Prelude.{ℕ, ◌≡◌, Option, Some, None, List, length}
use Rattle.slices.specs.Put.{put_at}
use Rattle.ash.specs.Stuffing as stuffing

abbrev pub unstuff_answer : stuffing.Unstuffed → Option ℕ
unstuff_answer (stuffing.payload p) = Some (length p)
unstuff_answer stuffing.broken = None

-- What was unstuffed is answered, and stands in the array where no rule was broken. What a refused frame leaves in that array of
-- the reader's own is open.
pub record UnstuffsAs (found : stuffing.Unstuffed) (array : List ℕ) (answer : Option ℕ) (exit : List ℕ) : Type 0 where
  pub answers : answer ≡ unstuff_answer found
  pub array_filled : (p : List ℕ) → found ≡ stuffing.payload p → exit ≡ put_at array 0 p
