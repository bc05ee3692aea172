-- How many bytes a call takes: at most the piece, and some of a piece that has any.
use Rattle.std.specs.Prelude.{ℕ, ◌≤◌, ◌<◌, List, length}

pub record Takes (piece : List ℕ) (taken : ℕ) : Type 0 where
  pub within : taken ≤ length piece
  pub some : 0 < length piece → 0 < taken
