-- Where two lists differ: two strings as bytes, or as bits.
use Rattle.std.specs.Prelude.{ℕ, ◌≤◌, ◌≡◌, List, ◌++◌, length}

-- They are of equal length and differ, and only within so many adjacent elements: what stands before these and behind them is the same.
pub record DifferWithin {A : Type 0} (size : ℕ) (xs ys : List A) : Type 0 where
  pub before : List A
  pub part : List A
  pub other : List A
  pub behind : List A
  pub first : xs ≡ before ++ (part ++ behind)
  pub second : ys ≡ before ++ (other ++ behind)
  pub same_length : length part ≡ length other
  pub adjacent : length part ≤ size
  pub differ : part ≡ other → ⊥
