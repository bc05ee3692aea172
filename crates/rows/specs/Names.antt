-- Lists of names: where a name stands, and which rows are in use.
use Rattle.std.specs.Prelude.{ℕ, suc, Bool, true, false, cond, List, [], ◌∷◌}
use Rattle.std.proofs.Math.Option.{Option, some, none}
use Rattle.slices.specs.Same.{same_bytes}

-- where the name first stands, when the names are counted from at on
unfoldable pub place_from : ℕ → List ℕ → List (List ℕ) → Option ℕ
place_from at name [] = none
place_from at name (other ∷ names) = cond (same_bytes other name) (some at) (place_from (suc at) name names)

-- where the name first stands
abbrev pub place_of : List ℕ → List (List ℕ) → Option ℕ
place_of name names = place_from 0 name names

abbrev pub is_some : Option ℕ → Bool
is_some (some place) = true
is_some none = false

-- whether the name is one of the names
abbrev pub is_in : List ℕ → List (List ℕ) → Bool
is_in name names = is_some (place_of name names)

-- the names that are not empty
unfoldable pub used : List (List ℕ) → List (List ℕ)
used [] = []
used ([] ∷ names) = used names
used ((byte ∷ bytes) ∷ names) = (byte ∷ bytes) ∷ used names
