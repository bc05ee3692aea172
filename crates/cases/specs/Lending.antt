-- What a case lends: a buffer as long as its first byte says, of at most so many bytes.
use Rattle.std.specs.Prelude.{◌≡◌, ℕ, ◌≤◌, ◌<◌, List, [], ◌∷◌, ◌⊎◌}
use Rattle.cases.specs.Line.{key_of}

-- the first byte is the length, and what stands behind it is left for the case
abbrev pub Lends : List ℕ → ℕ → ℕ → List ℕ → Type 0
Lends bytes most room rest = (bytes ≡ room ∷ rest) × (room ≤ most)

-- there is no length, or it is too long
abbrev pub LendsNothing : List ℕ → ℕ → Type 0
LendsNothing bytes most = (bytes ≡ []) ⊎ (most < key_of bytes)
