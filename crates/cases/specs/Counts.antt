-- A reader's answer: how many of a buffer's bytes it has put there, which are the first ones.
use Rattle.std.specs.Prelude.{◌≡◌, ℕ, ◌≤◌, List, length, take}

-- The buffer has so many bytes, and so many are taken where they are cut off: what a caller's slice of them owes.
abbrev pub IsPrefixLen : ℕ → List ℕ → Type 0
IsPrefixLen count buffer = (count ≤ length buffer) × (count ≡ length (take count buffer))
