-- Bytes over a lent buffer, the rest stays: the one definition that every contract over a lent buffer cites.
use Rattle.std.specs.Prelude.{ℕ, List}
use Rattle.std.proofs.lemmas.List.Edits.{sets}

-- d with the bytes xs stored one after the other from the place at on. A refusal puts no bytes, and then it is d itself;
-- a byte that would fall past the end of d is dropped.
abbrev pub put_at : List ℕ → ℕ → List ℕ → List ℕ
put_at d at xs = sets d at xs
