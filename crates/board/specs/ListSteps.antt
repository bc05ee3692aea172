-- How the code reads a watch list: field by field. The proof of `watch_list` ties this to the definitions of WatchList.
use Rattle.std.specs.Prelude.{ℕ, cond, List, [], ◌∷◌, take, drop, Option, Some, None}
use Rattle.slices.specs.HighFirst.{pair_of}
use Rattle.board.specs.WatchList.{is_whole}

-- the name that the fields begin with and the fields behind it, or none where they begin with another field or a cut one
unfoldable pub field_of : List ℕ → Option (List ℕ × List ℕ)
field_of [] = None
field_of (tag ∷ []) = None
field_of (tag ∷ high ∷ []) = None
field_of (tag ∷ high ∷ low ∷ rest) =
    cond (is_whole tag (pair_of high low) rest) (Some (take (pair_of high low) rest, drop (pair_of high low) rest)) None
