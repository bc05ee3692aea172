-- The laws of the rows: one of them is stored anew, and a name is looked for row by row.
use mathlib.Core.Path.{◌≡◌, refl, ap, ◌∙◌}
use mathlib.Core.Bool.{Bool, true, false, cond}
use mathlib.Core.List.{List, [], ◌∷◌, map}
use mathlib.Core.Option.{Option, some}
use Prim.Native.Nat.{ℕ, zero, suc, ◌≤◌, ◌<◌}
use native.Mathlib.Omega.{arith}
use lib.ListN.{length, get_or, set}
use Rattle.slices.specs.Same.{same_bytes}
use Rattle.rows.specs.declared.Row.{Row}
use Rattle.rows.specs.declared.State.TheVariants.{Never}
use Rattle.rows.specs.Rows.{row_name, change_at, as_place}
use Rattle.rows.specs.Names.{place_from, place_of}
use Rattle.std.specs.Prelude.{Some, position}
use Rattle.std.specs.List.{position_from}
use Rattle.std.proofs.lemmas.Iterator.Adapters.{position_from-zero}
use native.Mathlib.Numerals.{add-one}

-- where code reads past the last row it would see this
abbrev pub no_row : Row
no_row = record { name = record { length = 0; bytes = [] }; state = Never }

-- the row at place is stored anew
pub change_set : (f : Row → Row) (place : ℕ) (rows : List Row) → place < length rows → change_at f place rows ≡ set rows place (f (get_or rows place no_row))
unfolding change_at
change_set f place [] h = absurd (omega arith)
change_set f zero (row ∷ rows) h = refl
change_set f (suc place) (row ∷ rows) h = ap (λ r. row ∷ r) (change_set f place rows (omega arith))

-- past the last row nothing changes
pub change_out : (f : Row → Row) (place : ℕ) (rows : List Row) → length rows ≤ place → change_at f place rows ≡ rows
unfolding change_at
change_out f place [] h = refl
change_out f zero (row ∷ rows) h = absurd (omega arith)
change_out f (suc place) (row ∷ rows) h = ap (λ r. row ∷ r) (change_out f place rows (omega arith))

-- whether a row has the name
abbrev pub named : List ℕ → Row → Bool
named name row = same_bytes (row_name row) name

placed_from : (name : List ℕ) (rows : List Row) (at : ℕ) → position_from (named name) at rows ≡ as_place (place_from at name (map row_name rows))
unfolding place_from
placed_from name [] at = refl
placed_from name (row ∷ rows) at =
    rw (add-one, placed_from name rows (suc at)) (either (named name row) (place_from (suc at) name (map row_name rows)))
  where
    either : (t : Bool) (later : Option ℕ) → cond t (Some at) (as_place later) ≡ as_place (cond t (some at) later)
    either true later = refl
    either false later = refl

-- the first row that has the name is where the name first stands
pub placed : (name : List ℕ) (rows : List Row) → position (named name) rows ≡ as_place (place_of name (map row_name rows))
placed name rows = position_from-zero (named name) rows ∙ placed_from name rows 0
