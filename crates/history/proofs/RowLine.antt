-- The line of a row that has a name is the name and the state.
use mathlib.Core.Path.{◌≡◌, refl}
use mathlib.Core.List.{List, [], ◌∷◌, ◌++◌}
use Prim.Native.Nat.{ℕ}
use mathlib.Core.Bool.{false}
use Rattle.std.specs.Prelude.{◌==◌}
use Rattle.slices.proofs.Impossible.{impossible}
use lib.ListN.{length}
use Rattle.rows.specs.Rows.{row_name}
use Rattle.rows.specs.declared.Row.{Row}
use Rattle.history.specs.Lines.{state_text, line_of, row_line}

named : (name text : List ℕ) → false ≡ (length name == 0) → name ++ text ≡ line_of name text
named [] text h = impossible cc
named (byte ∷ bytes) text h = refl

pub named_row : (row : Row) (name : List ℕ) → name ≡ row_name row → false ≡ (length name == 0) → name ++ state_text row.state ≡ row_line row
named_row row name is h = rw (← is) (named name (state_text row.state) h)
