-- A byte of content becomes two bytes where it is a flag or an escape byte, else it stays one.
use mathlib.Core.Path.{◌≡◌}
use mathlib.Core.Bool.{Bool, true, false, cond}
use mathlib.Core.List.{List, [], ◌∷◌}
use Prim.Native.Nat.{ℕ, ◌*◌, ◌≤◌}
use native.Mathlib.Omega.{arith}
use lib.Dec.{eqb}
use lib.ListN.{length}
use borrow.Author.Tests.{ne_eqb}
use Rattle.slices.proofs.EachLaws.{length_each}
use Rattle.frame.specs.Stuffing.{stuff_byte, stuff}

pub stuff_other : (b : ℕ) → (b ≡ 0x7e → ⊥) → (b ≡ 0x7d → ⊥) → stuff_byte b ≡ b ∷ []
stuff_other b ne nd = rw (ne_eqb b 0x7e ne, ne_eqb b 0x7d nd)

-- no byte becomes more than two
size_at_most : (b : ℕ) → length (stuff_byte b) ≤ 2
size_at_most b = cases (eqb b 0x7e) (eqb b 0x7d)
  where
    cases : (t u : Bool) → length (cond t (0x7d ∷ 0x5e ∷ []) (cond u (0x7d ∷ 0x5d ∷ []) (b ∷ []))) ≤ 2
    cases true u = omega arith
    cases false true = omega arith
    cases false false = omega arith

pub length_stuff : (s : List ℕ) → length (stuff s) ≤ 2 * length s
length_stuff s = length_each stuff_byte size_at_most s
