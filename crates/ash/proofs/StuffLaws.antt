-- A byte of payload becomes two bytes where it is reserved, else it stays one.
use mathlib.Core.Path.{◌≡◌}
use mathlib.Core.Bool.{Bool, true, false, cond}
use mathlib.Core.List.{List, [], ◌∷◌}
use Prim.Native.Nat.{ℕ, ◌*◌, ◌≤◌}
use native.Mathlib.Omega.{arith}
use lib.ListN.{length}
use Rattle.slices.proofs.EachLaws.{length_each, least_each}
use Rattle.ash.specs.Reserved.{escape_byte, reserved, flipped}
use Rattle.ash.specs.Stuffing.{stuff_byte, stuff}

pub byte_escaped : (b : ℕ) → reserved b ≡ true → stuff_byte b ≡ escape_byte ∷ flipped b ∷ []
byte_escaped b e = rw e

pub byte_plain : (b : ℕ) → reserved b ≡ false → stuff_byte b ≡ b ∷ []
byte_plain b e = rw e

-- one byte at least, and two at most
one_or_two : (b : ℕ) → (1 ≤ length (stuff_byte b)) × (length (stuff_byte b) ≤ 2)
one_or_two b = cases (reserved b)
  where
    cases : (t : Bool)
        → (1 ≤ length (cond t (escape_byte ∷ flipped b ∷ []) (b ∷ []))) × (length (cond t (escape_byte ∷ flipped b ∷ []) (b ∷ [])) ≤ 2)
    cases true = (omega arith, omega arith)
    cases false = (omega arith, omega arith)

pub stuff_least : (s : List ℕ) → length s ≤ length (stuff s)
stuff_least s = least_each stuff_byte (λ b. (one_or_two b).0) s

pub length_stuff : (s : List ℕ) → length (stuff s) ≤ 2 * length s
length_stuff s = length_each stuff_byte (λ b. (one_or_two b).1) s
