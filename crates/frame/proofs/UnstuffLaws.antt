-- One byte of unstuffing: what it means, and what it then gives, or the end.
use mathlib.Core.Path.{◌≡◌, refl}
use mathlib.Core.List.{List, [], ◌∷◌}
use mathlib.Core.Bool.{Bool, true, false}
use Prim.Native.Nat.{ℕ, suc, ◌+◌, ◌-◌, ◌≤◌, ◌<◌}
use native.Mathlib.Numerals.{add-one}
use native.Mathlib.Omega.{arith}
use lib.ListN.{length, take, drop, get_or}
use lib.Dec.{eqb}
use borrow.Author.Tests.{eq-eqb, ne_eqb, eqb-true, eqb-false}
use Rattle.std.proofs.lemmas.List.{take_all}
use Rattle.frame.specs.Stuffing.{State, plain, escaped, escapes_next, stands_for, faulty, meaning, taken, closed, unstuff_from}

-- what a byte means in the plain state
pub plain_escape : (b : ℕ) → b ≡ 0x7d → meaning plain b ≡ escapes_next
plain_escape b e = rw (eq-eqb b 0x7d e)

pub plain_byte : (b : ℕ) → (b ≡ 0x7d → ⊥) → meaning plain b ≡ stands_for b
plain_byte b ne = rw (ne_eqb b 0x7d ne)

-- and in the escaped one
pub escaped_byte : (b : ℕ) → 0x5d ≤ b → b ≤ 0x5e → meaning escaped b ≡ stands_for (b + 0x20)
escaped_byte b low high = cases (eqb b 0x5e) refl
  where
    cases : (t : Bool) → eqb b 0x5e ≡ t → meaning escaped b ≡ stands_for (b + 0x20)
    cases true e = let is : b ≡ 0x5e = eqb-true b 0x5e e in rw is
    cases false e =
        let ne : b ≡ 0x5e → ⊥ = eqb-false b 0x5e e in
        let is : b ≡ 0x5d = omega arith in
        rw is

pub escaped_fault : (b : ℕ) → (b ≡ 0x5e → ⊥) → (b ≡ 0x5d → ⊥) → meaning escaped b ≡ faulty
escaped_fault b ne nd = rw (ne_eqb b 0x5e ne, ne_eqb b 0x5d nd)

-- the bytes sent behind the first, as a part of the slice
abbrev pub behind : List ℕ → List ℕ
behind sent = take (length sent - 1) (drop 1 sent)

module _ (s : State) (held place : ℕ) where
  pub unstuff_none : (sent : List ℕ) → length sent ≡ 0 → unstuff_from s held place sent ≡ closed s (place + 1)
  unfolding unstuff_from
  unstuff_none [] none = simp add-one
  unstuff_none (b ∷ bs) none = absurd (omega arith)

  pub unstuff_first : (sent : List ℕ) → 0 < length sent
      → unstuff_from s held place sent ≡ taken (meaning s (get_or sent 0 0)) held (place + 1) (λ s₁ held₁. unstuff_from s₁ held₁ (place + 1) (behind sent))
  unfolding unstuff_from
  unstuff_first [] some = absurd (omega arith)
  unstuff_first (b ∷ bs) some =
      let all : take (suc (length bs) - 1) bs ≡ bs = take_all (suc (length bs) - 1) bs (omega arith) in
      simp (all, add-one)
