-- What is unstuffed from bytes is bytes.
use mathlib.Core.Path.{◌≡◌, refl, sym, subst}
use mathlib.Core.Bool.{Bool, true, false, cond}
use mathlib.Core.List.{List, [], ◌∷◌}
use Prim.Native.Nat.{ℕ, zero, suc, ◌<◌}
use native.Mathlib.Omega.{arith}
use lib.Dec.{eqb}
use Rattle.slices.proofs.Impossible.{impossible}
use Rattle.slices.specs.Bits.{Bytes}
use Rattle.frame.specs.Stuffing.{State, plain, escaped, Meaning, escapes_next, stands_for, faulty, meaning, Unstuffed, content, taken, unstuff_from}
use Rattle.frame.proofs.BoundLaws.{stood_for}

bytes_joined : (v : ℕ) (rest : List ℕ) → v < 0x100 → Bytes rest → Bytes (v ∷ rest)
bytes_joined v rest h k zero = h
bytes_joined v rest h k (suc i) = k i

meant : (s : State) (b v : ℕ) → b < 0x100 → meaning s b ≡ stands_for v → v < 0x100
meant plain b v h e = cases (eqb b 0x7d) e
  where
    cases : (t : Bool) → cond t escapes_next (stands_for b) ≡ stands_for v → v < 0x100
    cases true e = impossible cc
    cases false e = let same : b ≡ v = cc in rw (← same) h
meant escaped b v h e = cases (eqb b 0x5e) (eqb b 0x5d) e
  where
    cases : (t u : Bool) → cond t (stands_for 0x7e) (cond u (stands_for 0x7d) faulty) ≡ stands_for v → v < 0x100
    cases true u e = let same : 0x7e ≡ v = cc in omega arith
    cases false true e = let same : 0x7d ≡ v = cc in omega arith
    cases false false e = impossible cc

taken_bytes : (m : Meaning) (held place : ℕ) (rest : State → ℕ → Unstuffed) (c : List ℕ) → ((v : ℕ) → m ≡ stands_for v → v < 0x100)
    → ((s₁ : State) (held₁ : ℕ) (c₁ : List ℕ) → rest s₁ held₁ ≡ content c₁ → Bytes c₁) → taken m held place rest ≡ content c → Bytes c
taken_bytes escapes_next held place rest c small known e = known escaped held c e
taken_bytes (stands_for v) held place rest c small known e =
    let j = stood_for v held place rest c e in
    subst Bytes (sym j.whole) (bytes_joined v j.rest (small v refl) (known plain (suc held) j.rest j.is))
taken_bytes faulty held place rest c small known e = impossible cc

pub unstuffed_bytes : (s : State) (held place : ℕ) (run c : List ℕ) → Bytes run → unstuff_from s held place run ≡ content c → Bytes c
unfolding unstuff_from
unstuffed_bytes plain held place [] c h e = let none : [] ≡ c = cc in subst Bytes none h
unstuffed_bytes escaped held place [] c h e = impossible cc
unstuffed_bytes s held place (b ∷ bs) c h e =
    taken_bytes (meaning s b) held (suc place) (λ s₁ held₁. unstuff_from s₁ held₁ (suc place) bs) c (λ v. meant s b v (h 0))
    (λ s₁ held₁ c₁. unstuffed_bytes s₁ held₁ (suc place) bs c₁ (λ i. h (suc i))) e
