-- What holds of the five reserved bytes holds of each byte that is reserved; so none of them is reserved with bit 5 flipped.
use mathlib.Core.Path.{◌≡◌, refl}
use mathlib.Core.Bool.{Bool, true, false, ◌||◌}
use Prim.Native.Nat.{ℕ, ◌/◌, ◌%◌}
use native.Mathlib.Omega.{arith}
use lib.Dec.{eqb}
use borrow.Author.Tests.{eqb-true, ne_eqb}
use Rattle.slices.proofs.Impossible.{impossible}
use Rattle.slices.proofs.XorLaws.{xor_twice}
use Rattle.ash.specs.Reserved.{reserved, flipped}

pub reserved_five : (P : ℕ → Type 0) → P 0x7e → P 0x7d → P 0x11 → P 0x13 → P 0xf8 → (b : ℕ) → reserved b ≡ true → P b
unfolding reserved
reserved_five P flag escape xon xoff unnamed b h =
    cases (eqb b 0x7e) (eqb b 0x7d) (eqb b 0x11) (eqb b 0x13) (eqb b 0xf8) refl refl refl refl refl h
  where
    cases : (t u v w x : Bool) → eqb b 0x7e ≡ t → eqb b 0x7d ≡ u → eqb b 0x11 ≡ v → eqb b 0x13 ≡ w → eqb b 0xf8 ≡ x
        → (t || u || v || w || x) ≡ true → P b
    cases true u v w x e f g i j h = let is : b ≡ 0x7e = eqb-true b 0x7e e in rw is flag
    cases false true v w x e f g i j h = let is : b ≡ 0x7d = eqb-true b 0x7d f in rw is escape
    cases false false true w x e f g i j h = let is : b ≡ 0x11 = eqb-true b 0x11 g in rw is xon
    cases false false false true x e f g i j h = let is : b ≡ 0x13 = eqb-true b 0x13 i in rw is xoff
    cases false false false false true e f g i j h = let is : b ≡ 0xf8 = eqb-true b 0xf8 j in rw is unnamed
    cases false false false false false e f g i j h = impossible cc

-- no other byte is reserved
pub not_reserved : (b : ℕ) → (b ≡ 0x7e → ⊥) → (b ≡ 0x7d → ⊥) → (b ≡ 0x11 → ⊥) → (b ≡ 0x13 → ⊥) → (b ≡ 0xf8 → ⊥) → reserved b ≡ false
unfolding reserved
not_reserved b flag escape xon xoff unnamed =
    rw (ne_eqb b 0x7e flag, ne_eqb b 0x7d escape, ne_eqb b 0x11 xon, ne_eqb b 0x13 xoff, ne_eqb b 0xf8 unnamed)

-- 002, 3.10: all reserved bytes have bit 4 set
pub without_bit_4 : (b : ℕ) → b / 0x10 % 2 ≡ 0 → reserved b ≡ false
without_bit_4 b h = not_reserved b (λ e. omega arith) (λ e. omega arith) (λ e. omega arith) (λ e. omega arith) (λ e. omega arith)

-- a byte that is not reserved is none that is
pub unlike_reserved : (b v : ℕ) → reserved b ≡ false → reserved v ≡ true → b ≡ v → ⊥
unlike_reserved b v free is e = impossible cc

-- bit 5 flipped twice is as it was
pub flipped_twice : (b : ℕ) → flipped (flipped b) ≡ b
flipped_twice b = xor_twice b 0x20

-- a reserved byte with bit 5 flipped is none
pub flipped_free : (b : ℕ) → reserved b ≡ true → reserved (flipped b) ≡ false
unfolding reserved
flipped_free b h = reserved_five (λ b. reserved (flipped b) ≡ false) refl refl refl refl refl b h
