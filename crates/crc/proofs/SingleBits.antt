-- Two linear functions that agree on each single bit agree everywhere, so what the code does at once to a byte, to two or to eight need only be
-- tried on those.
use mathlib.Core.Path.{◌≡◌, refl, sym, ap, ap₂, ◌∙◌, subst}
use mathlib.Core.List.{List}
use Prim.Native.Nat.{ℕ, zero, suc, ◌*◌, ◌/◌, ◌%◌, ◌^◌, ◌<◌}
use native.Mathlib.Nat.{mod-lt, one-mul, zero-mul}
use native.Mathlib.Numerals.{one-add}
use native.Mathlib.Omega.{arith}
use lib.Bits.{bit_xor, xor_self, xor_zero_r, xor_zero_l, xor_mod, xor_shr, xor_shifted}
use lib.Pow.{pow_pos, split, shr_lt}
use Rattle.slices.proofs.XorLaws.{xor_swap, xor_shl}
use Rattle.crc.proofs.Values.{values, same_values}

abbrev pub Linear : (ℕ → ℕ) → Type 0
Linear f = (a b : ℕ) → f (bit_xor a b) ≡ bit_xor (f a) (f b)

pub linear_then : (f g : ℕ → ℕ) → Linear f → Linear g → Linear (λ x. g (f x))
linear_then f g p q a b = ap g (p a b) ∙ q (f a) (f b)

pub linear_sum : (f g : ℕ → ℕ) → Linear f → Linear g → Linear (λ x. bit_xor (f x) (g x))
linear_sum f g p q a b = ap₂ bit_xor (p a b) (q a b) ∙ xor_swap (f a) (f b) (g a) (g b)

pub linear_self : Linear (λ x. x)
linear_self a b = refl

pub linear_down : (places : ℕ) → Linear (λ x. x / 2 ^ places)
linear_down places a b = xor_shr a b places

pub linear_low : (places : ℕ) → Linear (λ x. x % 2 ^ places)
linear_low places a b = xor_mod a b places

pub linear_up : (places : ℕ) → Linear (λ x. x * 2 ^ places)
linear_up places a b = sym (xor_shl places a b)

-- a linear function takes 0 to 0
at_zero : (f : ℕ → ℕ) → Linear f → f 0 ≡ 0
at_zero f p = p 0 0 ∙ xor_self (f 0)

-- a number below 2 ^ n is the exclusive-or of single bits
by_bits : (f g : ℕ → ℕ) → Linear f → Linear g → (n : ℕ) → ((bit : ℕ) → bit < n → f (2 ^ bit) ≡ g (2 ^ bit)) → (w : ℕ) → w < 2 ^ n → f w ≡ g w
by_bits f g p q zero same w h =
    let none : w ≡ 0 = omega arith in
    rw none (at_zero f p ∙ sym (at_zero g q))
by_bits f g p q (suc n) same w h =
    ap f parts ∙ p (w / 2 ^ n * 2 ^ n) (w % 2 ^ n)
    ∙ ap₂ bit_xor (top (w / 2 ^ n) (shr_lt 1 n (subst (λ (k : ℕ). w < 2 ^ k) (sym (one-add n)) h)))
    (by_bits f g p q n (λ bit below. same bit (omega arith)) (w % 2 ^ n) (mod-lt w (pow_pos n)))
    ∙ sym (q (w / 2 ^ n * 2 ^ n) (w % 2 ^ n)) ∙ ap g (sym parts)
  where
    parts : w ≡ bit_xor (w / 2 ^ n * 2 ^ n) (w % 2 ^ n)
    parts = sym (xor_shifted (w / 2 ^ n) n (w % 2 ^ n) (mod-lt w (pow_pos n)) ∙ split w n)

    top : (bit : ℕ) → bit < 2 → f (bit * 2 ^ n) ≡ g (bit * 2 ^ n)
    top zero k = rw (zero-mul (2 ^ n)) (at_zero f p ∙ sym (at_zero g q))
    top (suc zero) k = rw (one-mul (2 ^ n)) (same n (omega arith))
    top (suc (suc more)) k = absurd (omega arith)

-- linear in a register and in a number of bytes at once
abbrev pub Linear₂ : (ℕ → ℕ → ℕ) → Type 0
Linear₂ f = (q r a b : ℕ) → f (bit_xor q r) (bit_xor a b) ≡ bit_xor (f q a) (f r b)

-- the register is first added to the number
pub linear_added : (f g : ℕ → ℕ) → Linear f → Linear g → Linear₂ (λ register number. f (bit_xor (g register) number))
linear_added f g p q r s a b =
    ap f (ap (λ (x : ℕ). bit_xor x (bit_xor a b)) (q r s) ∙ xor_swap (g r) (g s) a b) ∙ p (bit_xor (g r) a) (bit_xor (g s) b)

-- f at each single bit of a register and at each single bit of a number below 2 ^ n
abbrev pub at_bits : (f : ℕ → ℕ → ℕ) (n : ℕ) → List ℕ × List ℕ
at_bits f n = (values (λ bit. f (2 ^ bit) 0) 16, values (λ bit. f 0 (2 ^ bit)) n)

pub agree : (f g : ℕ → ℕ → ℕ) → Linear₂ f → Linear₂ g → (n : ℕ) → at_bits f n ≡ at_bits g n → (r w : ℕ) → r < 2 ^ 16 → w < 2 ^ n → f r w ≡ g r w
agree f g p q n same r w small short =
    sym (ap₂ f (xor_zero_r r) (xor_zero_l w)) ∙ p r 0 0 w ∙ ap₂ bit_xor register number ∙ sym (q r 0 0 w) ∙ ap₂ g (xor_zero_r r) (xor_zero_l w)
  where
    register : f r 0 ≡ g r 0
    register =
        by_bits (λ x. f x 0) (λ x. g x 0) (λ a b. p a b 0 0) (λ a b. q a b 0 0) 16
        (same_values (λ bit. f (2 ^ bit) 0) (λ bit. g (2 ^ bit) 0) 16 (ap (λ lists. lists.0) same)) r small

    number : f 0 w ≡ g 0 w
    number =
        by_bits (f 0) (g 0) (p 0 0) (q 0 0) n
        (same_values (λ bit. f 0 (2 ^ bit)) (λ bit. g 0 (2 ^ bit)) n (ap (λ lists. lists.1) same)) w short
