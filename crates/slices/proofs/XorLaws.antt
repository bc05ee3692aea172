-- The laws of the exclusive-or that `lib.Bits` does not have. They hold of all numbers, whatever their size, so what is built on them needs
-- no bound.
use mathlib.Core.Path.{◌≡◌, sym, ap, ap₂, ◌∙◌}
use Prim.Native.Nat.{ℕ, ◌*◌, ◌^◌}
use native.Mathlib.Nat.{add-zero}
use lib.Bits as bits
use lib.Bits.{bit_xor, xor_comm, xor_block, xor_self, xor_zero_l, xor_zero_r}
use lib.Pow.{pow_pos}

-- the sum of three has no order
pub xor_assoc : (a b c : ℕ) → bit_xor (bit_xor a b) c ≡ bit_xor a (bit_xor b c)
xor_assoc = bits.xor_assoc

-- the two in the middle change places
pub xor_swap : (a b c d : ℕ) → bit_xor (bit_xor a b) (bit_xor c d) ≡ bit_xor (bit_xor a c) (bit_xor b d)
xor_swap a b c d =
    xor_assoc a b (bit_xor c d) ∙ ap (bit_xor a) (sym (xor_assoc b c d) ∙ ap (λ (x : ℕ). bit_xor x d) (xor_comm b c) ∙ xor_assoc c b d)
    ∙ sym (xor_assoc a c (bit_xor b d))

-- a number that is added twice is gone
pub xor_twice : (a b : ℕ) → bit_xor (bit_xor a b) b ≡ a
xor_twice a b = xor_assoc a b b ∙ ap (bit_xor a) (xor_self b) ∙ xor_zero_r a

-- two numbers whose exclusive-or is 0 are the same
pub xor_none : (a b : ℕ) → bit_xor a b ≡ 0 → a ≡ b
xor_none a b e = sym (xor_twice a b) ∙ ap (λ (x : ℕ). bit_xor x b) e ∙ xor_zero_l b

-- a number that is added to both changes nothing of what they differ by
pub xor_added : (a b added : ℕ) → bit_xor (bit_xor a added) (bit_xor b added) ≡ bit_xor a b
xor_added a b added = xor_swap a added b added ∙ ap (bit_xor (bit_xor a b)) (xor_self added) ∙ xor_zero_r (bit_xor a b)

-- both moved up by k places
pub xor_shl : (k a b : ℕ) → bit_xor (a * 2 ^ k) (b * 2 ^ k) ≡ bit_xor a b * 2 ^ k
xor_shl k a b =
    ap₂ bit_xor (sym (add-zero (a * 2 ^ k))) (sym (add-zero (b * 2 ^ k)))
    ∙ xor_block k a b 0 0 (pow_pos k) (pow_pos k) ∙ add-zero (bit_xor a b * 2 ^ k)
