-- Eight or two bytes added to the register at once. Both what the code does and the check are linear (02, C-24), so for each of the two steps
-- one test, of each single bit of the register and of the bytes, is computed.
use mathlib.Core.Path.{◌≡◌, refl, sym, ap, ◌∙◌}
use Prim.Native.Nat.{ℕ, ◌*◌, ◌/◌, ◌%◌, ◌^◌, ◌<◌}
use lib.Bits.{bit_xor}
use Rattle.slices.specs.HighFirst.{high_first}
use Rattle.slices.proofs.HighFirstLaws.{high_length}
use Rattle.slices.proofs.XorStrings.{high_xor}
use Rattle.crc.specs.Crc.{shift_bit, shift_bits, add_byte, crc_of}
use Rattle.crc.proofs.LinearLaws.{crc_xor}
use Rattle.crc.proofs.SingleBits.{Linear, Linear₂, linear_added, linear_down, linear_low, linear_self, linear_sum, linear_then, linear_up, agree}

-- the check of a number's bytes, in the register and the number
abbrev pub checked : ℕ → ℕ → ℕ → ℕ
checked count r w = crc_of r (high_first count w)

checked_linear : (count : ℕ) → Linear₂ (checked count)
checked_linear count q r a b =
    ap (crc_of (bit_xor q r)) (high_xor count a b)
    ∙ crc_xor q r (high_first count a) (high_first count b) (high_length count a ∙ sym (high_length count b))

-- what the code does to a word: the factors 1 + u, 1 + u^2, 1 + u^4 and 1 + u^8, as far as a word has their places; then the quotient is
-- multiplied with the polynomial, and the low 16 bits stay
abbrev once : ℕ → ℕ
once x = bit_xor (bit_xor (bit_xor x (x / 2 ^ 4)) (x / 2 ^ 11)) (x / 2 ^ 16)

abbrev twice : ℕ → ℕ
twice x = bit_xor (bit_xor (bit_xor x (x / 2 ^ 8)) (x / 2 ^ 22)) (x / 2 ^ 32)

abbrev four_times : ℕ → ℕ
four_times x = bit_xor (bit_xor x (x / 2 ^ 16)) (x / 2 ^ 44)

abbrev eight_times : ℕ → ℕ
eight_times x = bit_xor x (x / 2 ^ 32)

abbrev times_polynomial : ℕ → ℕ
times_polynomial x = bit_xor (bit_xor x (x * 2 ^ 5)) (x * 2 ^ 12)

abbrev remainder_of : ℕ → ℕ
remainder_of w = times_polynomial (eight_times (four_times (twice (once w))) % 2 ^ 16) % 2 ^ 16

-- one more move added
with_down : (f : ℕ → ℕ) (places : ℕ) → Linear f → Linear (λ x. bit_xor (f x) (x / 2 ^ places))
with_down f places p = linear_sum f (λ x. x / 2 ^ places) p (linear_down places)

three_linear : (i j k : ℕ) → Linear (λ x. bit_xor (bit_xor (bit_xor x (x / 2 ^ i)) (x / 2 ^ j)) (x / 2 ^ k))
three_linear i j k =
    with_down (λ x. bit_xor (bit_xor x (x / 2 ^ i)) (x / 2 ^ j)) k (with_down (λ x. bit_xor x (x / 2 ^ i)) j (with_down (λ x. x) i linear_self))

times_linear : Linear times_polynomial
times_linear =
    linear_sum (λ x. bit_xor x (x * 2 ^ 5)) (λ x. x * 2 ^ 12) (linear_sum (λ x. x) (λ x. x * 2 ^ 5) linear_self (linear_up 5)) (linear_up 12)

remainder_linear : Linear remainder_of
remainder_linear =
    linear_then once (λ x. times_polynomial (eight_times (four_times (twice x)) % 2 ^ 16) % 2 ^ 16) (three_linear 4 11 16)
    (linear_then twice (λ x. times_polynomial (eight_times (four_times x) % 2 ^ 16) % 2 ^ 16) (three_linear 8 22 32)
    (linear_then four_times (λ x. times_polynomial (eight_times x % 2 ^ 16) % 2 ^ 16)
    (with_down (λ x. bit_xor x (x / 2 ^ 16)) 44 (with_down (λ x. x) 16 linear_self))
    (linear_then eight_times (λ x. times_polynomial (x % 2 ^ 16) % 2 ^ 16) (with_down (λ x. x) 32 linear_self)
    (linear_then (λ x. x % 2 ^ 16) (λ x. times_polynomial x % 2 ^ 16) (linear_low 16)
    (linear_then times_polynomial (λ x. x % 2 ^ 16) times_linear (linear_low 16))))))

-- eight bytes: the register stands before the first two
abbrev added_word : ℕ → ℕ → ℕ
added_word r w = remainder_of (bit_xor (r * 2 ^ 48) w)

pub word_added : (r w : ℕ) → r < 2 ^ 16 → w < 2 ^ 64 → added_word r w ≡ checked 8 r w
unfolding crc_of add_byte shift_bits shift_bit
word_added =
    agree added_word (checked 8) (linear_added remainder_of (λ r. r * 2 ^ 48) remainder_linear (linear_up 48)) (checked_linear 8) 64 refl

-- two bytes with the register added to them, as the last two of a word behind the register 0
abbrev added_pair : ℕ → ℕ → ℕ
added_pair r w = checked 8 0 (bit_xor r w)

pub pair_added : (r w : ℕ) → r < 2 ^ 16 → w < 2 ^ 16 → added_pair r w ≡ checked 2 r w
unfolding crc_of add_byte shift_bits shift_bit
pair_added = agree added_pair (checked 2) (linear_added (checked 8 0) (λ r. r) (checked_linear 8 0 0) linear_self) (checked_linear 2) 16 refl
