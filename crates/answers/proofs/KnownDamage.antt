-- 02, C-19, on contents that can be looked at: there is damage within 16 adjacent bits, and it is seen; one bit more is more than the check covers.
use mathlib.Core.Path.{◌≡◌, refl, sym, ◌∙◌}
use mathlib.Core.Bool.{Bool, true, false, ◌&&◌}
use mathlib.Core.List.{List, [], ◌∷◌, ◌++◌}
use Prim.Native.Nat.{ℕ, zero, suc, ◌+◌, ◌<◌}
use native.Mathlib.Omega.{arith}
use lib.Dec.{ltb}
use lib.ListN.{length, take, drop, get_or}
use lib.Pow.{are_bytes}
use borrow.Author.Tests.{ltb-true}
use Rattle.slices.proofs.Impossible.{impossible}
use Rattle.slices.specs.Bits.{low_bits, bits_of, Bytes}
use Rattle.slices.specs.Difference.{DifferWithin}
use Rattle.crc.specs.Burst.{Burst}
use Rattle.crc.specs.Crc.{link_start, shift_bit, shift_bits, add_byte, crc_of}
use Rattle.frame.specs.Reading.{between}
use Rattle.answers.specs.Table.{frame6}

-- a string whose bytes were computed to be bytes
pub bytes : (string : List ℕ) → are_bytes string ≡ true → Bytes string
bytes [] e i = omega arith
bytes (byte ∷ more) e i = by_first (ltb byte 0x100) refl e i (bytes more)
  where
    by_first : (small : Bool) → ltb byte 0x100 ≡ small → small && are_bytes more ≡ true → (i : ℕ) → (are_bytes more ≡ true → Bytes more)
        → get_or (byte ∷ more) i 0 < 0x100
    by_first true f e zero rest = ltb-true byte 0x100 f
    by_first true f e (suc i) rest = rest e i
    by_first false f e i rest = impossible cc

-- the bits of two bytes
pub high_bit_first : bits_of (0x01 ∷ 0xc0 ∷ []) ≡ false ∷ false ∷ false ∷ false ∷ false ∷ false ∷ false ∷ true ∷ true ∷ true ∷ false ∷ false ∷ false ∷ false ∷ false ∷ false ∷ []
unfolding bits_of low_bits
high_bit_first = refl

-- the content of 01's case 6, in which no byte is escaped; its value 00 00 0d 7a is 3450
abbrev pub case_6 : List ℕ
case_6 = between frame6

-- damaged within the 16 bits from the fourth bit of its value on
abbrev pub burst_16 : List ℕ
burst_16 = 0x01 ∷ 0x00 ∷ 0x01 ∷ 0x03 ∷ 0x00 ∷ 0x00 ∷ 0x01 ∷ 0x02 ∷ 0x68 ∷ 0x31 ∷ 0x16 ∷ 0x04 ∷ 0x13 ∷ 0x86 ∷ 0x2d ∷ 0x7a ∷ 0x1a ∷ 0xa4 ∷ []

-- damaged within 17 bits, by the polynomial with its highest bit, 1 10 21: the value 00 01 1d 5b is 73051
abbrev burst_17 : List ℕ
burst_17 = 0x01 ∷ 0x00 ∷ 0x01 ∷ 0x03 ∷ 0x00 ∷ 0x00 ∷ 0x01 ∷ 0x02 ∷ 0x68 ∷ 0x31 ∷ 0x16 ∷ 0x04 ∷ 0x00 ∷ 0x01 ∷ 0x1d ∷ 0x5b ∷ 0x1a ∷ 0xa4 ∷ []

-- that two strings of bits differ only within the size bits from a place on is computed
within : (size place : ℕ) (xs ys : List Bool) → xs ≡ take place xs ++ (take size (drop place xs) ++ drop (place + size) xs)
    → ys ≡ take place xs ++ (take size (drop place ys) ++ drop (place + size) xs) → length (take size (drop place xs)) ≡ size
    → length (take size (drop place ys)) ≡ size → (take size (drop place xs) ≡ take size (drop place ys) → ⊥) → DifferWithin size xs ys
within size place xs ys first second bits other-bits differ =
    record {
      before = take place xs;
      part = take size (drop place xs);
      other = take size (drop place ys);
      behind = drop (place + size) xs;
      first = first;
      second = second;
      same_length = bits ∙ sym other-bits;
      adjacent = omega (arith, bits);
      differ = differ;
    }

-- the damage is there, and seen
pub sixteen_bits : Burst case_6 burst_16 × (crc_of link_start case_6 ≡ 0) × (crc_of link_start burst_16 ≡ 0x0c7f)
unfolding bits_of low_bits crc_of add_byte shift_bits shift_bit
sixteen_bits = (
  record {
    bytes = bytes case_6 refl;
    other_bytes = bytes burst_16 refl;
    damage = within 16 99 (bits_of case_6) (bits_of burst_16) refl refl refl refl (λ e. impossible cc);
  },
  refl,
  refl,
)

-- and by 17 bits not: both pass
pub seventeen_bits : DifferWithin 17 (bits_of case_6) (bits_of burst_17) × (crc_of link_start burst_17 ≡ 0)
unfolding bits_of low_bits crc_of add_byte shift_bits shift_bit
seventeen_bits = (within 17 111 (bits_of case_6) (bits_of burst_17) refl refl refl refl (λ e. impossible cc), refl)
