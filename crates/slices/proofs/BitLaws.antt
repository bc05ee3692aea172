-- The bits of a string: each byte has eight, so a part of the string is a part of its bits; and strings of bytes with the same bits are the same.
use mathlib.Core.Path.{◌≡◌, refl, sym, ap, ap₂, ◌∙◌, subst}
use mathlib.Core.Bool.{Bool}
use mathlib.Core.List.{List, [], ◌∷◌, ◌++◌, append_assoc}
use Prim.Native.Nat.{ℕ, zero, suc, ◌+◌, ◌*◌, ◌<◌}
use native.Mathlib.Nat.{suc_inj, mod-eq_of_lt}
use native.Mathlib.Omega.{arith}
use lib.ListN.{length, take, drop, length-append}
use lib.Seq.{take_at, drop_at, get_or-append-add}
use Rattle.slices.specs.Bits.{low_bits, bits_of, Bytes}
use Rattle.slices.specs.Difference.{DifferWithin}
use Rattle.slices.proofs.DigitLaws.{in_digits, low_length, low_digits}

-- the bits of a byte say which it is
same_byte : (a b : ℕ) → a < 0x100 → b < 0x100 → low_bits 8 a ≡ low_bits 8 b → a ≡ b
same_byte a b h k e =
    let value : (x : ℕ) → x < 0x100 → in_digits 8 (low_bits 8 x) ≡ x = λ x l. low_digits 8 0 x ∙ omega (arith, mod-eq_of_lt l) in
    sym (value a h) ∙ ap (in_digits 8) e ∙ value b k

bits_length : (string : List ℕ) → length (bits_of string) ≡ length string * 8
unfolding bits_of
bits_length [] = refl
bits_length (byte ∷ bytes) = length-append (low_bits 8 byte) (bits_of bytes) ∙ omega (arith, low_length 8 byte, bits_length bytes)

bits_append : (xs ys : List ℕ) → bits_of (xs ++ ys) ≡ bits_of xs ++ bits_of ys
unfolding bits_of
bits_append [] ys = refl
bits_append (x ∷ xs) ys = ap (λ (bits : List Bool). low_bits 8 x ++ bits) (bits_append xs ys) ∙ sym (append_assoc (low_bits 8 x) (bits_of xs) (bits_of ys))

same_bits : (xs ys : List ℕ) → Bytes xs → Bytes ys → length xs ≡ length ys → bits_of xs ≡ bits_of ys → xs ≡ ys
unfolding bits_of
same_bits [] [] h k same e = refl
same_bits [] (y ∷ ys) h k same e = absurd (omega arith)
same_bits (x ∷ xs) [] h k same e = absurd (omega arith)
same_bits (x ∷ xs) (y ∷ ys) h k same e =
    ap₂ (λ (byte : ℕ) (bytes : List ℕ). byte ∷ bytes)
    (same_byte x y (h 0) (k 0)
    (sym (take_at (low_bits 8 x) (bits_of xs) 8 (low_length 8 x)) ∙ ap (take 8) e ∙ take_at (low_bits 8 y) (bits_of ys) 8 (low_length 8 y)))
    (same_bits xs ys (λ i. h (suc i)) (λ i. k (suc i)) (suc_inj same)
    (sym (drop_at (low_bits 8 x) (bits_of xs) 8 (low_length 8 x)) ∙ ap (drop 8) e ∙ drop_at (low_bits 8 y) (bits_of ys) 8 (low_length 8 y)))

-- a part of a string of bytes is one
bytes_front : (xs ys : List ℕ) → Bytes (xs ++ ys) → Bytes xs
bytes_front [] ys h i = omega arith
bytes_front (x ∷ xs) ys h zero = h 0
bytes_front (x ∷ xs) ys h (suc i) = bytes_front xs ys (λ j. h (suc j)) i

bytes_behind : (xs ys : List ℕ) → Bytes (xs ++ ys) → Bytes ys
bytes_behind xs ys h i = subst (λ (byte : ℕ). byte < 0x100) (get_or-append-add xs ys i 0) (h (length xs + i))

bytes_within : (xs before part behind : List ℕ) → xs ≡ before ++ (part ++ behind) → Bytes xs → Bytes part
bytes_within xs before part behind e h = bytes_front part behind (bytes_behind before (part ++ behind) (subst Bytes e h))

-- strings of bytes that differ within so many bytes differ within the bits of these
pub bits_differ : (size : ℕ) (xs ys : List ℕ) → Bytes xs → Bytes ys → DifferWithin size xs ys → DifferWithin (size * 8) (bits_of xs) (bits_of ys)
bits_differ size xs ys h k d =
    record {
      before = bits_of d.before;
      part = bits_of d.part;
      other = bits_of d.other;
      behind = bits_of d.behind;
      first = ap bits_of d.first ∙ three d.before d.part d.behind;
      second = ap bits_of d.second ∙ three d.before d.other d.behind;
      same_length = bits_length d.part ∙ ap (λ (n : ℕ). n * 8) d.same_length ∙ sym (bits_length d.other);
      adjacent = let short = d.adjacent in omega (arith, bits_length d.part);
      differ = λ e. d.differ (same_bits d.part d.other (bytes_within xs d.before d.part d.behind d.first h) (bytes_within ys d.before d.other d.behind d.second k) d.same_length e);
    }
  where
    three : (before part behind : List ℕ) → bits_of (before ++ (part ++ behind)) ≡ bits_of before ++ (bits_of part ++ bits_of behind)
    three before part behind = bits_append before (part ++ behind) ∙ ap (λ (bits : List Bool). bits_of before ++ bits) (bits_append part behind)
