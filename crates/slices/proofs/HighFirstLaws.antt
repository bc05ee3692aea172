-- A number's bytes are read back as the number, and bytes are the bytes of their number: each byte that is written last is what the division
-- by 256 leaves.
use mathlib.Core.Path.{◌≡◌, refl, sym, ap, ◌∙◌}
use mathlib.Core.List.{List, [], ◌∷◌, ◌++◌, append_assoc, append-nil}
use Prim.Native.Nat.{ℕ, zero, suc, ◌+◌, ◌*◌, ◌/◌, ◌%◌, ◌<◌}
use native.Mathlib.Nat.{zero-add}
use native.Mathlib.Numerals.{add-one}
use native.Mathlib.Omega.{arith}
use lib.ListN.{length, get_or, length-append}
use Rattle.slices.specs.HighFirst.{word_from, word_of, pair_of, high_first}

-- one byte more behind the others
word_last : (bytes : List ℕ) (sum byte : ℕ) → word_from sum (bytes ++ (byte ∷ [])) ≡ word_from sum bytes * 256 + byte
word_last [] sum byte = refl
word_last (first ∷ bytes) sum byte = word_last bytes (sum * 256 + first) byte

-- a number in one byte or more
pub word_back : (more number : ℕ) → word_of (high_first (suc more) number) ≡ number
word_back zero number = omega arith
word_back (suc more) number =
    let high : word_of (high_first (suc more) (number / 256)) ≡ number / 256 = word_back more (number / 256) in
    word_last (high_first (suc more) (number / 256)) 0 (number % 256) ∙ rw high (omega arith)

pub high_length : (count number : ℕ) → length (high_first count number) ≡ count
high_length zero number = refl
high_length (suc zero) number = refl
high_length (suc (suc more)) number =
    length-append (high_first (suc more) (number / 256)) (number % 256 ∷ []) ∙ add-one (length (high_first (suc more) (number / 256)))
    ∙ ap suc (high_length (suc more) (number / 256))

-- one byte more behind a number in one byte or more
high_last : (more number byte : ℕ) → byte < 256 → high_first (suc (suc more)) (number * 256 + byte) ≡ high_first (suc more) number ++ (byte ∷ [])
high_last more number byte small =
    let before : (number * 256 + byte) / 256 ≡ number = omega arith in
    let last : (number * 256 + byte) % 256 ≡ byte = omega arith in
    rw (before, last)

-- the bytes of a number whose first ones are those of sum
high_on : (bytes : List ℕ) (more sum : ℕ) → ((i : ℕ) → i < length bytes → get_or bytes i 0 < 256)
    → high_first (length bytes + suc more) (word_from sum bytes) ≡ high_first (suc more) sum ++ bytes
high_on [] more sum small = ap (λ (count : ℕ). high_first count sum) (zero-add (suc more)) ∙ sym (append-nil (high_first (suc more) sum))
high_on (byte ∷ bytes) more sum small =
    let next = sum * 256 + byte in
    let one_more : suc (length bytes) + suc more ≡ length bytes + suc (suc more) = omega arith in
    ap (λ (count : ℕ). high_first count (word_from next bytes)) one_more ∙ high_on bytes (suc more) next (λ i h. small (suc i) (omega arith))
    ∙ ap (λ (l : List ℕ). l ++ bytes) (high_last more sum byte (small zero (omega arith))) ∙ append_assoc (high_first (suc more) sum) (byte ∷ []) bytes

-- bytes, one or more, are those of their number
pub bytes_back : (bytes : List ℕ) → ((i : ℕ) → i < length bytes → get_or bytes i 0 < 256) → 0 < length bytes → high_first (length bytes) (word_of bytes) ≡ bytes
bytes_back [] small some = absurd (omega arith)
bytes_back (byte ∷ bytes) small some =
    ap (λ (count : ℕ). high_first count (word_of (byte ∷ bytes))) (sym (add-one (length bytes)))
    ∙ high_on bytes zero (0 * 256 + byte) (λ i h. small (suc i) (omega arith)) ∙ ap (λ (first : ℕ). first ∷ bytes) (zero-add byte)

-- a number in two bytes
pub pair_back : (number : ℕ) → pair_of (number / 256) (number % 256) ≡ number
pair_back number = omega arith

-- two bytes are those of their number
pub pair_bytes : (high low : ℕ) → low < 256 → high_first 2 (pair_of high low) ≡ high ∷ low ∷ []
pair_bytes high low small = high_last zero high low small

-- a number in four bytes, each by one division
pub four_bytes : (number : ℕ) → high_first 4 number ≡ (number / 0x1000000 ∷ number / 0x10000 % 256 ∷ number / 0x100 % 256 ∷ number % 256 ∷ [])
four_bytes number =
    let first : number / 256 / 256 / 256 ≡ number / 0x1000000 = omega arith in
    let second : number / 256 / 256 ≡ number / 0x10000 = omega arith in
    rw (first, second)
