-- Bytes as a number and a number as bytes, high byte first, as 01 has it wherever a number takes more than one byte.
use Rattle.std.specs.Prelude.{ℕ, zero, suc, ◌+◌, ◌*◌, ◌/◌, ◌%◌, List, [], ◌∷◌, ◌++◌}

-- the bytes behind those that gave sum: each byte makes what stands before it 256 times as much
abbrev pub word_from : ℕ → List ℕ → ℕ
word_from sum [] = sum
word_from sum (byte ∷ bytes) = word_from (sum * 256 + byte) bytes

-- the bytes as one number without a sign
abbrev pub word_of : List ℕ → ℕ
word_of bytes = word_from 0 bytes

-- two bytes, as 01 has them in the request id (Items and packets) and in a tagged field's length (The board)
abbrev pub pair_of : ℕ → ℕ → ℕ
pair_of high low = word_from high (low ∷ [])

-- a number in so many bytes. The first holds all that is left of the number: it is a byte where the number is below 256 ^ count.
abbrev pub high_first : ℕ → ℕ → List ℕ
high_first zero number = []
high_first (suc zero) number = number ∷ []
high_first (suc (suc more)) number = high_first (suc more) (number / 256) ++ (number % 256 ∷ [])
