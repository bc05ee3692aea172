-- Numbers as text, in ASCII.
use Rattle.std.specs.Prelude.{ℕ, zero, suc, ◌+◌, ◌/◌, ◌%◌, cond, List, [], ◌∷◌, ltb, ℤ, pos, negsuc}
use Rattle.slices.specs.Each.{each}

-- the digits 0 to 9 are the bytes 48 to 57
abbrev pub digit : ℕ → ℕ
digit d = 48 + d

-- the number in at most `most` decimal digits, the last digit right before the text behind it
unfoldable pub digits_before : ℕ → ℕ → List ℕ → List ℕ
digits_before zero number behind = behind
digits_before (suc most) number behind =
    cond (ltb number 10) (digit number ∷ behind) (digits_before most (number / 10) (digit (number % 10) ∷ behind))

-- in decimal, with no zeros in front; 20 digits are enough for 64 bits
abbrev pub decimal_of : ℕ → List ℕ
decimal_of number = digits_before 20 number []

-- a minus sign before a negative number
abbrev pub signed_of : ℤ → List ℕ
signed_of (pos n) = decimal_of n
signed_of (negsuc n) = 45 ∷ decimal_of (suc n)

-- behind 9 come the letters a to f, the bytes 97 to 102
abbrev pub hex_digit : ℕ → ℕ
hex_digit d = cond (ltb d 10) (48 + d) (87 + d)

-- a byte in two hexadecimal digits, the high one first
abbrev pub hex_byte : ℕ → List ℕ
hex_byte byte = hex_digit (byte / 16) ∷ hex_digit (byte % 16) ∷ []

abbrev pub hex_of : List ℕ → List ℕ
hex_of bytes = each hex_byte bytes
