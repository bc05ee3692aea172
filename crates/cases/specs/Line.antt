-- The text form of a case: key, space, label, colon, and behind it a group of three characters for each byte.
use Rattle.std.specs.Prelude.{ℕ, ◌+◌, ◌*◌, ◌%◌, cond, List, [], ◌∷◌, eqb, ltb, length, drop}
use Rattle.slices.specs.HighFirst.{word_from}

-- what stands before the first byte mark; all where there is none
unfoldable pub until : ℕ → List ℕ → List ℕ
until mark [] = []
until mark (x ∷ xs) = cond (eqb x mark) [] (x ∷ until mark xs)

-- the line that begins at a place: what stands before its end, which is the byte 10
abbrev pub line_at : List ℕ → ℕ → List ℕ
line_at text place = until 10 (drop place text)

-- the key is the first byte, and that of an empty line is 0
abbrev pub key_of : List ℕ → ℕ
key_of [] = 0
key_of (x ∷ xs) = x

-- the digits 0 to 9 are the bytes 48 to 57, the letters a to f, which stand for 10 to 15, the bytes 97 to 102
abbrev pub digit_of : ℕ → ℕ
digit_of d = cond (ltb d 64) (d % 16) ((d % 16 + 9) % 16)

-- two hexadecimal digits, or behind a quote, which is the byte 39, the byte itself
abbrev pub byte_of : ℕ → ℕ → ℕ
byte_of first second = cond (eqb first 39) second (digit_of first * 16 + digit_of second)

-- the bytes that groups of a separator and two characters stand for
unfoldable pub bytes_of : List ℕ → List ℕ
bytes_of [] = []
bytes_of (s ∷ []) = []
bytes_of (s ∷ first ∷ []) = []
bytes_of (s ∷ first ∷ second ∷ rest) = byte_of first second ∷ bytes_of rest

-- those behind the first colon, which is the byte 58
abbrev pub case_bytes : List ℕ → List ℕ
case_bytes line = bytes_of (drop (length (until 58 line) + 1) line)

-- a number with one byte more behind its last seven
abbrev pub with_byte : ℕ → ℕ → ℕ
with_byte number byte = word_from (number % 0x100000000000000) (byte ∷ [])

-- the number that bytes make behind those read before them, high byte first
unfoldable pub number_from : ℕ → List ℕ → ℕ
number_from number [] = number
number_from number (byte ∷ bytes) = number_from (with_byte number byte) bytes
