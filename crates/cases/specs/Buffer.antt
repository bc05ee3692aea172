-- A lent buffer as text: its bytes in hexadecimal up to and with the last one that a call has touched.
use Rattle.std.specs.Prelude.{◌≡◌, ◌≢◌, ℕ, suc, ◌+◌, ◌-◌, ◌/◌, ◌%◌, ◌<◌, cond, List, [], ◌∷◌, eqb, ltb, length, slice_index, Option, MatchOption}
use Rattle.slices.specs.Each.{each}

-- a hexadecimal digit as text, in small letters: 30 is the code of 0, and 61 that of a
abbrev pub hex_digit_ascii : ℕ → ℕ
hex_digit_ascii digit = cond (ltb digit 10) (0x30 + digit) (0x61 + (digit - 10))

-- a byte's high digit, then its low one
abbrev pub byte_digits : ℕ → List ℕ
byte_digits byte = hex_digit_ascii (byte / 16 % 16) ∷ hex_digit_ascii (byte % 16) ∷ []

-- two digits for each byte
abbrev pub hex_of : List ℕ → List ℕ
hex_of bytes = each byte_digits bytes

-- what each byte holds before a call
abbrev pub untouched : ℕ
untouched = 0xee

-- how many bytes stand up to and with the last one that is touched: of those from a place on, where so many are counted before it
unfoldable pub written_from : ℕ → ℕ → List ℕ → ℕ
written_from count place [] = count
written_from count place (byte ∷ bytes) = written_from (cond (eqb byte untouched) count (suc place)) (suc place) bytes

abbrev pub written_of : List ℕ → ℕ
written_of buffer = written_from 0 0 buffer

-- the place of the last touched byte: all behind it are untouched, and where there is none all are
abbrev pub LastTouched : List ℕ → Option ℕ → Type 0
LastTouched buffer last =
    MatchOption last ((k : ℕ) → k < length buffer → slice_index buffer k ≡ untouched)
    (λ i. (i < length buffer) × (slice_index buffer i ≢ untouched)
    × ((k : ℕ) → i < k → k < length buffer → slice_index buffer k ≡ untouched))
