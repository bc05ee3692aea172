-- 02, C-11 and 002, 3.8: the four bytes in front of the payload, flag, header escape, control and length.
use Rattle.std.specs.Prelude.{ℕ, ◌+◌, ◌/◌, ◌%◌, Bool, cond, ◌&&◌, List, [], ◌∷◌, eqb}
use Rattle.ash.specs.Reserved.{flag_byte, reserved, flipped, rightly_escaped}

-- the bytes in front of the payload
abbrev pub header_size : ℕ
header_size = 4

-- 002, 3.8: a frame without payload has them and three check bytes
abbrev pub frame_min : ℕ
frame_min = 7

-- 80 hex if the control byte is escaped, plus 40 if the length byte is
abbrev pub escape_bits : Bool → Bool → ℕ
escape_bits control size = cond control 0x80 0 + cond size 0x40 0

-- each of the two is escaped where it is reserved
abbrev pub header_escape : ℕ → ℕ → ℕ
header_escape control size = escape_bits (reserved control) (reserved size)

-- before escaping
unfoldable pub header_of : ℕ → ℕ → List ℕ
header_of control size = flag_byte ∷ header_escape control size ∷ control ∷ size ∷ []

abbrev pub sent_byte : ℕ → ℕ
sent_byte b = cond (reserved b) (flipped b) b

-- as it is sent
unfoldable pub sent_header : ℕ → ℕ → List ℕ
sent_header control size = flag_byte ∷ header_escape control size ∷ sent_byte control ∷ sent_byte size ∷ []

-- 002, 3.8: the two bits of a header escape byte; the other six are reserved
abbrev pub control_escaped : ℕ → Bool
control_escaped escape = eqb (escape / 0x80 % 2) 1

abbrev pub length_escaped : ℕ → Bool
length_escaped escape = eqb (escape / 0x40 % 2) 1

-- no reserved bit is set: the byte is the sum of those two
abbrev pub no_reserved_bit : ℕ → Bool
no_reserved_bit escape = eqb escape (escape_bits (control_escaped escape) (length_escaped escape))

-- C-11, refusal 21: no reserved bit is set, and no header escape is needless or missing
unfoldable pub good_header : ℕ → ℕ → ℕ → Bool
good_header escape control size =
    no_reserved_bit escape && (rightly_escaped (control_escaped escape) control && rightly_escaped (length_escaped escape) size)
