-- 02, C-11 and 002, 3.10: the bytes that the link reserves, and how one of them is sent.
use Rattle.std.specs.Prelude.{ℕ, Bool, true, false, not, ◌||◌, eqb}
use Rattle.std.specs.Int.Bits.{bit_xor}

abbrev pub flag_byte : ℕ
flag_byte = 0x7e

abbrev pub escape_byte : ℕ
escape_byte = 0x7d

-- 002, table 3.2: flag, escape, XON, XOFF, and one without a name
unfoldable pub reserved : ℕ → Bool
reserved b = eqb b flag_byte || eqb b escape_byte || eqb b 0x11 || eqb b 0x13 || eqb b 0xf8

-- an escaped byte has bit 5 flipped
abbrev pub flipped : ℕ → ℕ
flipped b = bit_xor b 0x20

-- what a sent byte stands for, escaped or not
abbrev pub unescaped : Bool → ℕ → ℕ
unescaped true sent = flipped sent
unescaped false sent = sent

-- a byte is escaped exactly where it is reserved: else its escape is needless or missing
abbrev pub rightly_escaped : Bool → ℕ → Bool
rightly_escaped true sent = reserved (flipped sent)
rightly_escaped false sent = not (reserved sent)
