-- 02, C-15: a table of 256 sixteen-bit remainders, one for each byte.
use Rattle.std.specs.Prelude.{ℕ, ◌<◌, ◌≡◌, List, [], ◌∷◌, get_or}
use Rattle.crc.specs.Crc.{crc_of}

-- each entry is the bitwise check of that one byte from start 0
abbrev pub Remainders : List ℕ → Type 0
Remainders table = (byte : ℕ) → byte < 256 → get_or table byte 0 ≡ crc_of 0 (byte ∷ [])
