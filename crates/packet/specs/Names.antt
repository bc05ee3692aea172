-- 01, Items and packets: which names and locations are valid.
use Rattle.std.specs.Prelude.{ℕ, Bool, true, ◌&&◌, ◌||◌, List, [], ◌∷◌, leb, eqb, length, get_or}

-- low ≤ n ≤ high
unfoldable pub between : ℕ → ℕ → ℕ → Bool
between low high n = leb low n && leb n high

-- ASCII letters, of either case
unfoldable pub is_letter : ℕ → Bool
is_letter byte = between 0x41 0x5a byte || between 0x61 0x7a byte

-- ASCII letters, digits, hyphen, underscore
unfoldable pub is_name_byte : ℕ → Bool
is_name_byte byte = is_letter byte || between 0x30 0x39 byte || eqb byte 0x2d || eqb byte 0x5f

unfoldable pub all_name_bytes : List ℕ → Bool
all_name_bytes [] = true
all_name_bytes (byte ∷ bytes) = is_name_byte byte && all_name_bytes bytes

-- 01, Items and packets: how long names and locations may be
abbrev pub longest_name : ℕ
longest_name = 27

abbrev pub longest_location : ℕ
longest_location = 64

-- 01, Items and packets: names have 1 to 27 bytes: ASCII letters, digits, hyphen, underscore; the first is a letter. Case
-- counts: a name is its bytes, and names are the same where their bytes are.
unfoldable pub valid_name : List ℕ → Bool
valid_name name = between 1 longest_name (length name) && is_letter (get_or name 0 0) && all_name_bytes name

-- 01, Items and packets: locations have 1 to 64 bytes
unfoldable pub valid_location : List ℕ → Bool
valid_location location = between 1 longest_location (length location)
