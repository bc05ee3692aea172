-- 02, C-11 and 002, 3.11: the check bytes behind the payload.
use Rattle.std.specs.Prelude.{ℕ, ◌+◌, ◌*◌, ◌/◌, ◌%◌, List, [], ◌∷◌, ◌++◌, length}
use Rattle.crc.specs.Crc.{crc_of}
use Rattle.ash.specs.Stuffing.{stuff}
use Rattle.ash.specs.Header.{header_of}

abbrev pub check_start : ℕ
check_start = 0

abbrev pub bit4 : ℕ → ℕ
bit4 b = b / 0x10 % 2

abbrev pub without_bit4 : ℕ → ℕ
without_bit4 b = b / 0x20 * 0x20 + b % 0x10

-- 002, 3.11: bit 4 of each of the two bytes goes to the third, to its bits 7 and 6, and is set to 0
unfoldable pub spread : ℕ → List ℕ
spread crc =
    let first = crc / 0x100 in
    let second = crc % 0x100 in
    without_bit4 first ∷ without_bit4 second ∷ (bit4 first * 0x80 + bit4 second * 0x40) ∷ []

-- the check covers flag, header escape, control and length before escaping, and the payload before stuffing
unfoldable pub check_over : ℕ → ℕ → List ℕ → List ℕ
check_over control size payload = spread (crc_of check_start (header_of control size ++ payload))

-- the length counts the payload's bytes as sent
abbrev pub check_bytes : ℕ → List ℕ → List ℕ
check_bytes control payload = check_over control (length (stuff payload)) payload
