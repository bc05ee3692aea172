-- 02, C-11: the two frames that it prints.
use Rattle.std.specs.Prelude.{ℕ, List, [], ◌∷◌}

-- RESET has type 0, OFC 1 and AFC 0 (002, 4.1)
abbrev pub reset_frame : List ℕ
reset_frame = 0x7e ∷ 0x00 ∷ 0x08 ∷ 0x00 ∷ 0x69 ∷ 0x86 ∷ 0x00 ∷ []

-- RESET ACK has type 1, OFC 1 and AFC 1 (002, 4.2 and 3.4)
abbrev pub reset_ack_frame : List ℕ
reset_ack_frame = 0x7e ∷ 0x00 ∷ 0x49 ∷ 0x00 ∷ 0x47 ∷ 0x6b ∷ 0xc0 ∷ []
