-- 01, Known answers, 6, 7 and 9, as the board reads them, and one packet for each verdict and refusal: each is computed from the definition
-- of the reading.
use mathlib.Core.Path.{◌≡◌, refl}
use mathlib.Core.List.{List, [], ◌∷◌}
use Prim.Native.Nat.{ℕ}
use lib.IntN.{pos, negsuc}
use Rattle.refusals.specs.Numbers.{no_data_packet, bad_items, other_opcode, bad_name, bad_value, not_watched}
use Rattle.board.specs.Reading.{refused, end_mark, update, reading_of}
use Rattle.answers.proofs.Steps.{packet_steps}

abbrev h1 : List ℕ
h1 = 0x68 ∷ 0x31 ∷ []

-- a packet of opcode 03 with request id 0
abbrev updating : List ℕ → List ℕ
updating items = 0x01 ∷ 0x03 ∷ 0x00 ∷ 0x00 ∷ items

-- its Name item and what follows
abbrev named : List ℕ → List ℕ
named items = 0x01 ∷ 0x02 ∷ 0x68 ∷ 0x31 ∷ items

-- where h1 is watched
pub readings :
    -- 6: the payload of its frame sets h1 to 3450
    (reading_of (h1 ∷ []) (updating (named (0x16 ∷ 0x04 ∷ 0x00 ∷ 0x00 ∷ 0x0d ∷ 0x7a ∷ []))) ≡ update 0 h1 (pos 3450))
    -- 7: 02 02 ff 38 is -200
    × (reading_of (h1 ∷ []) (updating (named (0x02 ∷ 0x02 ∷ 0xff ∷ 0x38 ∷ []))) ≡ update 0 h1 (negsuc 199))
    -- 9: 02 03 00 00 01 is refusal 13, and so is a Name with nothing behind it
    × (reading_of (h1 ∷ []) (updating (named (0x02 ∷ 0x03 ∷ 0x00 ∷ 0x00 ∷ 0x01 ∷ []))) ≡ refused bad_value)
    × (reading_of (h1 ∷ []) (updating (named [])) ≡ refused bad_value)
    -- no Name but an EOF item is an end mark, neither is refusal 12, and so are two Names
    × (reading_of (h1 ∷ []) (updating (0x14 ∷ 0x00 ∷ [])) ≡ end_mark 0)
    × (reading_of (h1 ∷ []) (updating []) ≡ refused bad_name)
    × (reading_of (h1 ∷ []) (updating (named (named []))) ≡ refused bad_name)
    -- a name that is not watched is 14, another opcode 11, a cut item 10, a packet of three bytes 9
    × (reading_of [] (updating (named (0x02 ∷ 0x01 ∷ 0x01 ∷ []))) ≡ refused not_watched)
    × (reading_of (h1 ∷ []) (0x01 ∷ 0x0b ∷ 0x00 ∷ 0x00 ∷ []) ≡ refused other_opcode)
    × (reading_of (h1 ∷ []) (updating (0x01 ∷ 0x02 ∷ 0x68 ∷ [])) ≡ refused bad_items)
    × (reading_of (h1 ∷ []) (0x01 ∷ 0x03 ∷ 0x00 ∷ []) ≡ refused no_data_packet)
unfolding packet_steps
readings = (refl, refl, refl, refl, refl, refl, refl, refl, refl, refl, refl)
