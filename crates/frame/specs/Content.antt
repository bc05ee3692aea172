-- 01, Frames: content is type, sequence, payload (0 to 383 bytes) and check (two bytes, high byte first).
use Rattle.std.specs.Prelude.{ℕ, ◌-◌, cond, List, ◌∷◌, ◌++◌, eqb, ltb, length, take, drop, get_or}
use Rattle.refusals.specs.Numbers.{short_content, bad_check}
use Rattle.refusals.specs.declared.Refusal.{Refusal}
use Rattle.crc.specs.Crc.{link_start, crc_of, check_bytes}

-- 01, The receiver: type 01 is data, type 02 an acknowledgement
abbrev pub data_type : ℕ
data_type = 0x01

abbrev pub acknowledgement_type : ℕ
acknowledgement_type = 0x02

abbrev pub payload_max : ℕ
payload_max = 383

-- type and sequence, in front of the payload
abbrev pub header_size : ℕ
header_size = 2

-- the least content: type, sequence and two bytes of check
abbrev pub content_min : ℕ
content_min = 4

-- the check covers type, sequence and payload, and stands behind them
unfoldable pub content_of : ℕ → ℕ → List ℕ → List ℕ
content_of kind sequence payload =
    let body = kind ∷ sequence ∷ payload in
    body ++ check_bytes (crc_of link_start body)

-- what content turns out to be: a frame's type, sequence and payload, or a refusal with its place
pub data Read : Type 0 where
  frame : ℕ → ℕ → List ℕ → Read
  refused : Refusal → ℕ → Read

-- 02, C-16: other refusals than 1, 2 and 4 give place 0, and so do wrong flags
abbrev pub no_place : ℕ
no_place = 0

-- what stands between type and sequence and the two bytes of check
abbrev pub payload_of : List ℕ → List ℕ
payload_of c = take (length c - content_min) (drop header_size c)

-- 01, Refusal numbers: under 4 bytes is refusal 3, a check over the whole content other than 0 is refusal 4. 02, C-16: the place of
-- refusal 4 is the content length.
unfoldable pub judged : List ℕ → Read
judged c =
    cond (ltb (length c) content_min) (refused short_content no_place)
    (cond (eqb (crc_of link_start c) 0) (frame (get_or c 0 0) (get_or c 1 0) (payload_of c)) (refused bad_check (length c)))
