-- 01, Frames: the reader of one whole frame. It hands back any type and gives neither refusal 5 nor 6.
use Rattle.std.specs.Prelude.{ℕ, suc, ◌-◌, Bool, false, cond, List, [], ◌∷◌, eqb, ltb, length, take, drop}
use Rattle.refusals.specs.Numbers.{bad_framing, short_output}
use Rattle.frame.specs.Content.{payload_max, Read, refused, no_place, judged}
use Rattle.frame.specs.Stuffing as stuffing
use Rattle.frame.specs.Stuffing.{flag_byte, Unstuffed, unstuff}

abbrev pub judged_content : Unstuffed → Read
judged_content (stuffing.content c) = judged c
judged_content (stuffing.refused n place) = refused n place

-- the sent bytes between two flags are unstuffed from the left (1, 2), then judged (3, 4)
unfoldable pub read_run : List ℕ → Read
read_run run = judged_content (unstuff run)

-- the place of the first flag, or the length where there is none
unfoldable pub first_flag : List ℕ → ℕ
first_flag [] = 0
first_flag (b ∷ bs) = cond (eqb b flag_byte) 0 (suc (first_flag bs))

-- two flags, one first, one last and none between: behind a first flag, the next one is the last byte
unfoldable pub flagged_bytes : List ℕ → Bool
flagged_bytes [] = false
flagged_bytes (b ∷ bs) = cond (eqb b flag_byte) (eqb (suc (first_flag bs)) (length bs)) false

-- what stands between the first byte and the last
abbrev pub between : List ℕ → List ℕ
between bytes = take (length bytes - 2) (drop 1 bytes)

-- first an output of 383 bytes (else 7), then the two flags (else 1), before all other tests. 02, C-16: wrong flags have place 0.
unfoldable pub read_frame : ℕ → List ℕ → Read
read_frame room bytes =
    cond (ltb room payload_max) (refused short_output no_place)
    (cond (flagged_bytes bytes) (read_run (between bytes)) (refused bad_framing no_place))
