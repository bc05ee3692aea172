-- 02, C-11 and 002, 3.8: how many bytes a frame has, by the header in front of it.
use Rattle.std.specs.Prelude.{ℕ, ◌+◌, cond, Option, Some, None, leb}
use Rattle.ash.specs.Reserved.{unescaped}
use Rattle.ash.specs.Stuffing.{payload_max}
use Rattle.ash.specs.Header.{frame_min, length_escaped, good_header}

-- the longest frame
abbrev pub frame_max : ℕ
frame_max = payload_max + frame_min

-- C-11, refusal 22: a length over 57 is bad; else flag, header and check bytes stand beside the payload
abbrev pub size_by_length : ℕ → Option ℕ
size_by_length size = cond (leb size payload_max) (Some (size + frame_min)) None

-- C-11, refusal 21: so is a header with reserved bits, or with a needless or missing escape; the length's escape is undone
unfoldable pub frame_size : ℕ → ℕ → ℕ → Option ℕ
frame_size escape control size = cond (good_header escape control size) (size_by_length (unescaped (length_escaped escape) size)) None
