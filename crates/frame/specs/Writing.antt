-- 01, Frames: a frame is 7e, stuffed content, 7e. The frame writer takes any type and sequence.
use Rattle.std.specs.Prelude.{ℕ, cond, List, [], ◌∷◌, ◌++◌, ltb, length}
use Rattle.refusals.specs.Numbers.{long_payload}
use Rattle.slices.specs.Written.{Output, refused, fitted}
use Rattle.frame.specs.Content.{payload_max, content_of}
use Rattle.frame.specs.Stuffing.{flag_byte, stuff}

-- a run of sent bytes with its two flags
abbrev pub between_flags : List ℕ → List ℕ
between_flags run = flag_byte ∷ run ++ (flag_byte ∷ [])

-- the bytes on the line of some content
unfoldable pub framed : List ℕ → List ℕ
framed content = between_flags (stuff content)

abbrev pub frame_of : ℕ → ℕ → List ℕ → List ℕ
frame_of kind sequence payload = framed (content_of kind sequence payload)

-- 01, Refusal numbers: a lent output with too little room is refusal 7
unfoldable pub write_content : ℕ → List ℕ → Output
write_content room content = fitted room (framed content)

-- before that, a payload over 383 bytes is refusal 8
unfoldable pub write_frame : ℕ → ℕ → ℕ → List ℕ → Output
write_frame room kind sequence payload =
    cond (ltb payload_max (length payload)) (refused long_payload) (write_content room (content_of kind sequence payload))
