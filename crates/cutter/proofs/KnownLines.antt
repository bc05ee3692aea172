-- Known lines, computed by the definition: C-11's RESET and RESET ACK among wake bytes and faults.
use mathlib.Core.Path.{◌≡◌, refl}
use mathlib.Core.List.{List, [], ◌∷◌, ◌++◌}
use Prim.Native.Nat.{ℕ}
use lib.ListN.{replicate}
use Rattle.ash.specs.Reserved.{reserved}
use Rattle.ash.specs.KnownFrames.{reset_frame, reset_ack_frame}
use Rattle.ash.specs.Header.{good_header}
use Rattle.ash.specs.Size.{frame_size}
use Rattle.cutter.specs.Cutting.{joined_step, step_of, frames_from, frames_of}

-- wake bytes before, between and behind frames
pub among_wakes : frames_of (0xff ∷ 0xff ∷ [] ++ reset_frame ++ (0xff ∷ []) ++ reset_ack_frame ++ (0xff ∷ [])) ≡ reset_frame ∷ reset_ack_frame ∷ []
unfolding frames_from step_of joined_step frame_size good_header reserved
among_wakes = refl

-- a frame that is cut short by the next flag, and one that never ends
pub cut_short : frames_of (0x7e ∷ 0x00 ∷ 0x08 ∷ [] ++ reset_frame ++ (0x7e ∷ 0x00 ∷ [])) ≡ (0x7e ∷ 0x00 ∷ 0x08 ∷ []) ∷ reset_frame ∷ []
unfolding frames_from step_of joined_step frame_size good_header reserved
cut_short = refl

-- stray bytes between frames are one fault, ff behind the first of them too
pub stray_bytes : frames_of (0x01 ∷ 0xff ∷ 0x02 ∷ [] ++ reset_frame) ≡ (0x01 ∷ []) ∷ reset_frame ∷ []
unfolding frames_from step_of joined_step frame_size good_header reserved
stray_bytes = refl

-- reserved header escape bits, and a length of 58
pub bad_headers : frames_of (0x7e ∷ 0x01 ∷ 0x08 ∷ 0x00 ∷ 0x69 ∷ [] ++ (0x7e ∷ 0x00 ∷ 0x08 ∷ 0x3a ∷ 0x69 ∷ []) ++ reset_frame)
    ≡ (0x7e ∷ 0x01 ∷ 0x08 ∷ 0x00 ∷ []) ∷ (0x7e ∷ 0x00 ∷ 0x08 ∷ 0x3a ∷ []) ∷ reset_frame ∷ []
unfolding frames_from step_of joined_step frame_size good_header reserved
bad_headers = refl

-- a length of 17, sent as 31 with its header escape: 24 bytes, ff among them
abbrev escaped_length : List ℕ
escaped_length = 0x7e ∷ 0x40 ∷ 0x88 ∷ 0x31 ∷ [] ++ replicate 20 0xff

escaped_length_law : frames_of (escaped_length ++ (0xff ∷ []) ++ reset_frame) ≡ escaped_length ∷ reset_frame ∷ []
unfolding frames_from step_of joined_step frame_size good_header reserved
escaped_length_law = refl
