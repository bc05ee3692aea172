-- 02, C-11: the writer of a frame.
use Rattle.std.specs.Prelude.{ℕ, cond, List, ◌++◌, ltb, length}
use Rattle.refusals.specs.Numbers.{bad_length}
use Rattle.slices.specs.Written.{Output, refused, fitted}
use Rattle.ash.specs.Stuffing.{payload_max, stuff}
use Rattle.ash.specs.Header.{sent_header}
use Rattle.ash.specs.Check.{check_bytes}

-- flag, header escape, control, length, payload, three check bytes; the length counts the payload's bytes as sent
unfoldable pub frame_of : ℕ → List ℕ → List ℕ
frame_of control payload = sent_header control (length (stuff payload)) ++ stuff payload ++ check_bytes control payload

-- a payload over 57 bytes as sent is refusal 22, then a lent output with too little room refusal 7
unfoldable pub write_frame : ℕ → ℕ → List ℕ → Output
write_frame room control payload =
    cond (ltb payload_max (length (stuff payload))) (refused bad_length) (fitted room (frame_of control payload))
