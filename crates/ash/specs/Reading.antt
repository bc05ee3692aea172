-- 02, C-11: the reader of one frame, and its refusals in their order.
use Rattle.std.specs.Prelude.{ℕ, ◌+◌, Bool, false, cond, ◌&&◌, List, [], ◌∷◌, eqb, ltb, leb, length, take, drop, get_or}
use Rattle.refusals.specs.Numbers.{short_output, bad_header, bad_length, bad_stuffing, other_check}
use Rattle.refusals.specs.declared.Refusal.{Refusal}
use Rattle.slices.specs.Same.{same_bytes}
use Rattle.ash.specs.Reserved.{flag_byte, unescaped}
use Rattle.ash.specs.Stuffing.{payload_max, Unstuffed, payload, broken, unstuff}
use Rattle.ash.specs.Header.{header_size, frame_min, control_escaped, length_escaped, good_header}
use Rattle.ash.specs.Check.{check_bytes}

-- what the bytes turn out to be: a frame's control byte and payload, or a refusal
pub data Read : Type 0 where
  frame : ℕ → List ℕ → Read
  refused : Refusal → Read

-- refusal 24: check bytes other than the writer's
abbrev pub compared : ℕ → List ℕ → List ℕ → List ℕ → Read
compared control check writers p = cond (same_bytes check writers) (frame control p) (refused other_check)

-- before it, refusal 23 in the payload
abbrev pub checked : ℕ → List ℕ → Unstuffed → Read
checked control check (payload p) = compared control check (check_bytes control p) p
checked control check broken = refused bad_stuffing

-- refusal 22: a length over 57 or not the bytes present
unfoldable pub read_by_length : ℕ → ℕ → List ℕ → Read
read_by_length control size bytes =
    cond (leb size payload_max && eqb (length bytes) (size + frame_min))
    (checked control (drop (size + header_size) bytes) (unstuff (take size (drop header_size bytes))))
    (refused bad_length)

-- refusal 21: reserved header escape bits set, or a header escape that is needless or missing
unfoldable pub read_by_header : List ℕ → Read
read_by_header bytes =
    let escape = get_or bytes 1 0 in
    let control = get_or bytes 2 0 in
    let size = get_or bytes 3 0 in
    cond (good_header escape control size)
    (read_by_length (unescaped (control_escaped escape) control) (unescaped (length_escaped escape) size) bytes)
    (refused bad_header)

abbrev pub flag_first : List ℕ → Bool
flag_first [] = false
flag_first (b ∷ bs) = eqb b flag_byte

-- first an output of 57 bytes (else 7); then the first byte (else 21); under 7 bytes with a right first byte is 22 at once
unfoldable pub read_frame : ℕ → List ℕ → Read
read_frame room bytes =
    cond (ltb room payload_max) (refused short_output)
    (cond (flag_first bytes) (cond (ltb (length bytes) frame_min) (refused bad_length) (read_by_header bytes)) (refused bad_header))
