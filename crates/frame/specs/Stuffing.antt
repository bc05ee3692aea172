-- 01, Frames: the bytes of a frame on the line. Each 7e becomes 7d 5e, each 7d becomes 7d 5d, no other byte is escaped.
use Rattle.std.specs.Prelude.{ℕ, suc, ◌+◌, cond, List, [], ◌∷◌, eqb, ltb}
use Rattle.refusals.specs.Numbers.{bad_framing, long_content}
use Rattle.refusals.specs.declared.Refusal.{Refusal}
use Rattle.slices.specs.Each.{each}

abbrev pub flag_byte : ℕ
flag_byte = 0x7e

abbrev pub escape_byte : ℕ
escape_byte = 0x7d

-- what stands for them behind an escape byte
abbrev pub escaped_flag : ℕ
escaped_flag = 0x5e

abbrev pub escaped_escape : ℕ
escaped_escape = 0x5d

-- unstuffed content has at most this many bytes: type, sequence, 383 bytes of payload, two of check
abbrev pub content_max : ℕ
content_max = 387

-- so many sent bytes settle the verdict: a byte of content takes at most two, and the 388th is refused
abbrev pub sent_max : ℕ
sent_max = 776

abbrev pub stuff_byte : ℕ → List ℕ
stuff_byte b =
    cond (eqb b flag_byte) (escape_byte ∷ escaped_flag ∷ [])
    (cond (eqb b escape_byte) (escape_byte ∷ escaped_escape ∷ []) (b ∷ []))

abbrev pub stuff : List ℕ → List ℕ
stuff content = each stuff_byte content

-- how many bytes of a string are escaped
unfoldable pub escapes : List ℕ → ℕ
escapes [] = 0
escapes (b ∷ bs) = cond (eqb b flag_byte) 1 (cond (eqb b escape_byte) 1 0) + escapes bs

-- 01, Frames: after an escape byte a reader is in the escaped state for exactly one byte, then plain again
pub data State : Type 0 where
  plain : State
  escaped : State

-- what one sent byte means in a state: the next is escaped, a byte of content, or a fault
pub data Meaning : Type 0 where
  escapes_next : Meaning
  stands_for : ℕ → Meaning
  faulty : Meaning

abbrev pub meaning : State → ℕ → Meaning
meaning plain b = cond (eqb b escape_byte) escapes_next (stands_for b)
meaning escaped b = cond (eqb b escaped_flag) (stands_for flag_byte) (cond (eqb b escaped_escape) (stands_for escape_byte) faulty)

-- unstuffing gives the content, or refusal 1 or 2 with its place
pub data Unstuffed : Type 0 where
  content : List ℕ → Unstuffed
  refused : Refusal → ℕ → Unstuffed

-- b in front of what the rest gives
abbrev pub joined : ℕ → Unstuffed → Unstuffed
joined b (content c) = content (b ∷ c)
joined b (refused n place) = refused n place

-- 01, Refusal numbers: one byte more, at a place, with `held` bytes of content before it; the 388th is refusal 2. 02, C-16: the place of
-- refusal 1 is that of the byte after the escape, of refusal 2 that of the byte that passes the limit, a pair's second.
abbrev pub taken : Meaning → ℕ → ℕ → (State → ℕ → Unstuffed) → Unstuffed
taken escapes_next held place rest = rest escaped held
taken (stands_for b) held place rest = cond (ltb held content_max) (joined b (rest plain (suc held))) (refused long_content place)
taken faulty held place rest = refused bad_framing place

-- at the closing flag, which has a place too: an escape byte right before it is refusal 1
abbrev pub closed : State → ℕ → Unstuffed
closed plain place = content []
closed escaped place = refused bad_framing place

-- the sent bytes of a frame, without its flags, from the left: 1 and 2 by whichever is met first. The byte before them has a place, and each
-- byte the next one.
unfoldable pub unstuff_from : State → ℕ → ℕ → List ℕ → Unstuffed
unstuff_from s held place [] = closed s (suc place)
unstuff_from s held place (b ∷ bs) = taken (meaning s b) held (suc place) (λ s₁ held₁. unstuff_from s₁ held₁ (suc place) bs)

-- 02, C-16: places are counted in sent bytes from the opening flag as 0
unfoldable pub unstuff : List ℕ → Unstuffed
unstuff bs = unstuff_from plain 0 0 bs
