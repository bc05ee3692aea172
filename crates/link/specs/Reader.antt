-- 01, The receiver: what the receiver makes of one byte of the line.
use Rattle.std.specs.Prelude.{ℕ, Option, Some, None, Result, Ok, Err, suc, cond, List, [], ◌∷◌, ◌==◌, nat_lt}
use Rattle.refusals.specs.Numbers.{bad_framing, long_content}
use Rattle.slices.specs.Put.{put_at}
use Rattle.frame.specs.Stuffing.{content_max, sent_max, plain, escaped, Meaning, escapes_next, stands_for, faulty, meaning}
use Rattle.frame.specs.Answers.{fault_at}
use Rattle.frame.specs.declared.content.Fault.{Fault}
use Rattle.link.specs.declared.reader.Phase.{Phase}
use Rattle.link.specs.declared.reader.Phase.TheVariants.{Before, Plain, Escaped, BadFraming, LongContent}
use Rattle.link.specs.declared.reader.Reader.{Reader}

-- 01, Frames: each flag after the first ends one frame and begins the next, which is empty at first
abbrev pub behind_flag : Reader
behind_flag = record { phase = Plain; length = 0; place = 0 }

-- 02, C-16: places are counted in sent bytes from the opening flag, the last one, as 0. A fault is met within `sent_max` sent bytes: there
-- the count ends, so that no state makes it overflow.
abbrev pub next_place : ℕ → ℕ
next_place place = cond (nat_lt place sent_max) (suc place) place

-- what a flag ends: nothing, content of so many bytes, or a frame that was refused on the way
abbrev pub Ended : Type 0
Ended = Result (Option ℕ) Fault

-- 01, Frames: content of length 0 without a fault is no frame; 7d followed by the closing flag is refusal 1, at the flag's place
abbrev pub ended_in : Phase → ℕ → ℕ → Ended
ended_in Before held place = Ok None
ended_in Plain held place = cond (held == 0) (Ok None) (Ok (Some held))
ended_in Escaped held place = Err (fault_at bad_framing (next_place place))
ended_in BadFraming held place = Err (fault_at bad_framing place)
ended_in LongContent held place = Err (fault_at long_content place)

abbrev pub ended_by : Reader → Ended
ended_by reader = ended_in reader.phase reader.length reader.place

-- what a byte leaves: the reader, and the bytes of content that it brings (one or none)
pub record Step : Type 0 where
  pub reader : Reader
  pub brings : List ℕ

-- a byte that brings no content
abbrev pub turned : Phase → ℕ → ℕ → Step
turned phase held place = record { reader = record { phase = phase; length = held; place = place }; brings = [] }

-- 01, Refusal numbers: one byte of content, sent up to a place, behind `held` bytes; the 388th is refusal 2
abbrev pub store_of : ℕ → ℕ → ℕ → Step
store_of held place b =
    cond (nat_lt held content_max)
    (record { reader = record { phase = Plain; length = suc held; place = place }; brings = b ∷ [] })
    (turned LongContent held place)

-- 01, Frames: by what the byte at a place means, plain or behind an escape byte
abbrev pub step_by : Meaning → ℕ → ℕ → Step
step_by escapes_next held place = turned Escaped held place
step_by (stands_for b) held place = store_of held place b
step_by faulty held place = turned BadFraming held place

-- 01, The receiver: bytes before the first flag are dropped. 01, Refusal numbers: of 1 and 2 the one met first stays, and its place too.
abbrev pub step_in : Phase → ℕ → ℕ → ℕ → Step
step_in Before held place b = turned Before held place
step_in Plain held place b = step_by (meaning plain b) held (next_place place)
step_in Escaped held place b = step_by (meaning escaped b) held (next_place place)
step_in BadFraming held place b = turned BadFraming held place
step_in LongContent held place b = turned LongContent held place

-- one byte that is no flag
unfoldable pub step_of : Reader → ℕ → Step
step_of reader b = step_in reader.phase reader.length reader.place b

-- the content with what a byte brings behind the bytes held
abbrev pub content_after : List ℕ → ℕ → Step → List ℕ
content_after content held step = put_at content held step.brings
