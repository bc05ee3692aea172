-- 01, The receiver: a call stops after the flag that closes a frame with any content byte or fault, or at the end of the
-- piece, and says how many bytes it took.
use Rattle.std.specs.Prelude.{ℕ, Some, None, Ok, Err, suc, cond, List, [], ◌∷◌, ◌==◌}
use Rattle.frame.specs.Stuffing.{flag_byte}
use Rattle.link.specs.declared.reader.Reader.{Reader}
use Rattle.link.specs.Reader.{Ended, behind_flag, ended_by, step_of, content_after}

-- what one byte does: the walk goes on with content and reader, or stops at what the flag ended
pub data Turn : Type 0 where
  goes_on : List ℕ → Reader → Turn
  stops : Ended → Turn

abbrev pub flag_turn : List ℕ → Ended → Turn
flag_turn content (Ok None) = goes_on content behind_flag
flag_turn content (Ok (Some n)) = stops (Ok (Some n))
flag_turn content (Err fault) = stops (Err fault)

unfoldable pub turn_of : List ℕ → Reader → ℕ → Turn
turn_of content reader b =
    cond (b == flag_byte) (flag_turn content (ended_by reader))
    (goes_on (content_after content reader.length (step_of reader b)) (step_of reader b).reader)

-- where a walk came to: content and reader, bytes taken, and what was ended (nothing at the end of the piece)
pub record Walk : Type 0 where
  pub content : List ℕ
  pub reader : Reader
  pub taken : ℕ
  pub ended : Ended

-- one byte, the n-th, and then the rest of the piece
abbrev pub go_on : Turn → List ℕ → ℕ → (List ℕ → Reader → ℕ → Walk) → Walk
go_on (goes_on content reader) before n rest = rest content reader n
go_on (stops e) before n rest = record { content = before; reader = behind_flag; taken = n; ended = e }

-- the piece from a content and a reader on, with n bytes taken before
unfoldable pub walk_of : List ℕ → List ℕ → Reader → ℕ → Walk
walk_of [] content reader n = record { content = content; reader = reader; taken = n; ended = Ok None }
walk_of (b ∷ bs) content reader n =
    go_on (turn_of content reader b) content (suc n) (λ content₁ reader₁ n₁. walk_of bs content₁ reader₁ n₁)
