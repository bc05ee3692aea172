-- 01, Refusal numbers: what a writer puts at the start of the output that it is lent, and what it answers. A refusal leaves the output
-- as it was.
use Rattle.std.specs.Prelude.{ℕ, ◌≡◌, cond, List, [], ltb, length, Result, Ok, Err}
use Rattle.refusals.specs.Numbers.{short_output}
use Rattle.refusals.specs.declared.Refusal.{Refusal}
use Rattle.slices.specs.Put.{put_at}

-- bytes, or a refusal
pub data Output : Type 0 where
  written : List ℕ → Output
  refused : Refusal → Output

-- 01, Refusal numbers, 7: a lent output has too little room
unfoldable pub fitted : ℕ → List ℕ → Output
fitted room bytes = cond (ltb room (length bytes)) (refused short_output) (written bytes)

-- the writer's answer: how many bytes it wrote, or the refusal
abbrev pub write_answer : Output → Result ℕ Refusal
write_answer (written bytes) = Ok (length bytes)
write_answer (refused r) = Err r

abbrev pub written_bytes : Output → List ℕ
written_bytes (written bytes) = bytes
written_bytes (refused r) = []

-- what was written is answered, and put at the start of the output; bytes beyond it stay
pub record WritesAs (output : Output) (before : List ℕ) (result : Result ℕ Refusal) (after : List ℕ) : Type 0 where
  pub answers : result ≡ write_answer output
  pub put : after ≡ put_at before 0 (written_bytes output)
