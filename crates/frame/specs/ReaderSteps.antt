-- Steps of the whole-frame reader: what its plain and its escaped reader answer as a number, and what is made of that.
use Rattle.std.specs.Prelude.{ℕ, ◌+◌, ◌*◌, ◌≡◌, cond, List, ltb, length, Result, Ok, Err}
use Rattle.refusals.specs.Numbers.{bad_framing, long_content, number_of}
use Rattle.refusals.specs.declared.Refusal.{Refusal}
use Rattle.slices.specs.Put.{put_at}
use Rattle.frame.specs.Stuffing as stuffing
use Rattle.frame.specs.Answers.{fault_at}
use Rattle.frame.specs.declared.content.Fault.{Fault}

-- above any place and any length of content
abbrev pub place_limit : ℕ
place_limit = 1024

-- how much content there is with the bytes held before, or a refusal's number times that, and its place
abbrev pub readers_answer : ℕ → stuffing.Unstuffed → ℕ
readers_answer held (stuffing.content c) = held + length c
readers_answer held (stuffing.refused n place) = number_of n * place_limit + place

-- What was unstuffed behind `held` bytes of content is answered, and stands in the array where it is no refusal. What a refused
-- frame leaves in that array of the reader's own is open.
pub record ReadersAs (found : stuffing.Unstuffed) (held : ℕ) (array : List ℕ) (answer : ℕ) (exit : List ℕ) : Type 0 where
  pub answers : answer ≡ readers_answer held found
  pub array_filled : (c : List ℕ) → found ≡ stuffing.content c → exit ≡ put_at array held c

-- the refusal that such a number tells of, from the limit on: unstuffing refuses by 1 and 2
abbrev pub refusal_told : ℕ → Refusal
refusal_told answer = cond (ltb answer (number_of long_content * place_limit)) bad_framing long_content

-- the same for a whole run, as a result
abbrev pub unstuff_answer : stuffing.Unstuffed → Result ℕ Fault
unstuff_answer (stuffing.content c) = Ok (length c)
unstuff_answer (stuffing.refused n place) = Err (fault_at n place)

pub record UnstuffsAs (found : stuffing.Unstuffed) (array : List ℕ) (answer : Result ℕ Fault) (exit : List ℕ) : Type 0 where
  pub answers : answer ≡ unstuff_answer found
  pub array_filled : (c : List ℕ) → found ≡ stuffing.content c → exit ≡ put_at array 0 c
