-- 02, C-16: where a frame broke, said of the sent bytes between its flags. The opening flag has place 0, so the byte behind `before` has place
-- `length before + 1`.
use Rattle.std.specs.Prelude.{ℕ, ◌+◌, ◌≤◌, ◌<◌, ◌≡◌, List, [], ◌∷◌, ◌++◌, ◌⊎◌, length, get_or}
use Rattle.refusals.specs.Numbers.{bad_framing, long_content, bad_check}
use Rattle.refusals.specs.declared.Refusal.{Refusal}
use Rattle.crc.specs.Crc.{link_start, crc_of}
use Rattle.frame.specs.Stuffing.{flag_byte, escape_byte, escaped_flag, escaped_escape, content_max, sent_max, content, unstuff}
use Rattle.frame.specs.Content.{content_min, no_place}

-- the byte after an escape: the closing flag, where the sent bytes end
abbrev pub after_escape : List ℕ → ℕ
after_escape behind = get_or behind 0 flag_byte

-- for 1 the offset of the byte after the escape, which is neither 5d nor 5e; before the escape there is no fault
pub record BadEscape (run : List ℕ) (place : ℕ) : Type 0 where
  pub before : List ℕ
  pub behind : List ℕ
  pub held : List ℕ
  pub sent : run ≡ before ++ (escape_byte ∷ behind)
  pub no_fault : unstuff before ≡ content held
  pub no_flag : after_escape behind ≡ escaped_flag → ⊥
  pub no_escape : after_escape behind ≡ escaped_escape → ⊥
  pub there : place ≡ length before + 2

-- the sent bytes of one byte of content: itself, or a pair
abbrev pub OneByte : List ℕ → Type 0
OneByte [] = ⊥
OneByte (x ∷ []) = x ≡ escape_byte → ⊥
OneByte (x ∷ (y ∷ [])) = (x ≡ escape_byte) × ((y ≡ escaped_flag) ⊎ (y ≡ escaped_escape))
OneByte (x ∷ (y ∷ (z ∷ zs))) = ⊥

-- for 2 the offset of the byte that passes the limit, a pair's second; before it are 387 bytes of content and no fault
pub record PassesLimit (run : List ℕ) (place : ℕ) : Type 0 where
  pub before : List ℕ
  pub passing : List ℕ
  pub behind : List ℕ
  pub held : List ℕ
  pub sent : run ≡ before ++ (passing ++ behind)
  pub no_fault : unstuff before ≡ content held
  pub full : length held ≡ content_max
  pub one_byte : OneByte passing
  pub there : place ≡ length before + length passing

-- for 4 the content length, which is no offset
pub record FailsCheck (run : List ℕ) (place : ℕ) : Type 0 where
  pub held : List ℕ
  pub no_fault : unstuff run ≡ content held
  pub whole : content_min ≤ length held
  pub fails : crc_of link_start held ≡ 0 → ⊥
  pub there : place ≡ length held

-- what the place of a refusal says of the sent bytes between two flags; other refusals give place 0
pub record Places (run : List ℕ) (n : Refusal) (place : ℕ) : Type 0 where
  pub of_1 : n ≡ bad_framing → BadEscape run place
  pub of_2 : n ≡ long_content → PassesLimit run place
  pub of_4 : n ≡ bad_check → FailsCheck run place
  pub of_others : (n ≡ bad_framing → ⊥) → (n ≡ long_content → ⊥) → (n ≡ bad_check → ⊥) → place ≡ no_place

-- so an offset of 1 is from 2 to 776, of 2 from 388 to 776, and the length of 4 from 4 to 387
pub record WithinLimits (n : Refusal) (place : ℕ) : Type 0 where
  pub of_1 : n ≡ bad_framing → (2 ≤ place) × (place ≤ sent_max)
  pub of_2 : n ≡ long_content → (content_max < place) × (place ≤ sent_max)
  pub of_4 : n ≡ bad_check → (content_min ≤ place) × (place ≤ content_max)
