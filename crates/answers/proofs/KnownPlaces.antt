-- 02, C-16, on frames that can be looked at: each place computes, in the whole-frame reader and in a display whose pieces cut the fault.
use mathlib.Core.Path.{◌≡◌, refl, ◌∙◌}
use mathlib.Core.List.{List, [], ◌∷◌, ◌++◌}
use Prim.Native.Nat.{ℕ}
use lib.ListN.{replicate}
use Rattle.refusals.specs.Numbers.{bad_framing, long_content, short_content, bad_check, short_output}
use Rattle.refusals.specs.declared.Refusal.{Refusal}
use Rattle.frame.specs.Answers.{fault_at}
use Rattle.frame.specs.Content.{payload_max, refused}
use Rattle.frame.specs.Reading.{first_flag, flagged_bytes, read_frame}
use Rattle.frame.specs.Stuffing.{stuff}
use Rattle.frame.specs.Writing.{between_flags}
use Rattle.display.specs.declared.Answer.TheVariants.{Nothing, Refused}
use Rattle.display.specs.declared.Display.{Display}
use Rattle.ledger.specs.Answers.{one_by_one, Call, piece}
use Rattle.ledger.specs.Calls.{given}
use Rattle.ledger.specs.Shown.{Left, took}
use Rattle.ledger.proofs.Chain.{Begins, Chain}
use Rattle.ledger.proofs.EveryList.{agreeing}
use Rattle.answers.specs.Table.{h1}
use Rattle.answers.proofs.Steps.{frame_steps, ledger_steps}

-- what the reader makes of a whole frame, with room
abbrev Refuses : List ℕ → Refusal → ℕ → Type 0
Refuses bytes n place = read_frame payload_max bytes ≡ refused n place

-- 1 at the byte after the escape: the closing flag, another byte, another escape byte. Wrong flags have place 0.
pub record EscapePlaces : Type 0 where
  pub at_the_flag : Refuses (0x7e ∷ 0x7d ∷ 0x7e ∷ []) bad_framing 2
  pub other_byte : Refuses (0x7e ∷ 0x02 ∷ 0x7d ∷ 0x41 ∷ 0xd4 ∷ 0x57 ∷ 0x7e ∷ []) bad_framing 3
  pub other_escape : Refuses (0x7e ∷ 0x02 ∷ 0x7d ∷ 0x7d ∷ 0x5d ∷ 0xd4 ∷ 0x57 ∷ 0x7e ∷ []) bad_framing 3
  pub no_first_flag : Refuses (0x02 ∷ 0x7d ∷ 0x41 ∷ 0x7e ∷ []) bad_framing 0
  pub no_last_flag : Refuses (0x7e ∷ 0x02 ∷ 0x7d ∷ 0x41 ∷ []) bad_framing 0
  pub flag_between : Refuses (0x7e ∷ 0x7d ∷ 0x7e ∷ 0x41 ∷ 0x7e ∷ []) bad_framing 0

pub escape_places : EscapePlaces
unfolding frame_steps read_frame flagged_bytes first_flag
escape_places =
    record { at_the_flag = refl; other_byte = refl; other_escape = refl; no_first_flag = refl; no_last_flag = refl; flag_between = refl }

-- 387 bytes of content, each sent as one byte
abbrev full : List ℕ
full = replicate 387 0x41

-- 2 at the byte that passes the limit, a pair's second; an escape as the 388th byte before a bad one or the flag is 1
pub record LimitPlaces : Type 0 where
  pub plain_byte : Refuses (between_flags (full ++ (0x41 ∷ []))) long_content 388
  pub pair : Refuses (between_flags (full ++ (0x7d ∷ 0x5e ∷ []))) long_content 389
  pub all_pairs : Refuses (between_flags (stuff (replicate 388 0x7e))) long_content 776
  pub escape_and_bad_byte : Refuses (between_flags (full ++ (0x7d ∷ 0x41 ∷ []))) bad_framing 389
  pub escape_and_flag : Refuses (between_flags (full ++ (0x7d ∷ []))) bad_framing 389
  pub escape_behind_pairs : Refuses (between_flags (stuff (replicate 387 0x7e) ++ (0x7d ∷ []))) bad_framing 776

pub limit_places : LimitPlaces
unfolding frame_steps read_frame flagged_bytes first_flag
limit_places =
    record {
      plain_byte = refl;
      pair = refl;
      all_pairs = refl;
      escape_and_bad_byte = refl;
      escape_and_flag = refl;
      escape_behind_pairs = refl;
    }

-- 4 has the content's length, check included, whatever was escaped; 3 and 7 have place 0
pub record CheckPlaces : Type 0 where
  pub four_bytes : Refuses (between_flags (0x02 ∷ 0x01 ∷ 0x6b ∷ 0x4d ∷ [])) bad_check 4
  pub four_pairs : Refuses (between_flags (stuff (replicate 4 0x7e))) bad_check 4
  pub longest : Refuses (between_flags full) bad_check 387
  pub short : Refuses (between_flags (0x02 ∷ 0x01 ∷ 0x6b ∷ [])) short_content 0
  pub no_room : read_frame 382 (0x7e ∷ 0x7d ∷ 0x7e ∷ []) ≡ refused short_output 0

pub check_places : CheckPlaces
unfolding frame_steps read_frame flagged_bytes first_flag
check_places = record { four_bytes = refl; four_pairs = refl; longest = refl; short = refl; no_room = refl }

abbrev call : List ℕ → Call
call string = piece string (replicate 9 0) (replicate 383 0)

-- a flag, an escape at the end of its piece, the bad byte alone, the closing flag; then a fault at the flag, which is counted anew
abbrev cs : List Call
cs = call (0x7e ∷ 0x01 ∷ 0x7d ∷ []) ∷ call (0x41 ∷ []) ∷ call (0x42 ∷ 0x7e ∷ []) ∷ call (0x7d ∷ []) ∷ call (0x7e ∷ []) ∷ []

abbrev names : List (List ℕ)
names = h1 ∷ []

-- THEOREM. Every display that watches h1 and is given these calls answers refusal 1 at place 3, then at place 2.
pub cut_faults_told : (d end : Display) (left : List Left) → Begins (one_by_one names) d → Chain d cs left end
    → left
    ≡ took 3 Nothing (replicate 9 0) (replicate 383 0)
    ∷ took 1 Nothing (replicate 9 0) (replicate 383 0)
    ∷ took 2 (Refused (fault_at bad_framing 3)) (replicate 9 0) (replicate 383 0)
    ∷ took 1 Nothing (replicate 9 0) (replicate 383 0)
    ∷ took 1 (Refused (fault_at bad_framing 2)) (replicate 9 0) (replicate 383 0)
    ∷ []
unfolding frame_steps ledger_steps given
cut_faults_told d end left begins chain = (agreeing {w = one_by_one names} {names = names} refl begins chain).all.gives ∙ refl
