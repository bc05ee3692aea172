-- 02, C-19, on frames that can be looked at: there is damage of each kind, the reader sees it and the display refuses it; an escape byte that is made
-- is more than the check covers.
use mathlib.Core.Path.{◌≡◌, refl, ap}
use mathlib.Core.List.{List, [], ◌∷◌, ◌++◌}
use mathlib.Core.Logic.{inr}
use Prim.Native.Nat.{ℕ, zero, suc}
use native.Mathlib.Omega.{arith}
use lib.ListN.{get_or, replicate}
use Rattle.refusals.specs.Numbers.{bad_check}
use Rattle.slices.specs.Each.{each}
use Rattle.frame.specs.Content.{payload_max, frame, refused}
use Rattle.frame.specs.Damage.{EscapesStay, PairDamaged, BurstDamaged}
use Rattle.frame.specs.Reading.{first_flag, flagged_bytes, between, read_frame}
use Rattle.frame.specs.Writing.{between_flags}
use Rattle.display.specs.declared.Answer.{Answer}
use Rattle.display.specs.declared.Display.{Display}
use Rattle.ledger.specs.Answers.{one_by_one, Call, piece}
use Rattle.ledger.specs.Shown.{Left, took}
use Rattle.ledger.proofs.Chain.{Begins, Chain}
use Rattle.ledger.proofs.DamagedFrames.{RefusedAs, damaged_refused}
use Rattle.answers.specs.Table.{letters, frame1, h1}
use Rattle.answers.proofs.KnownDamage.{bytes, case_6, burst_16, sixteen_bits}
use Rattle.answers.proofs.Steps.{frame_steps, ledger_steps}

-- the run of 01's case 1, and damaged in its two escaped bytes: 7d 5d 7d 5e has become 7d 5e 7d 5d
abbrev case_1 : List ℕ
case_1 = between frame1

abbrev swapped : List ℕ
swapped = 0x02 ∷ 0x01 ∷ 0x7a ∷ 0x7b ∷ 0x7c ∷ 0x7d ∷ 0x5e ∷ 0x7d ∷ 0x5d ∷ 0x9f ∷ 0xfa ∷ []

escapes_stay : EscapesStay (0x7d ∷ 0x5d ∷ 0x7d ∷ 0x5e ∷ []) (0x7d ∷ 0x5e ∷ 0x7d ∷ 0x5d ∷ [])
escapes_stay zero = refl
escapes_stay (suc zero) = refl
escapes_stay (suc (suc zero)) = refl
escapes_stay (suc (suc (suc zero))) = refl
escapes_stay (suc (suc (suc (suc i)))) = refl

pub pair_damaged : PairDamaged case_1 swapped
unfolding each
pair_damaged =
    record {
      bytes = bytes case_1 refl;
      other_bytes = bytes swapped refl;
      before = 0x02 ∷ 0x01 ∷ 0x7a ∷ 0x7b ∷ 0x7c ∷ [];
      first = 0x7d;
      second = 0x7e;
      other = 0x7d ∷ 0x5e ∷ 0x7d ∷ 0x5d ∷ [];
      behind = 0x9f ∷ 0xfa ∷ [];
      as_sent = refl;
      as_arrived = refl;
      same_length = refl;
      differ = λ e. let second : ◌≡◌ {A = ℕ} 0x5d 0x5e = ap (λ (sent : List ℕ). get_or sent 1 0) e in omega arith;
      escapes_stay = escapes_stay;
    }

pub pair_seen : (read_frame payload_max (between_flags case_1) ≡ frame 0x02 0x01 letters)
    × (read_frame payload_max (between_flags swapped) ≡ refused bad_check 9)
unfolding frame_steps read_frame flagged_bytes first_flag
pair_seen = (refl, refl)

-- where 50 3a becomes 7d 5e an escape byte is made, and both frames are taken
pub escape_made :
    (read_frame payload_max (between_flags (0x01 ∷ 0x05 ∷ 0x42 ∷ 0x50 ∷ 0x3a ∷ 0x43 ∷ 0x27 ∷ 0x24 ∷ [])) ≡ frame 0x01 0x05 (0x42 ∷ 0x50 ∷ 0x3a ∷ 0x43 ∷ []))
    × (read_frame payload_max (between_flags (0x01 ∷ 0x05 ∷ 0x42 ∷ 0x7d ∷ 0x5e ∷ 0x43 ∷ 0x27 ∷ 0x24 ∷ [])) ≡ frame 0x01 0x05 (0x42 ∷ 0x7e ∷ 0x43 ∷ []))
unfolding frame_steps read_frame flagged_bytes first_flag
escape_made = (refl, refl)

-- case 6 and its damage within 16 bits, as they are sent: no byte of either is escaped
pub burst_damaged : BurstDamaged case_6 burst_16
unfolding frame_steps
burst_damaged = record { sent_content = case_6; arrived_content = burst_16; as_sent = refl; as_arrived = refl; burst = sixteen_bits.0 }

abbrev call : List ℕ → Call
call string = piece string (replicate 9 0) (replicate 383 0)

abbrev names : List (List ℕ)
names = h1 ∷ []

-- THEOREM. Every display that watches h1 and is given a flag, then case 6 so damaged and its closing flag, refuses it.
pub display_refuses : (d end end₁ : Display) (left : List Left) (count : ℕ) (answer : Answer) (reply packet : List ℕ) → Begins (one_by_one names) d
    → Chain d (call (0x7e ∷ []) ∷ []) left end → Chain end (call (burst_16 ++ (0x7e ∷ [])) ∷ []) (took count answer reply packet ∷ []) end₁ → RefusedAs answer
unfolding frame_steps ledger_steps first_flag
display_refuses d end end₁ left count answer reply packet begins chain next =
    damaged_refused names (one_by_one names) refl d begins (call (0x7e ∷ []) ∷ []) left end chain refl case_6 burst_16 (inr burst_damaged) refl tt
    (replicate 9 0) (replicate 383 0) (omega arith) (omega arith) count answer reply packet end₁ next
