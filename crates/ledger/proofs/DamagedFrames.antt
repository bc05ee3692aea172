-- 02, C-19, of the display: a good frame that the line damages within the sent bytes of two neighbouring content bytes, every 7d in its place, or within
-- 16 adjacent bits of its content, is refused, if no 7e is made.
use mathlib.Core.Path.{◌≡◌, refl, sym, ap, ◌∙◌}
use mathlib.Core.Bool.{Bool, true, false, cond}
use mathlib.Core.List.{List, [], ◌∷◌, ◌++◌, append_assoc, append-nil}
use mathlib.Core.Option.{Option, some}
use Prim.Native.Nat.{ℕ, suc, ◌≤◌, ◌<◌}
use native.Mathlib.Omega.{arith}
use lib.Dec.{eqb}
use lib.ListN.{length}
use Rattle.refusals.specs.declared.Refusal.{Refusal}
use Rattle.frame.specs.Answers.{fault_at}
use Rattle.frame.specs.Content as frame
use Rattle.frame.specs.Damage.{Damaged, IsTaken}
use Rattle.frame.specs.Reading.{first_flag, read_run}
use Rattle.frame.specs.Stuffing.{flag_byte}
use Rattle.frame.proofs.DamagedFrames.{damaged_run, damaged_some}
use Rattle.display.specs.declared.Answer.{Answer}
use Rattle.display.specs.declared.Answer.TheVariants.{Refused}
use Rattle.display.specs.declared.Display.{Display}
use Rattle.ledger.specs.Ledger.{Ledger, start}
use Rattle.ledger.specs.Frames as frames
use Rattle.ledger.specs.Frames.{turn, after_turn, Taken, taken, frame_of}
use Rattle.ledger.specs.Answers.{WatchList, names_in, Call, piece}
use Rattle.ledger.specs.Calls.{effect_of, with_run, after, reply_room, packet_room}
use Rattle.ledger.specs.Shown.{as_answer, Left, took}
use Rattle.ledger.proofs.Chain.{Begins, Chain}
use Rattle.ledger.proofs.EveryList.{Agreeing, agreeing}
use Rattle.ledger.proofs.ClosedCalls.{next_gives}

-- a run without a flag, behind some bytes, is closed by the flag behind it
flag_closes : (held run : List ℕ) (n : ℕ) → first_flag run ≡ length run → 0 < length (held ++ run)
    → (taken (some held) (run ++ (flag_byte ∷ [])) n).frame ≡ some (held ++ run)
unfolding taken turn first_flag
flag_closes [] [] n e h = absurd (omega arith)
flag_closes (x ∷ xs) [] n e h = ap some (sym (append-nil (x ∷ xs)))
flag_closes held (b ∷ bs) n e h = by_byte (eqb b flag_byte) e (flag_closes (held ++ (b ∷ [])) bs (suc n))
  where
    longer : held ++ (b ∷ []) ++ bs ≡ held ++ (b ∷ bs)
    longer = append_assoc held (b ∷ []) bs

    by_byte : (flag : Bool) → cond flag 0 (suc (first_flag bs)) ≡ suc (length bs)
        → (first_flag bs ≡ length bs → 0 < length (held ++ (b ∷ []) ++ bs)
        → (taken (some (held ++ (b ∷ []))) (bs ++ (flag_byte ∷ [])) (suc n)).frame ≡ some (held ++ (b ∷ []) ++ bs))
        → (after_turn (cond flag (frames.at_flag (some held)) (frames.goes_on (some (held ++ (b ∷ []))))) (suc n) (λ run₁ n₁. taken run₁ (bs ++ (flag_byte ∷ [])) n₁)).frame
        ≡ some (held ++ (b ∷ bs))
    by_byte true e rest = absurd (omega arith)
    by_byte false e rest = rest (omega arith) (omega (arith, ap length longer)) ∙ ap some longer

-- a run that is not taken is a refused frame
record IsRefused (run : List ℕ) : Type 0 where
  refusal : Refusal
  place : ℕ
  is : frame_of run ≡ frames.refused refusal place

not_taken : (run : List ℕ) → (IsTaken (read_run run) → ⊥) → IsRefused run
unfolding frame_of
not_taken run wrong = cases (read_run run) refl wrong
  where
    cases : (found : frame.Read) → read_run run ≡ found → (IsTaken found → ⊥) → IsRefused run
    cases (frame.frame kind sequence payload) e wrong = absurd (wrong tt)
    cases (frame.refused n place) e wrong = record { refusal = n; place = place; is = ap frames.by_type e }

-- the answer is a refusal
pub record RefusedAs (answer : Answer) : Type 0 where
  pub refusal : Refusal
  pub place : ℕ
  pub is : answer ≡ Refused (fault_at refusal place)

module _ (names : List (List ℕ)) (cs : List Call) (left : List Left) (end : Display) (a : Agreeing names cs left end)
    (behind_a_flag : (after (start names) cs).line.run ≡ some []) (sent arrived : List ℕ) (damage : Damaged sent arrived)
    (no_flag : first_flag arrived ≡ length arrived) (good : IsTaken (read_run sent)) where
  abbrev l : Ledger
  l = after (start names) cs

  abbrev string : List ℕ
  string = arrived ++ (flag_byte ∷ [])

  abbrev t : Taken
  t = taken l.line.run string 0

  closes : t.frame ≡ some arrived
  closes =
      ap (λ (run : Option (List ℕ)). (taken run string 0).frame) behind_a_flag ∙ flag_closes [] arrived 0 no_flag (damaged_some sent arrived damage)

  refused : IsRefused arrived
  refused = not_taken arrived (damaged_run sent arrived damage good)

  module _ (reply packet : List ℕ) (r : reply_room ≤ length reply) (p : packet_room ≤ length packet) (count : ℕ) (answer : Answer) (reply₁ packet₁ : List ℕ)
      (end₁ : Display) (next : Chain end (piece string reply packet ∷ []) (took count answer reply₁ packet₁ ∷ []) end₁) where
    said : answer ≡ as_answer names (effect_of (with_run l t.run) t.frame).answer
    said =
        let gave = next_gives a next r p in
        cc

    is_refused : RefusedAs answer
    is_refused =
        let effect : Option (List ℕ) → Answer = λ frame. as_answer names (effect_of (with_run l t.run) frame).answer in
        record { refusal = refused.refusal; place = refused.place; is = said ∙ ap effect closes ∙ rw refused.is }

-- THEOREM. After every list of calls, behind a flag: a piece with room that is the run of a good frame, so damaged, and the closing flag is answered by
-- a refusal. (What it leaves as it was: ledger/proofs/RefusedFrames.)
pub damaged_refused : (names : List (List ℕ)) (w : WatchList) → names_in w ≡ some names → (d : Display) → Begins w d
    → (cs : List Call) (left : List Left) (end : Display) → Chain d cs left end → (after (start names) cs).line.run ≡ some []
    → (sent arrived : List ℕ) → Damaged sent arrived → first_flag arrived ≡ length arrived → IsTaken (read_run sent)
    → (reply packet : List ℕ) → reply_room ≤ length reply → packet_room ≤ length packet → (count : ℕ) (answer : Answer) (reply₁ packet₁ : List ℕ) (end₁ : Display)
    → Chain end (piece (arrived ++ (flag_byte ∷ [])) reply packet ∷ []) (took count answer reply₁ packet₁ ∷ []) end₁ → RefusedAs answer
damaged_refused names w listed d begins cs left end chain behind_a_flag sent arrived damage no_flag good reply packet r p count answer reply₁ packet₁ end₁ next =
    is_refused names cs left end (agreeing listed begins chain) behind_a_flag sent arrived damage no_flag good reply packet r p count answer reply₁ packet₁ end₁ next
