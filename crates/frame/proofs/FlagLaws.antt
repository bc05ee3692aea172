-- A string is flagged exactly if it has two flags, one first, one last and none between: its first flag behind the first byte
-- stands at its end.
use mathlib.Core.Path.{◌≡◌, refl, sym, ap, ◌∙◌}
use mathlib.Core.Logic.{◌↔◌}
use mathlib.Core.Bool.{Bool, true, false, cond}
use mathlib.Core.List.{List, [], ◌∷◌}
use Prim.Native.Nat.{ℕ, zero, suc, ◌-◌, ◌≤◌, ◌<◌}
use native.Mathlib.Omega.{arith}
use lib.Dec.{eqb}
use lib.ListN.{length, get_or, take, drop, length-take, length-drop}
use Rattle.std.proofs.lemmas.List.{get_or-take, get_or-drop}
use borrow.Author.Tests.{eqb-true, eqb-false, eq-eqb, ne_eqb}
use Rattle.std.specs.Prelude.{Result, Err}
use Rattle.slices.proofs.Impossible.{impossible}
use Rattle.refusals.specs.Numbers.{bad_framing}
use Rattle.frame.specs.Stuffing.{flag_byte}
use Rattle.frame.specs.Content.{payload_max, no_place}
use Rattle.frame.specs.Reading.{first_flag, flagged_bytes, read_frame}
use Rattle.frame.specs.Answers.{ReadsAs, fault_at}
use Rattle.frame.specs.declared.content.Frame.{Frame}
use Rattle.frame.specs.declared.content.Fault.{Fault}
use Rattle.frame.proofs.ReadLaws.{frame_unflagged, refuses}
use Rattle.frame.proofs.FrameCalls.{Reads, was_read}

-- the byte at the first flag's place is a flag, and none before it is
flag_at : (s : List ℕ) → first_flag s < length s → get_or s (first_flag s) 0 ≡ flag_byte
unfolding first_flag
flag_at [] h = absurd (omega arith)
flag_at (b ∷ bs) h = cases (eqb b flag_byte) refl h (flag_at bs)
  where
    cases : (t : Bool) → eqb b flag_byte ≡ t → cond t 0 (suc (first_flag bs)) < suc (length bs)
        → (first_flag bs < length bs → get_or bs (first_flag bs) 0 ≡ flag_byte) → get_or (b ∷ bs) (cond t 0 (suc (first_flag bs))) 0 ≡ flag_byte
    cases true e h rest = eqb-true b flag_byte e
    cases false e h rest = rest (omega arith)

no_flag_before : (s : List ℕ) (i : ℕ) → i < first_flag s → get_or s i 0 ≡ flag_byte → ⊥
unfolding first_flag
no_flag_before [] i h e = omega arith
no_flag_before (b ∷ bs) i h e = cases (eqb b flag_byte) refl i h e (no_flag_before bs)
  where
    cases : (t : Bool) → eqb b flag_byte ≡ t → (i : ℕ) → i < cond t 0 (suc (first_flag bs)) → get_or (b ∷ bs) i 0 ≡ flag_byte
        → ((j : ℕ) → j < first_flag bs → get_or bs j 0 ≡ flag_byte → ⊥) → ⊥
    cases true e i h f rest = omega arith
    cases false e zero h f rest = eqb-false b flag_byte e f
    cases false e (suc j) h f rest = rest j (omega arith) f

-- so a flag that none stands before is the first one
first_flag_at : (s : List ℕ) (k : ℕ) → k < length s → get_or s k 0 ≡ flag_byte → ((i : ℕ) → i < k → get_or s i 0 ≡ flag_byte → ⊥) → first_flag s ≡ k
unfolding first_flag
first_flag_at [] k h e none = absurd (omega arith)
first_flag_at (b ∷ bs) zero h e none = rw (eq-eqb b flag_byte e)
first_flag_at (b ∷ bs) (suc k) h e none =
    let next = first_flag_at bs k (omega arith) e (λ i j f. none (suc i) (omega arith) f) in
    rw (ne_eqb b flag_byte (none 0 (omega arith))) (ap suc next)

-- 01, Frames: two flags, one first, one last and none between
pub record Flags (s : List ℕ) : Type 0 where
  pub two : 2 ≤ length s
  pub first : get_or s 0 0 ≡ flag_byte
  pub last : get_or s (length s - 1) 0 ≡ flag_byte
  pub none_between : (i : ℕ) → 0 < i → i < length s - 1 → get_or s i 0 ≡ flag_byte → ⊥

flagged_flags : (s : List ℕ) → flagged_bytes s ≡ true → Flags s
unfolding flagged_bytes
flagged_flags [] e = impossible cc
flagged_flags (b ∷ bs) e = cases (eqb b flag_byte) refl e
  where
    at_last : suc (first_flag bs) ≡ length bs → get_or (b ∷ bs) (suc (length bs) - 1) 0 ≡ flag_byte
    at_last f =
        let place : suc (length bs) - 1 ≡ suc (first_flag bs) = omega arith in
        rw place (flag_at bs (omega arith))

    between : suc (first_flag bs) ≡ length bs → (i : ℕ) → 0 < i → i < suc (length bs) - 1 → get_or (b ∷ bs) i 0 ≡ flag_byte → ⊥
    between f zero h k g = omega arith
    between f (suc j) h k g = no_flag_before bs j (omega arith) g

    cases : (t : Bool) → eqb b flag_byte ≡ t → cond t (eqb (suc (first_flag bs)) (length bs)) false ≡ true → Flags (b ∷ bs)
    cases true f g =
        let next = eqb-true (suc (first_flag bs)) (length bs) g in
        record { two = omega arith; first = eqb-true b flag_byte f; last = at_last next; none_between = between next }
    cases false f g = impossible cc

flags_flagged : (s : List ℕ) → Flags s → flagged_bytes s ≡ true
unfolding flagged_bytes
flags_flagged [] f = let two = f.two in absurd (omega arith)
flags_flagged (b ∷ []) f = let two = f.two in absurd (omega arith)
flags_flagged (b ∷ (c ∷ bs)) f =
    let last = length bs in
    let at_last : get_or (c ∷ bs) last 0 ≡ flag_byte = let place : suc (suc last) - 1 ≡ suc last = omega arith in rw place at f.last in
    let none_before : (i : ℕ) → i < last → get_or (c ∷ bs) i 0 ≡ flag_byte → ⊥ = λ i h g. f.none_between (suc i) (omega arith) (omega arith) g in
    let next : first_flag (c ∷ bs) ≡ last = first_flag_at (c ∷ bs) last (omega arith) at_last none_before in
    rw (eq-eqb b flag_byte f.first) (eq-eqb (suc (first_flag (c ∷ bs))) (suc last) (ap suc next))

-- THEOREM. The whole-frame reader's test of flags is passed exactly by two flags, one first, one last and none between.
pub flagged_exactly : (s : List ℕ) → (flagged_bytes s ≡ true) ↔ Flags s
flagged_exactly s = (flagged_flags s, flags_flagged s)

-- what the reader's tests tell: no flag in the part between the ends, or one there
module _ (bytes : List ℕ) where
  abbrev part : List ℕ
  part = take (length bytes - 1 - 1) (drop 1 bytes)

  in_part : (k : ℕ) → k < length bytes - 1 - 1 → get_or part k 0 ≡ get_or bytes (suc k) 0
  in_part k h = get_or-take (length bytes - 1 - 1) (drop 1 bytes) k 0 h ∙ get_or-drop 1 bytes k 0 ∙ ap (λ (i : ℕ). get_or bytes i 0) (omega arith)

  part_length : length part ≡ length bytes - 1 - 1
  part_length = simp (length-take, length-drop) (omega arith)

  pub flags_none : 2 ≤ length bytes → get_or bytes 0 0 ≡ flag_byte → get_or bytes (length bytes - 1) 0 ≡ flag_byte
      → ((k d : ℕ) → 0 ≤ k → k < length part → eqb (get_or part k d) flag_byte ≡ false) → flagged_bytes bytes ≡ true
  flags_none two first last none = flags_flagged bytes (record { two = two; first = first; last = last; none_between = between_ends })
    where
      between_ends : (i : ℕ) → 0 < i → i < length bytes - 1 → get_or bytes i 0 ≡ flag_byte → ⊥
      between_ends zero h k e = omega arith
      between_ends (suc i) h k e =
          let within : i < length bytes - 1 - 1 = omega arith in
          eqb-false (get_or part i 0) flag_byte (none i 0 (omega arith) (omega (arith, part_length))) (in_part i within ∙ e)

  pub flags_some : (k : ℕ) × (k < length part) × ((d : ℕ) → eqb (get_or part k d) flag_byte ≡ true) → Flags bytes → ⊥
  flags_some (k, within, is) f =
      let h : k < length bytes - 1 - 1 = omega (arith, part_length) in
      f.none_between (suc k) (omega arith) (omega arith) (sym (in_part k h) ∙ eqb-true (get_or part k 0) flag_byte (is 0))

  -- bytes without such flags are refused, which leaves the output as it was
  pub unflagged_read : (out : List ℕ) → payload_max ≤ length out → (Flags bytes → ⊥)
      → ReadsAs (read_frame (length out) bytes) out (Err (fault_at bad_framing no_place)) out
  unflagged_read out room wrong = cases (flagged_bytes bytes) refl
    where
      cases : (t : Bool) → flagged_bytes bytes ≡ t → ReadsAs (read_frame (length out) bytes) out (Err (fault_at bad_framing no_place)) out
      cases true e = absurd (wrong (flagged_flags bytes e))
      cases false e = refuses _ bad_framing no_place out (frame_unflagged (length out) bytes room e)

-- THEOREM. A call of `read_frame` with an output of at least 383 bytes refuses bytes without such flags with 1,
-- and the place is 0.
pub unflagged_refused : (bytes out : List ℕ) (answer : Result Frame Fault) (after : List ℕ) → Reads bytes out answer after → payload_max ≤ length out
    → (Flags bytes → ⊥) → answer ≡ Err (fault_at bad_framing no_place)
unflagged_refused bytes out answer after r asked wrong = (was_read r).answers ∙ sym (unflagged_read bytes out asked wrong).answers
