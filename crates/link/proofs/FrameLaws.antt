-- The flag behind a run that held bytes does what 01 says of the run: unstuffed from the left and tested by 1 to 6. One byte is
-- enough for a frame.
use Rattle.std.proofs.Common.{◌≡◌, ℕ, Option, ◌<◌, ◌≤◌, Bool, true, false, cond, ltb, List, [], ◌∷◌, ◌++◌, length, sym, refl, ap, ◌∙◌, arith, length-append, take_all, ne_eqb}
use mathlib.Core.Path.{subst⁻¹}
use Rattle.frame.specs.Stuffing.{content_max, plain, escaped, Meaning, escapes_next, stands_for, faulty, meaning, Unstuffed, unstuff_from, unstuff}
use Rattle.frame.specs.Reading.{judged_content, read_run}
use Rattle.frame.proofs.FollowLaws.{prefixed_none}
use Rattle.link.specs.declared.counts.Counts.{Counts}
use Rattle.link.specs.declared.reader.Phase.{Phase}
use Rattle.link.specs.declared.reader.Phase.TheVariants.{Before, Plain, Escaped, BadFraming, LongContent}
use Rattle.link.specs.Reader.{next_place, step_of}
use Rattle.link.specs.Closing.{read_outcome, frame_outcome}
use Rattle.link.specs.Seen.{Seen, nothing_seen, seen_after, seen_run, close_seen}
use Rattle.link.proofs.RunLaws.{unstuffed_in, seen_by, seen_by_law, run_unstuffed}

-- where the flag behind it closes a frame: any phase within a frame, with a byte of content where it is plain
abbrev Holds : Phase → ℕ → Type 0
Holds Before held = ⊥
Holds Plain held = 0 < held
Holds Escaped held = Unit
Holds BadFraming held = Unit
Holds LongContent held = Unit

abbrev Held : Seen → Type 0
Held s = Holds s.phase (length s.bytes)

abbrev Within : Phase → Type 0
Within Before = ⊥
Within Plain = Unit
Within Escaped = Unit
Within BadFraming = Unit
Within LongContent = Unit

holds_within : (phase : Phase) (held : ℕ) → Holds phase held → Within phase
holds_within Before held h = h
holds_within Plain held h = tt
holds_within Escaped held h = tt
holds_within BadFraming held h = tt
holds_within LongContent held h = tt

-- one byte is enough
by_holds : (m : Meaning) (bytes : List ℕ) (place : ℕ) → Held (seen_by m bytes place)
by_holds escapes_next bytes place = tt
by_holds (stands_for v) bytes place = cases (ltb (length bytes) content_max)
  where
    cases : (t : Bool) → Held (cond t (record { phase = Plain; bytes = bytes ++ (v ∷ []); place = place }) (record { phase = LongContent; bytes = bytes; place = place }))
    cases true = simp length-append (omega arith)
    cases false = tt
by_holds faulty bytes place = tt

after_holds : (phase : Phase) (bytes : List ℕ) (place b : ℕ) → Within phase → Held (seen_after (record { phase = phase; bytes = bytes; place = place }) b)
unfolding seen_after step_of
after_holds Before bytes place b h = absurd h
after_holds Plain bytes place b h = subst⁻¹ Held (seen_by_law plain bytes place b) (by_holds (meaning plain b) bytes (next_place place))
after_holds Escaped bytes place b h = subst⁻¹ Held (seen_by_law escaped bytes place b) (by_holds (meaning escaped b) bytes (next_place place))
after_holds BadFraming bytes place b h = tt
after_holds LongContent bytes place b h = tt

run_holds : (s : Seen) (b : ℕ) (bs : List ℕ) → Within s.phase → Held (seen_run s (b ∷ bs))
unfolding seen_run
run_holds s b [] h = after_holds s.phase s.bytes s.place b h
run_holds s b (b₁ ∷ bs) h =
    let next = seen_after s b in
    run_holds next b₁ bs (holds_within next.phase (length next.bytes) (after_holds s.phase s.bytes s.place b h))

-- what the flag does to a reader that holds a frame
close_held : (phase : Phase) (bytes : List ℕ) (place : ℕ) (previous : Option ℕ) (before : Counts) → Holds phase (length bytes)
    → close_seen (record { phase = phase; bytes = bytes; place = place }) previous before ≡ read_outcome (judged_content (unstuffed_in phase bytes place)) previous before
unfolding frame_outcome
close_held Before bytes place previous before h = absurd h
close_held Plain bytes place previous before h =
    let some : length bytes ≡ 0 → ⊥ = λ e. omega arith in
    let all : length bytes ≤ length bytes = omega arith in
    rw (ne_eqb (length bytes) 0 some, take_all (length bytes) bytes all)
close_held Escaped bytes place previous before h = refl
close_held BadFraming bytes place previous before h = refl
close_held LongContent bytes place previous before h = refl

-- 01, The ledger: a run that held bytes is a frame, unstuffed from the left and tested by 1 to 6
pub run_close : (b : ℕ) (bs : List ℕ) (previous : Option ℕ) (before : Counts)
    → close_seen (seen_run nothing_seen (b ∷ bs)) previous before ≡ read_outcome (read_run (b ∷ bs)) previous before
unfolding read_run unstuff
run_close b bs previous before =
    let s = seen_run nothing_seen (b ∷ bs) in
    close_held s.phase s.bytes s.place previous before (run_holds nothing_seen b bs tt)
    ∙ ap (λ (found : Unstuffed). read_outcome (judged_content found) previous before)
    (run_unstuffed plain [] 0 (b ∷ bs) (omega arith, omega arith) ∙ sym (prefixed_none (unstuff_from plain 0 0 (b ∷ bs))))
