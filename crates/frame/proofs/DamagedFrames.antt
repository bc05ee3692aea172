-- 02, C-19: of two sent frames that differ only within the sent bytes of two neighbouring content bytes, no 7d made or unmade there, the reader takes
-- one at most; and of two whose contents differ only within 16 adjacent bits.
use mathlib.Core.Path.{◌≡◌, refl, sym, ap, ◌∙◌, subst}
use mathlib.Core.Bool.{Bool, true, false, cond}
use mathlib.Core.List.{List, [], ◌∷◌, ◌++◌}
use mathlib.Core.Logic.{inl, inr}
use Prim.Native.Nat.{ℕ, ◌<◌}
use native.Mathlib.Omega.{arith}
use lib.Dec.{eqb, ltb}
use lib.ListN.{length, get_or, length-append}
use borrow.Author.Tests.{eqb-true}
use Rattle.refusals.specs.Numbers.{bad_framing, short_output, short_content, bad_check}
use Rattle.std.specs.Prelude.{Ok}
use Rattle.slices.specs.Bits.{bits_of}
use Rattle.slices.proofs.DifferenceLaws.{differ_some}
use Rattle.crc.specs.Burst.{burst_bits}
use Rattle.crc.specs.Crc.{link_start, crc_of}
use Rattle.crc.proofs.BurstLaws.{burst_seen, pair_burst}
use Rattle.slices.proofs.Impossible.{impossible}
use Rattle.frame.specs.Stuffing as stuffing
use Rattle.frame.specs.Stuffing.{plain, stuff, unstuff_from, unstuff}
use Rattle.frame.specs.Content.{payload_max, Read, frame, refused, no_place, payload_of, judged}
use Rattle.frame.specs.Reading.{judged_content, flagged_bytes, between, read_run, read_frame}
use Rattle.frame.specs.Writing.{between_flags}
use Rattle.frame.specs.Answers.{read_answer, frame_found}
use Rattle.frame.specs.Damage.{PairDamaged, BurstDamaged, Damaged, IsTaken}
use Rattle.frame.proofs.ByteLaws.{unstuffed_bytes}
use Rattle.frame.proofs.DamageLaws.{contents_differ}
use Rattle.frame.proofs.FrameTheorems.{between_flags_law}
use Rattle.frame.proofs.FrameCalls.{Reads, was_read}
use Rattle.frame.proofs.StuffTheorems.{stuffed_length}

-- a run that was taken has content that passes the check
record Passed (run : List ℕ) : Type 0 where
  c : List ℕ
  unstuffed : unstuff run ≡ stuffing.content c
  passes : crc_of link_start c ≡ 0

passed : (run : List ℕ) → IsTaken (read_run run) → Passed run
unfolding read_run judged
passed run t = cases (unstuff run) refl t
  where
    judged_taken : (c : List ℕ) (short good : Bool) → eqb (crc_of link_start c) 0 ≡ good
        → IsTaken (cond short (refused short_content no_place) (cond good (frame (get_or c 0 0) (get_or c 1 0) (payload_of c)) (refused bad_check (length c)))) → crc_of link_start c ≡ 0
    judged_taken c true good e t = absurd t
    judged_taken c false true e t = eqb-true (crc_of link_start c) 0 e
    judged_taken c false false e t = absurd t

    cases : (found : stuffing.Unstuffed) → unstuff run ≡ found → IsTaken (judged_content found) → Passed run
    cases (stuffing.refused n place) e t = absurd t
    cases (stuffing.content c) e t = record { c = c; unstuffed = e; passes = judged_taken c (ltb (length c) 4) (eqb (crc_of link_start c) 0) refl t }

burst_run : (sent arrived : List ℕ) → BurstDamaged sent arrived → IsTaken (read_run sent) → IsTaken (read_run arrived) → ⊥
burst_run sent arrived damage taken taken₁ =
    let p = passed sent taken in
    let q = passed arrived taken₁ in
    let unstuffed : stuffing.content damage.sent_content ≡ stuffing.content p.c = sym damage.as_sent ∙ p.unstuffed in
    let unstuffed₁ : stuffing.content damage.arrived_content ≡ stuffing.content q.c = sym damage.as_arrived ∙ q.unstuffed in
    let same : damage.sent_content ≡ p.c = cc in
    let same₁ : damage.arrived_content ≡ q.c = cc in
    burst_seen link_start damage.sent_content damage.arrived_content damage.burst
    (ap (crc_of link_start) same ∙ p.passes ∙ sym (ap (crc_of link_start) same₁ ∙ q.passes))

-- damage to two neighbouring bytes, if both runs have content, is damage to 16 adjacent bits of it
as_burst : (sent arrived : List ℕ) → PairDamaged sent arrived → Passed sent → Passed arrived → BurstDamaged sent arrived
unfolding unstuff
as_burst sent arrived damage p q =
    record {
      sent_content = p.c;
      arrived_content = q.c;
      as_sent = p.unstuffed;
      as_arrived = q.unstuffed;
      burst =
          pair_burst p.c q.c (unstuffed_bytes plain 0 0 sent p.c damage.bytes p.unstuffed)
          (unstuffed_bytes plain 0 0 arrived q.c damage.other_bytes q.unstuffed)
          (contents_differ sent arrived p.c q.c damage p.unstuffed q.unstuffed);
    }

-- THEOREM (02, C-19). Of two runs of sent bytes, one damaged to the other in either way, not both are taken.
pub damaged_run : (sent arrived : List ℕ) → Damaged sent arrived → IsTaken (read_run sent) → IsTaken (read_run arrived) → ⊥
damaged_run sent arrived (inl pair) taken taken₁ =
    burst_run sent arrived (as_burst sent arrived pair (passed sent taken) (passed arrived taken₁)) taken taken₁
damaged_run sent arrived (inr burst) taken taken₁ = burst_run sent arrived burst taken taken₁

-- a damaged run has bytes
pair_some : (sent arrived : List ℕ) → PairDamaged sent arrived → 0 < length arrived
pair_some sent arrived d =
    let pair = d.first ∷ d.second ∷ [] in
    let whole = ap length d.as_arrived in
    let same = d.same_length in
    omega (arith, whole, same, length-append (stuff d.before) (d.other ++ d.behind), length-append d.other d.behind, stuffed_length pair)

burst_some : (sent arrived : List ℕ) → BurstDamaged sent arrived → 0 < length arrived
unfolding unstuff unstuff_from bits_of
burst_some sent [] d =
    let none : stuffing.content [] ≡ stuffing.content d.arrived_content = d.as_arrived in
    let same : [] ≡ d.arrived_content = cc in
    let bits = differ_some burst_bits (bits_of d.sent_content) (bits_of d.arrived_content) d.burst.damage in
    absurd (omega (arith, bits, ap (λ (c : List ℕ). length (bits_of c)) same))
burst_some sent (x ∷ arrived) d = omega arith

pub damaged_some : (sent arrived : List ℕ) → Damaged sent arrived → 0 < length arrived
damaged_some sent arrived (inl pair) = pair_some sent arrived pair
damaged_some sent arrived (inr burst) = burst_some sent arrived burst

-- a frame is taken only if the run between its flags is
taken_run : (room : ℕ) (run : List ℕ) → IsTaken (read_frame room (between_flags run)) → IsTaken (read_run run)
unfolding read_frame
taken_run room run t = cases (ltb room payload_max) (flagged_bytes (between_flags run)) t
  where
    cases : (short good : Bool) → IsTaken (cond short (refused short_output no_place) (cond good (read_run (between (between_flags run))) (refused bad_framing no_place)))
        → IsTaken (read_run run)
    cases true good t = absurd t
    cases false true t = subst (λ (l : List ℕ). IsTaken (read_run l)) (between_flags_law run) t
    cases false false t = absurd t

pub not_both_taken : (sent arrived : List ℕ) → Damaged sent arrived → (room room₁ : ℕ)
    → IsTaken (read_frame room (between_flags sent)) → IsTaken (read_frame room₁ (between_flags arrived)) → ⊥
not_both_taken sent arrived damage room room₁ t t₁ =
    damaged_run sent arrived damage (taken_run room sent t) (taken_run room₁ arrived t₁)

-- a call that tells of a frame took it
told : (string before : List ℕ) (kind sequence n : ℕ) (after : List ℕ) → Reads string before (Ok (frame_found kind sequence n)) after
    → IsTaken (read_frame (length before) string)
told string before kind sequence n after r = cases (read_frame (length before) string) (was_read r).answers
  where
    cases : (found : Read) → Ok (frame_found kind sequence n) ≡ read_answer found → IsTaken found
    cases (frame k q p) e = tt
    cases (refused m place) e = impossible cc

-- THEOREM (02, C-19). Of two frames that differ, and only within the sent bytes of two neighbouring content bytes with every 7d in its place, not
-- both are taken by calls of `read_frame`; nor of two whose contents differ, and only within 16 adjacent bits.
pub damaged_frame : (sent arrived : List ℕ) → Damaged sent arrived
    → (out after out₁ after₁ : List ℕ) (kind sequence n kind₁ sequence₁ n₁ : ℕ)
    → Reads (between_flags sent) out (Ok (frame_found kind sequence n)) after → Reads (between_flags arrived) out₁ (Ok (frame_found kind₁ sequence₁ n₁)) after₁ → ⊥
damaged_frame sent arrived damage out after out₁ after₁ kind sequence n kind₁ sequence₁ n₁ r r₁ =
    not_both_taken sent arrived damage (length out) (length out₁)
    (told (between_flags sent) out kind sequence n after r) (told (between_flags arrived) out₁ kind₁ sequence₁ n₁ after₁ r₁)
