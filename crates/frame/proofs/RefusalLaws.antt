-- A frame is refused by 1 to 4: unstuffing refuses by 1 and 2, and the judge of content by 3 and 4. No place is past the sent bytes that settle
-- the verdict.
use mathlib.Core.Path.{◌≡◌, refl}
use mathlib.Core.Bool.{Bool, true, false, cond}
use mathlib.Core.List.{List, [], ◌∷◌}
use Prim.Native.Nat.{ℕ, suc, ◌≤◌}
use native.Mathlib.Omega.{arith}
use lib.Dec.{eqb, ltb}
use lib.ListN.{length, get_or}
use Rattle.refusals.specs.declared.Refusal.{Refusal}
use Rattle.slices.proofs.Impossible.{impossible}
use Rattle.refusals.specs.Numbers.{bad_framing, long_content, short_content, bad_check, short_output, number_of}
use Rattle.crc.specs.Crc.{link_start, crc_of}
use Rattle.frame.specs.Stuffing as stuffing
use Rattle.frame.specs.Stuffing.{State, plain, escaped, Meaning, escapes_next, stands_for, faulty, meaning, Unstuffed, joined, taken, content_max, sent_max, unstuff_from, unstuff}
use Rattle.frame.specs.Content.{payload_max, payload_of, frame, refused, no_place, judged}
use Rattle.frame.specs.Reading.{judged_content, flagged_bytes, between, read_run, read_frame}
use Rattle.frame.proofs.BoundLaws.{joined_refused, unstuff_bounded}
use Rattle.frame.proofs.SentLaws.{place_within}

-- what unstuffing refuses by
module _ (held at : ℕ) (rest : State → ℕ → Unstuffed) (n : Refusal) (place : ℕ)
    (known : (s₁ : State) (held₁ : ℕ) → rest s₁ held₁ ≡ stuffing.refused n place → (1 ≤ number_of n) × (number_of n ≤ 2)) where
  byte_refused : (v : ℕ) (t : Bool) → cond t (joined v (rest plain (suc held))) (stuffing.refused long_content at) ≡ stuffing.refused n place → (1 ≤ number_of n) × (number_of n ≤ 2)
  byte_refused v true e = known plain (suc held) (joined_refused v (rest plain (suc held)) n place e)
  byte_refused v false e = let is : n ≡ long_content = cc in rw is (omega arith, omega arith)

  taken_refused : (m : Meaning) → taken m held at rest ≡ stuffing.refused n place → (1 ≤ number_of n) × (number_of n ≤ 2)
  taken_refused escapes_next e = known escaped held e
  taken_refused (stands_for v) e = byte_refused v (ltb held content_max) e
  taken_refused faulty e = let is : n ≡ bad_framing = cc in rw is (omega arith, omega arith)

pub refused_number : (s : State) (held before : ℕ) (bytes : List ℕ) (n : Refusal) (place : ℕ) → unstuff_from s held before bytes ≡ stuffing.refused n place → (1 ≤ number_of n) × (number_of n ≤ 2)
unfolding unstuff_from
refused_number plain held before [] n place e = impossible cc
refused_number escaped held before [] n place e = let is : n ≡ bad_framing = cc in rw is (omega arith, omega arith)
refused_number s held before (b ∷ bs) n place e =
    taken_refused held (suc before) (λ s₁ held₁. unstuff_from s₁ held₁ (suc before) bs) n place (λ s₁ held₁. refused_number s₁ held₁ (suc before) bs n place) (meaning s b) e

module _ (n : Refusal) (place : ℕ) where
  by_number : (m : Refusal) (at : ℕ) → 1 ≤ number_of m → number_of m ≤ 4 → refused m at ≡ refused n place → (1 ≤ number_of n) × (number_of n ≤ 4)
  by_number m at least most e = let same : m ≡ n = cc in rw (← same) (least, most)

  judged_number : (c : List ℕ) → judged c ≡ refused n place → (1 ≤ number_of n) × (number_of n ≤ 4)
  unfolding judged
  judged_number c e = by_tests (ltb (length c) 4) (eqb (crc_of link_start c) 0) e
    where
      by_tests : (t u : Bool) → cond t (refused short_content no_place) (cond u (frame (get_or c 0 0) (get_or c 1 0) (payload_of c)) (refused bad_check (length c))) ≡ refused n place
          → (1 ≤ number_of n) × (number_of n ≤ 4)
      by_tests true u e = by_number short_content no_place (omega arith) (omega arith) e
      by_tests false true e = impossible cc
      by_tests false false e = by_number bad_check (length c) (omega arith) (omega arith) e

  pub run_number : (run : List ℕ) → read_run run ≡ refused n place → (1 ≤ number_of n) × (number_of n ≤ 4)
  unfolding read_run unstuff
  run_number run e = by_unstuffed (unstuff_from plain 0 0 run) refl e
    where
      by_unstuffed : (found : Unstuffed) → unstuff_from plain 0 0 run ≡ found → judged_content found ≡ refused n place → (1 ≤ number_of n) × (number_of n ≤ 4)
      by_unstuffed (stuffing.refused m at) f e =
          let known = refused_number plain 0 0 run m at f in
          by_number m at known.0 (omega (arith, known.1)) e
      by_unstuffed (stuffing.content c) f e = judged_number c e

  -- the whole-frame reader also refuses by 7
  pub reader_number : (room : ℕ) (bytes : List ℕ) → read_frame room bytes ≡ refused n place → (1 ≤ number_of n) × (number_of n ≤ 7)
  unfolding read_frame
  reader_number room bytes e = by_tests (ltb room payload_max) (flagged_bytes bytes) e
    where
      by_tests : (t u : Bool) → cond t (refused short_output no_place) (cond u (read_run (between bytes)) (refused bad_framing no_place)) ≡ refused n place → (1 ≤ number_of n) × (number_of n ≤ 7)
      by_tests true u e = let same : n ≡ short_output = cc in rw same (omega arith, omega arith)
      by_tests false true e = let known = run_number (between bytes) e in (known.0, omega (arith, known.1))
      by_tests false false e = let same : n ≡ bad_framing = cc in rw same (omega arith, omega arith)

module _ (n : Refusal) (place : ℕ) where
  judged_place : (c : List ℕ) → length c ≤ content_max → judged c ≡ refused n place → place ≤ sent_max
  unfolding judged
  judged_place c short e = by_tests (ltb (length c) 4) (eqb (crc_of link_start c) 0) e
    where
      by_tests : (t u : Bool)
          → cond t (refused short_content no_place) (cond u (frame (get_or c 0 0) (get_or c 1 0) (payload_of c)) (refused bad_check (length c))) ≡ refused n place
          → place ≤ sent_max
      by_tests true u e = let none : 0 ≡ place = cc in omega arith
      by_tests false true e = impossible cc
      by_tests false false e = let there : length c ≡ place = cc in omega arith

  run_place : (run : List ℕ) → read_run run ≡ refused n place → place ≤ sent_max
  unfolding read_run unstuff
  run_place run e = by_unstuffed (unstuff run) refl e
    where
      by_unstuffed : (found : Unstuffed) → unstuff run ≡ found → judged_content found ≡ refused n place → place ≤ sent_max
      by_unstuffed (stuffing.refused m at) f e = let there : at ≡ place = cc in rw (← there) (place_within run m at f)
      by_unstuffed (stuffing.content c) f e = judged_place c (omega (arith, unstuff_bounded plain 0 0 run c (omega arith) f)) e

  pub reader_place : (room : ℕ) (bytes : List ℕ) → read_frame room bytes ≡ refused n place → place ≤ sent_max
  unfolding read_frame
  reader_place room bytes e = by_tests (ltb room payload_max) (flagged_bytes bytes) e
    where
      by_tests : (t u : Bool) → cond t (refused short_output no_place) (cond u (read_run (between bytes)) (refused bad_framing no_place)) ≡ refused n place
          → place ≤ sent_max
      by_tests true u e = let none : 0 ≡ place = cc in omega arith
      by_tests false true e = run_place (between bytes) e
      by_tests false false e = let none : 0 ≡ place = cc in omega arith
