-- What the plain and the escaped reader answer, one law for each way through them: the law of unstuffing for what the byte means, on what
-- the call for the rest gave. Their number then says what the whole run is: no length of content is that of a refusal.
use mathlib.Core.Path.{◌≡◌, refl, sym, ap, ap₂, ◌∙◌}
use mathlib.Core.List.{List, [], ◌∷◌}
use mathlib.Core.Logic.{◌⊎◌, inl, inr}
use Prim.Native.Nat.{ℕ, suc, ◌+◌, ◌*◌, ◌%◌, ◌≤◌, ◌<◌}
use native.Mathlib.Numerals.{add-one}
use native.Mathlib.Omega.{arith}
use lib.ListN.{length, take, get_or, set}
use borrow.Author.Tests.{lt-ltb, le-ltb}
use Rattle.std.specs.Prelude.{Ok, Err}
use Rattle.refusals.specs.Numbers.{bad_framing, long_content, number_of}
use Rattle.refusals.specs.declared.Refusal.{Refusal}
use Rattle.slices.proofs.Impossible.{impossible}
use Rattle.slices.proofs.PutLaws.{length_put, put_first}
use Rattle.frame.specs.Stuffing.{State, plain, escaped, stands_for, faulty, meaning, Unstuffed, content, refused, joined, content_max, sent_max, unstuff_from, unstuff}
use Rattle.frame.specs.ReaderSteps.{place_limit, readers_answer, ReadersAs, refusal_told, unstuff_answer, UnstuffsAs}
use Rattle.frame.specs.Answers.{fault_at}
use Rattle.frame.proofs.BoundLaws.{unstuff_bounded}
use Rattle.frame.proofs.BrokenLaws.{Broken, broke}
use Rattle.frame.proofs.ContentLaws.{same_fault}
use Rattle.frame.proofs.SentLaws.{place_within}
use Rattle.frame.proofs.UnstuffLaws.{plain_escape, escaped_fault, behind, unstuff_none, unstuff_first}

-- a byte stored and the rest unstuffed behind it: the byte in front of the rest
stored : (found : Unstuffed) (v held : ℕ) (array : List ℕ) (r : ℕ) (exit : List ℕ)
    → ReadersAs found (held + 1) (set array held v) r exit → ReadersAs (joined v found) held array r exit
stored (content c) v held array r exit u =
    let more : held + 1 + length c ≡ held + suc (length c) = omega arith in
    record {
      answers = u.answers ∙ more;
      array_filled = λ c₁ e.
          let same : v ∷ c ≡ c₁ = cc in
          rw add-one at (u.array_filled c refl) ∙ rw (← same);
    }
stored (refused n place) v held array r exit u =
    record { answers = u.answers; array_filled = λ c₁ e. impossible cc }

-- a refusal says nothing of the array
stopped : (n : Refusal) (place held : ℕ) (array : List ℕ) (r : ℕ) → r ≡ number_of n * place_limit + place → ReadersAs (refused n place) held array r array
stopped n place held array r told = record { answers = told; array_filled = λ c e. impossible cc }

-- at the closing flag, out of the escaped state, the content is whole
ended : (held : ℕ) (array : List ℕ) → ReadersAs (content []) held array held array
ended held array =
    let all : held ≡ held + 0 = omega arith in
    record { answers = all; array_filled = λ c e. let none : [] ≡ c = cc in rw (← none) }

-- a reader before the sent bytes behind a place
module _ (sent : List ℕ) (place held : ℕ) (array : List ℕ) where
  pub ends_plain : length sent ≡ 0 → ReadersAs (unstuff_from plain held place sent) held array held array
  ends_plain none = rw (unstuff_none plain held place sent none) (ended held array)

  -- by what the first of them means
  module _ (some : 0 < length sent) where
    pub reads_escape : get_or sent 0 0 ≡ 0x7d → (r : ℕ) (exit : List ℕ)
        → ReadersAs (unstuff_from escaped held (place + 1) (behind sent)) held array r exit → ReadersAs (unstuff_from plain held place sent) held array r exit
    reads_escape e r exit u = rw (unstuff_first plain held place sent some, plain_escape (get_or sent 0 0) e) u

    module _ (s : State) (v : ℕ) (is : meaning s (get_or sent 0 0) ≡ stands_for v) where
      pub reads_byte : held < content_max → (r : ℕ) (exit : List ℕ)
          → ReadersAs (unstuff_from plain (held + 1) (place + 1) (behind sent)) (held + 1) (set array held v) r exit → ReadersAs (unstuff_from s held place sent) held array r exit
      reads_byte room r exit u =
          let more : suc held ≡ held + 1 = omega arith in
          rw (unstuff_first s held place sent some, is, lt-ltb held content_max room, more)
          (stored (unstuff_from plain (held + 1) (place + 1) (behind sent)) v held array r exit u)

      pub reads_full : content_max ≤ held → ReadersAs (unstuff_from s held place sent) held array (number_of long_content * place_limit + place + 1) array
      reads_full full =
          rw (unstuff_first s held place sent some, is, le-ltb held content_max full) (stopped long_content (place + 1) held array _ (omega arith))

-- neither 5d nor 5e behind an escape byte
pub reads_fault : (sent : List ℕ) (place held : ℕ) (array : List ℕ) → (length sent < 1) ⊎ ((get_or sent 0 0 < 0x5d) ⊎ (0x5f ≤ get_or sent 0 0))
    → ReadersAs (unstuff_from escaped held place sent) held array (number_of bad_framing * place_limit + place + 1) array
reads_fault [] place held array wrong = rw (unstuff_none escaped held place [] refl) (stopped bad_framing (place + 1) held array _ (omega arith))
reads_fault (b ∷ bs) place held array wrong =
    let is : meaning escaped b ≡ faulty = escaped_fault b (λ e. grind arith) (λ e. grind arith) in
    rw (unstuff_first escaped held place (b ∷ bs) (omega arith), is) (stopped bad_framing (place + 1) held array _ (omega arith))

-- their number told as a result: under the limit of places it is a length of content, from there on a refusal's number and place
module _ (run array : List ℕ) (r : ℕ) (exit : List ℕ) (u : ReadersAs (unstuff_from plain 0 0 run) 0 array r exit) where
  pub told_content : r < place_limit → UnstuffsAs (unstuff run) array (Ok r) exit
  unfolding unstuff
  told_content within =
      record { answers = cases (unstuff_from plain 0 0 run) refl u.answers; array_filled = u.array_filled }
    where
      least : (n : Refusal) (place : ℕ) → Broken run n place → 1 ≤ number_of n
      least n place (inl b) = rw b.0 (omega arith)
      least n place (inr b) = rw b.0 (omega arith)

      cases : (found : Unstuffed) → unstuff_from plain 0 0 run ≡ found → r ≡ readers_answer 0 found → Ok r ≡ unstuff_answer found
      cases (content c) e told =
          let size : r ≡ length c = omega arith in
          ap Ok size
      cases (refused n place) e told = absurd (omega (arith, least n place (broke run n place e)))

  pub told_refusal : place_limit ≤ r → UnstuffsAs (unstuff run) array (Err (fault_at (refusal_told r) (r % place_limit))) exit
  unfolding unstuff
  told_refusal above = cases (unstuff_from plain 0 0 run) refl u.answers
    where
      told_as : (n : Refusal) (place : ℕ) → place ≤ sent_max → r ≡ number_of n * place_limit + place → refusal_told r ≡ n
          → UnstuffsAs (refused n place) array (Err (fault_at (refusal_told r) (r % place_limit))) exit
      told_as n place within told is =
          let there : r % place_limit ≡ place = omega arith in
          record { answers = ap₂ (λ (m : Refusal) (at : ℕ). Err (fault_at m at)) is there; array_filled = λ c f. impossible cc }

      by_fault : (n : Refusal) (place : ℕ) → place ≤ sent_max → r ≡ number_of n * place_limit + place → Broken run n place
          → UnstuffsAs (refused n place) array (Err (fault_at (refusal_told r) (r % place_limit))) exit
      by_fault n place within told (inl b) =
          let sum : r ≡ number_of bad_framing * place_limit + place = rw b.0 at told in
          told_as n place within told (rw (b.0, lt-ltb r (number_of long_content * place_limit) (omega arith)))
      by_fault n place within told (inr b) =
          let sum : r ≡ number_of long_content * place_limit + place = rw b.0 at told in
          told_as n place within told (rw (b.0, le-ltb r (number_of long_content * place_limit) (omega arith)))

      cases : (found : Unstuffed) → unstuff_from plain 0 0 run ≡ found → r ≡ readers_answer 0 found
          → UnstuffsAs found array (Err (fault_at (refusal_told r) (r % place_limit))) exit
      cases (content c) e told = absurd (omega (arith, unstuff_bounded plain 0 0 run c (omega arith) e))
      cases (refused n place) e told = by_fault n place (place_within run n place e) told (broke run n place e)

-- what the result says of the run: a refusal, or content, which then stands in the array
pub unstuff_refused : (found : Unstuffed) (n : Refusal) (place : ℕ) → Err (fault_at n place) ≡ unstuff_answer found → found ≡ refused n place
unstuff_refused (content c) n place e = impossible cc
unstuff_refused (refused m at) n place e = let same = same_fault n m place at e in ap₂ refused (sym same.0) (sym same.1)

pub record Filled (run : List ℕ) (n : ℕ) (exit : List ℕ) : Type 0 where
  pub bytes : List ℕ
  pub unstuffs : unstuff run ≡ content bytes
  pub fits : n ≤ length exit
  pub first : take n exit ≡ bytes

pub filled : (run : List ℕ) (n : ℕ) (array exit : List ℕ) → length array ≡ content_max → UnstuffsAs (unstuff run) array (Ok n) exit
    → Filled run n exit
unfolding unstuff
filled run n array exit full u = cases (unstuff_from plain 0 0 run) refl
  where
    cases : (found : Unstuffed) → unstuff_from plain 0 0 run ≡ found → Filled run n exit
    cases (refused m place) e =
        let told : Ok n ≡ Err (fault_at m place) = u.answers ∙ ap unstuff_answer e in
        impossible cc
    cases (content c) e =
        let told : Ok n ≡ Ok (length c) = u.answers ∙ ap unstuff_answer e in
        let size : n ≡ length c = cc in
        let bound = unstuff_bounded plain 0 0 run c (omega arith) e in
        let room : length c ≤ length array = omega arith in
        let is = u.array_filled c e in
        record {
          bytes = c;
          unstuffs = e;
          fits = rw (is, length_put array 0 c) (omega arith);
          first = rw (is, size) (put_first array c room);
        }
