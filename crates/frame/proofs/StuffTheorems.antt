-- Unstuffing undoes stuffing, and stuffing adds one byte for each escape and no flag: byte by byte, by what each byte becomes.
use mathlib.Core.Path.{◌≡◌, refl, ap, ap₂, ◌∙◌}
use mathlib.Core.Bool.{Bool, true, false, cond}
use mathlib.Core.List.{List, [], ◌∷◌, ◌++◌, append_assoc}
use Prim.Native.Nat.{ℕ, suc, ◌+◌, ◌-◌, ◌≤◌, ◌<◌}
use native.Mathlib.Nat.{zero-add}
use native.Mathlib.Omega.{arith}
use lib.Dec.{eqb, ltb, leb}
use lib.ListN.{length, take, length-append}
use borrow.Author.Tests.{eqb-true, ltb-true, ltb-false, le-leb, lt-leb}
use Rattle.refusals.specs.Numbers.{long_content}
use Rattle.slices.specs.Each.{each}
use Rattle.frame.specs.Stuffing.{plain, stands_for, Unstuffed, content, refused, joined, taken, content_max, stuff_byte, stuff, escapes, unstuff_from, unstuff}
use Rattle.frame.specs.Reading.{first_flag}

-- a stuffed byte stands for itself
pub stuffed_byte : (held before b : ℕ) (rest : List ℕ)
    → unstuff_from plain held before (stuff_byte b ++ rest) ≡ taken (stands_for b) held (before + length (stuff_byte b)) (λ s₁ held₁. unstuff_from s₁ held₁ (before + length (stuff_byte b)) rest)
unfolding unstuff_from
stuffed_byte held before b rest = cases (eqb b 0x7e) (eqb b 0x7d) refl refl
  where
    cases : (t u : Bool) → eqb b 0x7e ≡ t → eqb b 0x7d ≡ u
        → unstuff_from plain held before (stuff_byte b ++ rest)
        ≡ taken (stands_for b) held (before + length (stuff_byte b)) (λ s₁ held₁. unstuff_from s₁ held₁ (before + length (stuff_byte b)) rest)
    cases true u e f =
        let is : b ≡ 0x7e = eqb-true b 0x7e e in
        let two : before + 2 ≡ suc (suc before) = omega arith in
        rw (is, two)
    cases false true e f =
        let is : b ≡ 0x7d = eqb-true b 0x7d f in
        let two : before + 2 ≡ suc (suc before) = omega arith in
        rw (is, two)
    cases false false e f =
        let one : before + 1 ≡ suc before = omega arith in
        rw (e, f, one) (rw f)

-- how many bytes are sent up to the byte of content that passes the limit, with `held` bytes before
abbrev sent_to_limit : ℕ → List ℕ → ℕ
sent_to_limit held c = length (stuff (take (suc content_max - held) c))

sent_more : (held b : ℕ) (bs : List ℕ) → held ≤ content_max → sent_to_limit held (b ∷ bs) ≡ length (stuff_byte b) + sent_to_limit (suc held) bs
unfolding each
sent_more held b bs h =
    let more : suc content_max - held ≡ suc (suc content_max - suc held) = omega arith in
    rw more (length-append (stuff_byte b) (stuff (take (suc content_max - suc held) bs)))

sent_last : (held b : ℕ) (bs : List ℕ) → held ≡ content_max → sent_to_limit held (b ∷ bs) ≡ length (stuff_byte b)
unfolding each
sent_last held b bs full =
    let none : suc content_max - suc held ≡ 0 = omega arith in
    let rest : sent_to_limit (suc held) bs ≡ 0 = rw none in
    omega (arith, sent_more held b bs (omega arith), rest)

-- content of at most 387 bytes comes back as it was; longer content is refusal 2, at the byte that passes the limit
abbrev within_limit : ℕ → ℕ → List ℕ → Unstuffed
within_limit held before c = cond (leb (held + length c) content_max) (content c) (refused long_content (before + sent_to_limit held c))

joined_within : (t : Bool) (b : ℕ) (c : List ℕ) (place : ℕ)
    → joined b (cond t (content c) (refused long_content place)) ≡ cond t (content (b ∷ c)) (refused long_content place)
joined_within true b c place = refl
joined_within false b c place = refl

one_more : (held before b : ℕ) (bs : List ℕ) → held ≤ content_max
    → cond (ltb held content_max) (joined b (within_limit (suc held) (before + length (stuff_byte b)) bs)) (refused long_content (before + length (stuff_byte b)))
    ≡ within_limit held before (b ∷ bs)
one_more held before b bs h = cases (ltb held content_max) refl
  where
    cases : (t : Bool) → ltb held content_max ≡ t
        → cond t (joined b (within_limit (suc held) (before + length (stuff_byte b)) bs)) (refused long_content (before + length (stuff_byte b)))
        ≡ within_limit held before (b ∷ bs)
    cases true e =
        let same : suc held + length bs ≡ held + suc (length bs) = omega arith in
        let sent : before + length (stuff_byte b) + sent_to_limit (suc held) bs ≡ before + sent_to_limit held (b ∷ bs) = omega (arith, sent_more held b bs h) in
        joined_within (leb (suc held + length bs) content_max) b bs (before + length (stuff_byte b) + sent_to_limit (suc held) bs)
        ∙ ap₂ (λ (n place : ℕ). cond (leb n content_max) (content (b ∷ bs)) (refused long_content place)) same sent
    cases false e =
        let full : held ≡ content_max = omega (arith, ltb-false held content_max e) in
        let past : content_max < held + suc (length bs) = omega arith in
        let sent : before + length (stuff_byte b) ≡ before + sent_to_limit held (b ∷ bs) = omega (arith, sent_last held b bs full) in
        rw (lt-leb (held + suc (length bs)) content_max past) (ap (refused long_content) sent)

unstuff_stuff_from : (held before : ℕ) (c : List ℕ) → held ≤ content_max → unstuff_from plain held before (stuff c) ≡ within_limit held before c
unfolding each unstuff_from
unstuff_stuff_from held before [] h =
    let room : held + 0 ≤ content_max = omega arith in
    rw (le-leb (held + 0) content_max room)
unstuff_stuff_from held before (b ∷ bs) h =
    stuffed_byte held before b (stuff bs)
    ∙ under (ltb held content_max) refl (λ room. unstuff_stuff_from (suc held) (before + length (stuff_byte b)) bs room)
    ∙ one_more held before b bs h
  where
    under : (t : Bool) → ltb held content_max ≡ t
        → (held < content_max → unstuff_from plain (suc held) (before + length (stuff_byte b)) (stuff bs) ≡ within_limit (suc held) (before + length (stuff_byte b)) bs)
        → cond t (joined b (unstuff_from plain (suc held) (before + length (stuff_byte b)) (stuff bs))) (refused long_content (before + length (stuff_byte b))) ≡ cond t (joined b (within_limit (suc held) (before + length (stuff_byte b)) bs)) (refused long_content (before + length (stuff_byte b)))
    under true e rest = ap (joined b) (rest (ltb-true held content_max e))
    under false e rest = refl

-- THEOREM. Unstuffing undoes stuffing, up to the limit of 387 bytes, past which it is refusal 2 at the last sent byte of the 388th.
pub unstuff_stuff : (c : List ℕ) → unstuff (stuff c) ≡ cond (leb (length c) content_max) (content c) (refused long_content (length (stuff (take (suc content_max) c))))
unfolding unstuff
unstuff_stuff c = unstuff_stuff_from 0 0 c (omega arith) ∙ rw (zero-add (length c), zero-add (sent_to_limit 0 c))

-- THEOREM. Stuffing adds one byte for each 7d and 7e.
pub stuffed_length : (c : List ℕ) → length (stuff c) ≡ length c + escapes c
unfolding each escapes
stuffed_length [] = refl
stuffed_length (b ∷ bs) =
    length-append (stuff_byte b) (stuff bs) ∙ omega (arith, one_byte (eqb b 0x7e) (eqb b 0x7d), stuffed_length bs)
  where
    one_byte : (t u : Bool) → length (cond t (0x7d ∷ 0x5e ∷ []) (cond u (0x7d ∷ 0x5d ∷ []) (b ∷ []))) ≡ 1 + cond t 1 (cond u 1 0)
    one_byte true u = refl
    one_byte false true = refl
    one_byte false false = refl

-- a stuffed byte holds no flag
byte_without_flag : (b : ℕ) (rest : List ℕ) → first_flag (stuff_byte b ++ rest) ≡ length (stuff_byte b) + first_flag rest
unfolding first_flag
byte_without_flag b rest = cases (eqb b 0x7e) (eqb b 0x7d) refl
  where
    two : (second : ℕ) → eqb second 0x7e ≡ false → first_flag (0x7d ∷ second ∷ rest) ≡ 2 + first_flag rest
    two second e = rw e (omega arith)

    cases : (t u : Bool) → eqb b 0x7e ≡ t
        → first_flag (cond t (0x7d ∷ 0x5e ∷ []) (cond u (0x7d ∷ 0x5d ∷ []) (b ∷ [])) ++ rest)
        ≡ length (cond t (0x7d ∷ 0x5e ∷ []) (cond u (0x7d ∷ 0x5d ∷ []) (b ∷ []))) + first_flag rest
    cases true u e = two 0x5e refl
    cases false true e = two 0x5d refl
    cases false false e = rw e (omega arith)

pub stuffed_without_flag : (c rest : List ℕ) → first_flag (stuff c ++ rest) ≡ length (stuff c) + first_flag rest
unfolding each
stuffed_without_flag [] rest = omega arith
stuffed_without_flag (b ∷ bs) rest =
    let first = byte_without_flag b (stuff bs ++ rest) in
    let sizes = length-append (stuff_byte b) (stuff bs) in
    rw (append_assoc (stuff_byte b) (stuff bs) rest) (omega (arith, first, sizes, stuffed_without_flag bs rest))
