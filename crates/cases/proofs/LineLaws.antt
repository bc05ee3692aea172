-- The parts of a line: what stands before a mark, the bytes that groups of three characters give, and the number of them.
use mathlib.Core.Path.{◌≡◌, refl, sym, ap, ◌∙◌}
use mathlib.Core.Bool.{Bool, true, false, cond}
use mathlib.Core.List.{List, [], ◌∷◌}
use Prim.Native.Nat.{ℕ, ◌+◌, ◌-◌, ◌≤◌, ◌<◌}
use native.Mathlib.Omega.{arith}
use lib.Dec.{eqb}
use lib.ListN.{length, take, drop, get_or, length-drop, drop_of_length-le}
use lib.Seq.{take-length}
use Rattle.std.proofs.Common.{None, Some}
use Rattle.std.proofs.lemmas.List.{take_all}
use Rattle.std.proofs.lemmas.Bool.Decides.{nat_tests}
use Rattle.std.specs.List.{fold, position, position_or_len}
use Rattle.std.proofs.lemmas.List.Recursion.{is_position_or_len}
use Rattle.cases.specs.Line.{until, line_at, byte_of, bytes_of, case_bytes, with_byte, number_from}

-- how many bytes stand before a mark is its place
pub until_len : (mark : ℕ) (text : List ℕ) → length (until mark text) ≡ position_or_len (λ b. eqb b mark) text
unfolding until
until_len mark text = is_position_or_len (λ xs. length (until mark xs)) (λ b. eqb b mark) refl (λ x xs. cases (eqb x mark) x xs) text
  where
    cases : (t : Bool) (x : ℕ) (xs : List ℕ) → length (cond t [] (x ∷ until mark xs)) ≡ cond t 0 (1 + length (until mark xs))
    cases true x xs = refl
    cases false x xs = omega arith

-- what stands before a mark is a part of the text
pub until_part : (mark : ℕ) (text : List ℕ) → take (length (until mark text)) text ≡ until mark text
unfolding until
until_part mark [] = refl
until_part mark (x ∷ xs) = cases (eqb x mark) (until_part mark xs)
  where
    cases : (t : Bool) → take (length (until mark xs)) xs ≡ until mark xs
        → take (length (cond t [] (x ∷ until mark xs))) (x ∷ xs) ≡ cond t [] (x ∷ until mark xs)
    cases true rest = refl
    cases false rest = ap (λ (l : List ℕ). x ∷ l) rest

line_found : (mark : ℕ) (text : List ℕ) → take (position_or_len (λ b. eqb b mark) text) text ≡ until mark text
line_found mark text = rw (sym (until_len mark text)) (until_part mark text)

-- a line ends at the first byte 10, or with the text
pub ended_line : (rest : List ℕ) (end : ℕ) → Some end ≡ position (λ b. eqb b 10) rest → take end rest ≡ until 10 rest
ended_line rest end some =
    let place : end ≡ position_or_len (λ b. eqb b 10) rest = grind (arith, nat_tests) in
    rw place (line_found 10 rest)

pub last_line : (rest : List ℕ) → None ≡ position (λ b. eqb b 10) rest → rest ≡ until 10 rest
last_line rest none =
    let all : length rest ≤ position_or_len (λ b. eqb b 10) rest = grind (arith, nat_tests) in
    sym (take_all _ rest all) ∙ line_found 10 rest

-- past the text no line begins
pub no_line : (text : List ℕ) (place : ℕ) → length text ≤ place → line_at text place ≡ []
unfolding until
no_line text place h = rw (drop_of_length-le text h)

-- a line is no longer than what it begins
until_least : (mark : ℕ) (text : List ℕ) → length (until mark text) ≤ length text
unfolding until
until_least mark [] = omega arith
until_least mark (x ∷ xs) = cases (eqb x mark) (until_least mark xs)
  where
    cases : (t : Bool) → length (until mark xs) ≤ length xs → length (cond t [] (x ∷ until mark xs)) ≤ length (x ∷ xs)
    cases true rest = omega arith
    cases false rest = omega arith

pub line_within : (text : List ℕ) (place : ℕ) → place < length text → place + length (line_at text place) ≤ length text
line_within text place h =
    let least = until_least 10 (drop place text) in
    let size = length-drop place text in
    omega arith

-- fewer than three characters give no byte
pub short : (bytes : List ℕ) → length bytes < 3 → bytes_of bytes ≡ []
unfolding bytes_of
short [] h = refl
short (a ∷ []) h = refl
short (a ∷ b ∷ []) h = refl
short (a ∷ b ∷ c ∷ rest) h = absurd (omega arith)

-- without a colon a line has no bytes, and else those behind it
pub no_colon : (line : List ℕ) → None ≡ position (λ b. eqb b 58) line → case_bytes line ≡ []
no_colon line none =
    let all : length line ≤ position_or_len (λ b. eqb b 58) line = grind (arith, nat_tests) in
    rw (until_len 58 line) (short _ (omega (arith, length-drop {A = ℕ})))

pub behind_colon : (line : List ℕ) (colon : ℕ) → Some colon ≡ position (λ b. eqb b 58) line
    → bytes_of (take (length line - (colon + 1)) (drop (colon + 1) line)) ≡ case_bytes line
behind_colon line colon some =
    let place : position_or_len (λ b. eqb b 58) line ≡ colon = grind (arith, nat_tests) in
    let size : length line - (colon + 1) ≡ length (drop (colon + 1) line) = sym (length-drop (colon + 1) line) in
    rw (until_len 58 line, place, size, take-length) refl

-- three characters give a byte
pub one_group : (left : List ℕ) → 3 ≤ length left
    → bytes_of left ≡ byte_of (get_or left 1 0) (get_or left 2 0) ∷ bytes_of (take (length left - 3) (drop 3 left))
unfolding bytes_of
one_group [] h = absurd (omega arith)
one_group (a ∷ []) h = absurd (omega arith)
one_group (a ∷ b ∷ []) h = absurd (omega arith)
one_group (a ∷ b ∷ c ∷ rest) h =
    let size : length (a ∷ b ∷ c ∷ rest) - 3 ≡ length rest = omega arith in
    rw (size, take-length rest) refl

-- a number is folded from its bytes
pub number_fold : (number : ℕ) (bytes : List ℕ) → number_from number bytes ≡ fold with_byte number bytes
unfolding number_from
number_fold number [] = refl
number_fold number (byte ∷ bytes) = number_fold (with_byte number byte) bytes
