-- The laws of `put_at` that callers cite: the buffer keeps its length, what stands beyond stays, the first bytes are those that were put.
-- Each goes through the stores one by one.
use mathlib.Core.Path.{◌≡◌, refl, sym, ap, ◌∙◌}
use mathlib.Core.List.{List, [], ◌∷◌, ◌++◌, append_assoc}
use Prim.Native.Nat.{ℕ, suc, ◌+◌, ◌-◌, ◌≤◌, ◌<◌, min}
use native.Mathlib.Nat.{zero-min, min-zero, suc-min-suc}
use native.Mathlib.Omega.{arith}
use mathlib.Core.Bool.{Bool, true, false}
use borrow.Author.Tests.{leb-true, leb-false}
use lib.Dec.{leb}
use lib.ListN.{length, take, drop, set, take-append-drop, drop_of_length-le}
use lib.Seq.{length-sets, sets-eq, set_out, drop-drop, drop-set-lt, take_at, length-take-le}
use borrow.Rule.Slice.PartMut.{put_mid}
use Rattle.slices.specs.Put.{put_at}

-- the buffer keeps its length
pub length_put : (d : List ℕ) (at : ℕ) (xs : List ℕ) → length (put_at d at xs) ≡ length d
length_put d at xs = length-sets d at xs

-- from the end of the buffer on nothing is put
pub put_out : (d : List ℕ) (at : ℕ) (xs : List ℕ) → length d ≤ at → put_at d at xs ≡ d
put_out d at [] h = refl
put_out d at (x ∷ xs) h =
    let out : set d at x ≡ d = set_out d at x h in
    let past : length (set d at x) ≤ suc at = rw out (omega arith) in
    put_out (set d at x) (suc at) xs past ∙ out

-- one string put behind another is the two joined
pub put_append : (d : List ℕ) (at : ℕ) (xs ys : List ℕ) → put_at (put_at d at xs) (at + length xs) ys ≡ put_at d at (xs ++ ys)
put_append d at [] ys = let e : at + 0 ≡ at = omega arith in rw e
put_append d at (x ∷ xs) ys =
    let e : at + suc (length xs) ≡ suc at + length xs = omega arith in
    rw e (put_append (set d at x) (suc at) xs ys)

-- what stands beyond the bytes put stays
pub put_beyond : (d : List ℕ) (at : ℕ) (xs : List ℕ) (n : ℕ) → at + length xs ≤ n → drop n (put_at d at xs) ≡ drop n d
put_beyond d at [] n h = refl
put_beyond d at (x ∷ xs) n h =
    put_beyond (set d at x) (suc at) xs n (omega arith) ∙ drop-set-lt n d at x (omega arith)

-- at the start of a buffer with room: the bytes put, then the rest of the buffer
pub put_start : (d xs : List ℕ) → length xs ≤ length d → put_at d 0 xs ≡ xs ++ drop (length xs) d
put_start d xs h =
    let e : 0 + length xs ≡ length xs = omega arith in
    let fits : 0 + length xs ≤ length d = omega arith in
    sets-eq xs d 0 fits ∙ rw e

-- the first bytes are those that were put
pub put_first : (d xs : List ℕ) → length xs ≤ length d → take (length xs) (put_at d 0 xs) ≡ xs
put_first d xs h = rw (put_start d xs h) (take_at xs (drop (length xs) d) (length xs) refl)

-- and so are as many as a call told of them
pub put_told : (d after xs : List ℕ) (n : ℕ) → after ≡ put_at d 0 xs → n ≡ length xs → length xs ≤ length d → take n after ≡ xs
put_told d after xs n put size fits = rw (put, size) (put_first d xs fits)

-- behind an element that stands first, bytes are put into the rest
put_behind : (a : ℕ) (d : List ℕ) (at : ℕ) (xs : List ℕ) → put_at (a ∷ d) (suc at) xs ≡ a ∷ put_at d at xs
put_behind a d at [] = refl
put_behind a d at (x ∷ xs) = put_behind a (set d at x) (suc at) xs

-- of a string that may be too long the first bytes are put
pub put_fitting : (d xs : List ℕ) → take (min (length xs) (length d)) (put_at d 0 xs) ≡ take (length d) xs
put_fitting [] xs = rw (min-zero (length xs))
put_fitting (a ∷ d) [] = rw (zero-min (suc (length d)))
put_fitting (a ∷ d) (x ∷ xs) =
    rw (suc-min-suc (length xs) (length d), put_behind x d 0 xs) (ap (λ (l : List ℕ). x ∷ l) (put_fitting d xs))

-- what stands behind the bytes that fit is not put
put_cut : (d : List ℕ) (at : ℕ) (xs : List ℕ) (n : ℕ) → n ≤ length xs → min (length xs) (length d - at) ≤ n → put_at d at xs ≡ put_at d at (take n xs)
put_cut d at xs n h e =
    let size : length (take n xs) ≡ n = length-take-le n xs h in
    ap (put_at d at) (sym (take-append-drop n xs)) ∙ sym (put_append d at (take n xs) (drop n xs)) ∙ cases (leb (length xs) n) refl
  where
    cases : (t : Bool) → leb (length xs) n ≡ t → put_at (put_at d at (take n xs)) (at + length (take n xs)) (drop n xs) ≡ put_at d at (take n xs)
    cases true le = let all : length xs ≤ n = leb-true _ _ le in rw (drop_of_length-le xs all)
    cases false lt =
        let some : n < length xs = leb-false _ _ lt in
        put_out (put_at d at (take n xs)) (at + length (take n xs)) (drop n xs) (omega (arith, length_put d at (take n xs), length-take-le n xs h))

-- the bytes that fit, copied over a part of the buffer
pub put_over : (d : List ℕ) (at : ℕ) (xs : List ℕ) (start count : ℕ) → start ≡ min at (length d) → count ≡ min (length xs) (length d - start)
    → (part : List ℕ) → part ≡ take count xs → put_mid start (start + count - start) d part ≡ put_at d at xs
put_over d at xs start count e f part p =
    let behind : start + count - start ≡ count = omega arith in
    rw (p, behind, drop-drop count start d) (cases (leb at (length d)) refl)
  where
    cases : (t : Bool) → leb at (length d) ≡ t → take start d ++ (take count xs ++ drop (start + count) d) ≡ put_at d at xs
    cases true le =
        let within : at ≤ length d = leb-true _ _ le in
        let here : start ≡ at = omega arith in
        let size : length (take count xs) ≡ count = length-take-le count xs (omega arith) in
        let fits : at + length (take count xs) ≤ length d = omega arith in
        rw (here, put_cut d at xs count (omega arith) (omega arith), sets-eq (take count xs) d at fits, size) (sym (append_assoc (take at d) (take count xs) (drop (at + count) d)))
    cases false gt =
        let beyond : length d < at = leb-false _ _ gt in
        let none : count ≡ 0 = omega arith in
        let same : start + 0 ≡ start = omega arith in
        rw (none, same, put_out d at xs (omega arith)) (take-append-drop start d)
