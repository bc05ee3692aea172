-- Texts appended one behind the other are their joined text appended, also where the buffer ends in between: from its end on
-- nothing is put.
use mathlib.Core.Path.{◌≡◌, refl, sym, subst, ◌∙◌}
use mathlib.Core.Bool.{Bool, true, false}
use mathlib.Core.List.{List, ◌++◌}
use Prim.Native.Nat.{ℕ, ◌+◌, ◌≤◌, ◌<◌, min}
use native.Mathlib.Omega.{arith}
use lib.Dec.{leb}
use lib.ListN.{length, length-append}
use borrow.Author.Tests.{leb-true, leb-false}
use Rattle.slices.specs.Put.{put_at}
use Rattle.slices.proofs.PutLaws.{put_out, put_append, length_put}
use Rattle.history.specs.Appending.{Appends}

-- from the place where the buffer ends, or behind the first text
put_behind : (d : List ℕ) (at : ℕ) (xs ys : List ℕ) → put_at (put_at d at xs) (min (at + length xs) (length d)) ys ≡ put_at d at (xs ++ ys)
put_behind d at xs ys = cases (leb (at + length xs) (length d)) refl
  where
    cases : (t : Bool) → leb (at + length xs) (length d) ≡ t → put_at (put_at d at xs) (min (at + length xs) (length d)) ys ≡ put_at d at (xs ++ ys)
    cases true e =
        let fits : at + length xs ≤ length d = leb-true _ _ e in
        let k : min (at + length xs) (length d) ≡ at + length xs = omega arith in
        rw k (put_append d at xs ys)
    cases false e =
        let short : length d < at + length xs = leb-false _ _ e in
        let k : min (at + length xs) (length d) ≡ length d = omega arith in
        let size = length_put d at xs in
        let same = put_out (put_at d at xs) (at + length xs) ys (omega (arith, size)) in
        rw k (put_out (put_at d at xs) (length d) ys (omega (arith, size)) ∙ sym same ∙ put_append d at xs ys)

-- one text behind another
pub appends_both : {xs ys d d₁ d₂ : List ℕ} {at place end : ℕ} → Appends xs d at d₁ place → Appends ys d₁ place d₂ end → Appends (xs ++ ys) d at d₂ end
appends_both {xs} {ys} {d} {d₁} {d₂} {at} {place} {end} a b =
    let size : length d₁ ≡ length d = rw a.puts (length_put d at xs) in
    let joined = length-append xs ys in
    let first = a.ends in
    let second = b.ends in
    record { puts = b.puts ∙ rw (a.puts, a.ends) (put_behind d at xs ys); ends = omega (arith, size, joined, first, second) }

-- the same text
pub appends_same : {xs ys d d₁ : List ℕ} {at place : ℕ} → xs ≡ ys → Appends xs d at d₁ place → Appends ys d at d₁ place
appends_same {xs} {ys} {d} {d₁} {at} {place} e a = subst (λ (text : List ℕ). Appends text d at d₁ place) e a
