-- A count that wraps at 65,536 is the ledger's modulo 65,536 after one more as before, since the remainder of one more depends
-- on the remainder alone.
use mathlib.Core.Path.{◌≡◌, refl, ap}
use mathlib.Core.List.{List, [], ◌∷◌, map}
use Prim.Native.Nat.{ℕ, zero, suc, ◌-◌}
use native.Mathlib.Omega.{arith}
use lib.ListN.{get_or, set}
use borrow.Author.Tests.{ne_eqb}
use Rattle.link.specs.Counts.{plus_one, plus_one_at, count_of}
use Rattle.link.specs.declared.counts.Event.TheVariants as event
use Rattle.ledger.specs.Ledger.{Counts, more_at, more_of, plus_new, plus_again, plus_heard, plus_unread, plus_refused}
use Rattle.ledger.specs.Shown.{wrapped, as_counts}

wraps : (n : ℕ) → plus_one (wrapped n) ≡ wrapped (suc n)
wraps n = omega arith

wraps_at : (n : ℕ) (counts : List ℕ) → set (map wrapped counts) n (plus_one (get_or (map wrapped counts) n 0)) ≡ map wrapped (more_at n counts)
unfolding more_at
wraps_at zero [] = refl
wraps_at (suc n) [] = refl
wraps_at zero (count ∷ counts) = ap (λ (x : ℕ). x ∷ map wrapped counts) (wraps count)
wraps_at (suc n) (count ∷ counts) = ap (λ (l : List ℕ). wrapped count ∷ l) (wraps_at n counts)

wraps_of : (n : ℕ) (counts : List ℕ) → plus_one_at n (map wrapped counts) ≡ map wrapped (more_of n counts)
wraps_of zero counts = refl
wraps_of (suc n) counts =
    let some : suc n ≡ 0 → ⊥ = λ e. omega arith in
    let place : suc n - 1 ≡ n = omega arith in
    rw (ne_eqb (suc n) 0 some, place) (wraps_at n counts)

module _ (c : Counts) where
  pub count_new : count_of event.New (as_counts c) ≡ as_counts (plus_new c)
  count_new = rw (wraps c.new)

  pub count_again : count_of event.Again (as_counts c) ≡ as_counts (plus_again c)
  count_again = rw (wraps c.again)

  pub count_heard : count_of event.Heard (as_counts c) ≡ as_counts (plus_heard c)
  count_heard = rw (wraps c.heard)

  pub count_unread : count_of event.Unread (as_counts c) ≡ as_counts (plus_unread c)
  count_unread = rw (wraps c.unread)

  pub count_refused : (n : ℕ) → count_of (event.Refused n) (as_counts c) ≡ as_counts (plus_refused n c)
  count_refused n = rw (wraps_of n c.refused)
