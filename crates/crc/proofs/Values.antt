-- A function's values as a list. Two such lists, or one and a table, are held against each other by computation, and what holds of the whole
-- list is carried to each of its entries.
use mathlib.Core.Path.{◌≡◌, sym, ap, ◌∙◌}
use mathlib.Core.List.{List, [], ◌∷◌}
use Prim.Native.Nat.{ℕ, zero, suc, ◌+◌, ◌<◌}
use native.Mathlib.Nat.{add-zero, zero-add, add-suc, suc-add, le_of_suc-le-suc, not-suc-le-zero}
use lib.ListN.{get_or}

-- the values of f at count numbers from first on
abbrev values_from : (f : ℕ → ℕ) (count first : ℕ) → List ℕ
values_from f zero first = []
values_from f (suc count) first = f first ∷ values_from f count (suc first)

abbrev pub values : (f : ℕ → ℕ) (count : ℕ) → List ℕ
values f count = values_from f count 0

value_from : (f : ℕ → ℕ) (count first k : ℕ) → k < count → get_or (values_from f count first) k 0 ≡ f (first + k)
value_from f zero first k h = absurd (not-suc-le-zero h)
value_from f (suc count) first zero h = ap f (sym (add-zero first))
value_from f (suc count) first (suc k) h =
    value_from f count (suc first) k (le_of_suc-le-suc h) ∙ ap f (suc-add first k ∙ sym (add-suc first k))

pub value_at : (f : ℕ → ℕ) (count k : ℕ) → k < count → get_or (values f count) k 0 ≡ f k
value_at f count k h = value_from f count 0 k h ∙ ap f (zero-add k)

pub same_values : (f g : ℕ → ℕ) (count : ℕ) → values f count ≡ values g count → (k : ℕ) → k < count → f k ≡ g k
same_values f g count same k h = sym (value_at f count k h) ∙ ap (λ (l : List ℕ). get_or l k 0) same ∙ value_at g count k h
