-- The entries that a RESET dropped, after each change of the entries: each entry by its fate.
use mathlib.Core.Path.{◌≡◌, refl, ap, ◌∙◌}
use mathlib.Core.Bool.{Bool, true, false, cond}
use mathlib.Core.List.{List, [], ◌∷◌, ◌++◌, map, append-nil}
use Prim.Native.Nat.{ℕ}
use lib.Dec.{leb}
use Rattle.slices.proofs.Impossible.{impossible}
use Rattle.session.specs.Counters.{of_ours}
use Rattle.session.specs.declared.counters.OFC.{OFC}
use Rattle.conversation.specs.Ledger.{Fate, waiting, covered, dropped, Entry, on_line, if_waiting, held, if_dropped, gone, became, dropped_if, drop_all, covered_if, cover_to}

-- strings of entries one behind the other
held_append : (xs ys : List Entry) → held (xs ++ ys) ≡ held xs ++ held ys
unfolding held
held_append [] ys = refl
held_append (x ∷ xs) ys = by_fate x.fate (held_append xs ys)
  where
    by_fate : (fate : Fate) → held (xs ++ ys) ≡ held xs ++ held ys → if_waiting fate x (held (xs ++ ys)) ≡ if_waiting fate x (held xs) ++ held ys
    by_fate waiting rest = ap (λ (l : List Entry). x ∷ l) rest
    by_fate covered rest = rest
    by_fate dropped rest = rest

pub gone_append : (xs ys : List Entry) → gone (xs ++ ys) ≡ gone xs ++ gone ys
unfolding gone
gone_append [] ys = refl
gone_append (x ∷ xs) ys = by_fate x.fate (gone_append xs ys)
  where
    by_fate : (fate : Fate) → gone (xs ++ ys) ≡ gone xs ++ gone ys → if_dropped fate x (gone (xs ++ ys)) ≡ if_dropped fate x (gone xs) ++ gone ys
    by_fate waiting rest = rest
    by_fate covered rest = rest
    by_fate dropped rest = ap (λ (l : List Entry). x ∷ l) rest

drop_append : (xs ys : List Entry) → drop_all (xs ++ ys) ≡ drop_all xs ++ drop_all ys
unfolding drop_all
drop_append [] ys = refl
drop_append (x ∷ xs) ys = ap (λ (l : List Entry). dropped_if x.fate x ∷ l) (drop_append xs ys)

pub cover_append : (n : ℕ) (xs ys : List Entry) → cover_to n (xs ++ ys) ≡ cover_to n xs ++ cover_to n ys
unfolding cover_to
cover_append n [] ys = refl
cover_append n (x ∷ xs) ys = ap (λ (l : List Entry). covered_if x.fate n x ∷ l) (cover_append n xs ys)

-- a cover drops none
pub gone_covered : (n : ℕ) (es : List Entry) → gone (cover_to n es) ≡ gone es
unfolding gone cover_to
gone_covered n [] = refl
gone_covered n (e ∷ es) = by_fate e.fate refl (gone_covered n es)
  where
    by_number : (t : Bool) → e.fate ≡ waiting → if_dropped (cond t (became covered e) e).fate (cond t (became covered e) e) (gone (cover_to n es)) ≡ gone (cover_to n es)
    by_number true is = refl
    by_number false is = ap (λ (fate : Fate). if_dropped fate e (gone (cover_to n es))) is

    by_fate : (fate : Fate) → e.fate ≡ fate → gone (cover_to n es) ≡ gone es
        → if_dropped (covered_if fate n e).fate (covered_if fate n e) (gone (cover_to n es)) ≡ if_dropped fate e (gone es)
    by_fate waiting is rest = by_number (leb e.number n) is ∙ rest
    by_fate covered is rest = ap (λ (fate : Fate). if_dropped fate e (gone (cover_to n es))) is ∙ rest
    by_fate dropped is rest = ap (λ (fate : Fate). if_dropped fate e (gone (cover_to n es))) is ∙ ap (λ (l : List Entry). e ∷ l) rest

abbrev pub on_wire : Entry → OFC
on_wire e = of_ours (on_line e.number)

-- where none waits, a RESET changes nothing
none_to_drop : (es : List Entry) → held es ≡ [] → drop_all es ≡ es
unfolding held drop_all
none_to_drop [] free = refl
none_to_drop (e ∷ es) free = by_fate e.fate free (none_to_drop es)
  where
    by_fate : (fate : Fate) → if_waiting fate e (held es) ≡ [] → (held es ≡ [] → drop_all es ≡ es) → dropped_if fate e ∷ drop_all es ≡ e ∷ es
    by_fate waiting free rest = impossible cc
    by_fate covered free rest = ap (λ (l : List Entry). e ∷ l) (rest free)
    by_fate dropped free rest = ap (λ (l : List Entry). e ∷ l) (rest free)

-- where none was dropped before, all that wait are dropped
all_go : (es : List Entry) → gone es ≡ [] → map on_wire (gone (drop_all es)) ≡ map on_wire (held es)
unfolding held gone drop_all
all_go [] kept = refl
all_go (e ∷ es) kept = by_fate e.fate refl kept (all_go es)
  where
    by_fate : (fate : Fate) → e.fate ≡ fate → if_dropped fate e (gone es) ≡ [] → (gone es ≡ [] → map on_wire (gone (drop_all es)) ≡ map on_wire (held es))
        → map on_wire (if_dropped (dropped_if fate e).fate (dropped_if fate e) (gone (drop_all es))) ≡ map on_wire (if_waiting fate e (held es))
    by_fate waiting is kept rest = ap (λ (l : List OFC). on_wire e ∷ l) (rest kept)
    by_fate covered is kept rest = ap (λ (fate : Fate). map on_wire (if_dropped fate e (gone (drop_all es)))) is ∙ rest kept
    by_fate dropped is kept rest = impossible cc

-- those that are dropped stand before those that wait
pub record Split (es : List Entry) : Type 0 where
  pub old : List Entry
  pub recent : List Entry
  pub is : es ≡ old ++ recent
  pub free : held old ≡ []
  pub kept : gone recent ≡ []

map-append : (xs ys : List Entry) → map on_wire (xs ++ ys) ≡ map on_wire xs ++ map on_wire ys
map-append [] ys = refl
map-append (x ∷ xs) ys = ap (λ (l : List OFC). on_wire x ∷ l) (map-append xs ys)

pub restart_gone : (es : List Entry) → Split es → map on_wire (gone (drop_all es)) ≡ map on_wire (gone es) ++ map on_wire (held es)
restart_gone es p =
    let a = p.old in
    let b = p.recent in
    let before : map on_wire (gone es) ≡ map on_wire (gone a) = rw (p.is, gone_append a b, p.kept, append-nil (gone a)) in
    let waits : held es ≡ held b = rw (p.is, held_append a b, p.free) in
    let after : map on_wire (gone (drop_all es)) ≡ map on_wire (gone a) ++ map on_wire (gone (drop_all b)) =
    rw (p.is, drop_append a b, gone_append (drop_all a) (drop_all b), none_to_drop a p.free) (map-append (gone a) (gone (drop_all b))) in
    after ∙ rw (before, waits, all_go b p.kept)
