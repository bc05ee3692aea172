-- What is held after frames are covered, dropped or handed out: each entry by its fate.
use mathlib.Core.Path.{◌≡◌, refl, ap, ◌∙◌}
use mathlib.Core.Bool.{Bool, true, false, cond}
use mathlib.Core.List.{List, [], ◌∷◌, ◌++◌}
use Prim.Native.Nat.{ℕ, ◌≤◌, ◌<◌}
use lib.Dec.{leb}
use borrow.Author.Tests.{le-leb, lt-leb}
use Rattle.conversation.specs.Ledger.{Fate, waiting, covered, dropped, Entry, if_waiting, held, became, dropped_if, drop_all, covered_if, cover_to}

-- the frames behind a number
unfoldable pub behind : ℕ → List Entry → List Entry
behind n [] = []
behind n (e ∷ es) = cond (leb e.number n) (behind n es) (e ∷ behind n es)

-- of one or two frames that follow each other
pub behind_all : (e : Entry) (n : ℕ) (es : List Entry) → e.number ≤ n → behind n (e ∷ es) ≡ behind n es
unfolding behind
behind_all e n es within = rw (le-leb e.number n within)

pub behind_none : (e : Entry) (n : ℕ) → n < e.number → behind n (e ∷ []) ≡ e ∷ []
unfolding behind
behind_none e n beyond = rw (lt-leb e.number n beyond)

pub held_covered : (n : ℕ) (es : List Entry) → held (cover_to n es) ≡ behind n (held es)
unfolding held cover_to behind
held_covered n [] = refl
held_covered n (e ∷ es) = by_fate e.fate refl (held_covered n es)
  where
    by_test : (t : Bool) → e.fate ≡ waiting → held (cover_to n es) ≡ behind n (held es)
        → if_waiting (cond t (became covered e) e).fate (cond t (became covered e) e) (held (cover_to n es)) ≡ cond t (behind n (held es)) (e ∷ behind n (held es))
    by_test true is rest = rest
    by_test false is rest = ap (λ (fate : Fate). if_waiting fate e (held (cover_to n es))) is ∙ ap (λ (l : List Entry). e ∷ l) rest

    by_fate : (fate : Fate) → e.fate ≡ fate → held (cover_to n es) ≡ behind n (held es)
        → if_waiting (covered_if fate n e).fate (covered_if fate n e) (held (cover_to n es)) ≡ behind n (if_waiting fate e (held es))
    by_fate waiting is rest = by_test (leb e.number n) is rest
    by_fate covered is rest = rw is rest
    by_fate dropped is rest = rw is rest

pub held_dropped : (es : List Entry) → held (drop_all es) ≡ []
unfolding held drop_all
held_dropped [] = refl
held_dropped (e ∷ es) = by_fate e.fate refl (held_dropped es)
  where
    by_fate : (fate : Fate) → e.fate ≡ fate → held (drop_all es) ≡ [] → if_waiting (dropped_if fate e).fate (dropped_if fate e) (held (drop_all es)) ≡ []
    by_fate waiting is rest = rest
    by_fate covered is rest = rw is rest
    by_fate dropped is rest = rw is rest

-- a frame that is handed out stands behind those that are held
pub held_more : (es : List Entry) (e : Entry) → e.fate ≡ waiting → held (es ++ (e ∷ [])) ≡ held es ++ (e ∷ [])
unfolding held
held_more [] e is = rw is
held_more (d ∷ es) e is = by_fate d.fate (held_more es e is)
  where
    by_fate : (fate : Fate) → held (es ++ (e ∷ [])) ≡ held es ++ (e ∷ [])
        → if_waiting fate d (held (es ++ (e ∷ []))) ≡ if_waiting fate d (held es) ++ (e ∷ [])
    by_fate waiting rest = ap (λ (l : List Entry). d ∷ l) rest
    by_fate covered rest = rest
    by_fate dropped rest = rest
