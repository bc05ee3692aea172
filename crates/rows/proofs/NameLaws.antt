-- The laws of lists of names: a name that is not empty is one of the names exactly if it is one of the used ones, and there is
-- room exactly if the empty name is one of them. Each goes name by name.
use mathlib.Core.Path.{◌≡◌, refl, ap, ◌∙◌}
use mathlib.Core.Bool.{Bool, true, false, cond}
use mathlib.Core.List.{List, [], ◌∷◌, ◌++◌}
use mathlib.Core.Option.{Option, some}
use Prim.Native.Nat.{ℕ, zero, suc, ◌+◌, ◌≤◌, ◌<◌}
use native.Mathlib.Omega.{arith}
use lib.Dec.{ltb, leb-suc-suc}
use lib.ListN.{length, replicate}
use borrow.Author.Tests.{lt-ltb}
use Rattle.slices.proofs.Impossible.{impossible}
use Rattle.slices.specs.Same.{same_bytes}
use Rattle.slices.proofs.SameLaws.{same_equal, same_refl}
use Rattle.rows.specs.Names.{place_from, is_some, is_in, used}

found_alike : (t : Bool) (a b : ℕ) (p q : Option ℕ) → is_some p ≡ is_some q → is_some (cond t (some a) p) ≡ is_some (cond t (some b) q)
found_alike true a b p q e = refl
found_alike false a b p q e = e

used_from : (byte : ℕ) (bytes : List ℕ) (names : List (List ℕ)) (a b : ℕ) → is_some (place_from a (byte ∷ bytes) (used names)) ≡ is_some (place_from b (byte ∷ bytes) names)
unfolding place_from used same_bytes
used_from byte bytes [] a b = refl
used_from byte bytes ([] ∷ names) a b = used_from byte bytes names a (suc b)
used_from byte bytes ((first ∷ rest) ∷ names) a b =
    found_alike (same_bytes (first ∷ rest) (byte ∷ bytes)) a b (place_from (suc a) (byte ∷ bytes) (used names)) (place_from (suc b) (byte ∷ bytes) names) (used_from byte bytes names (suc a) (suc b))

-- a name that is not empty is looked for among the used ones
pub in_used : (name : List ℕ) (names : List (List ℕ)) → 0 < length name → is_in name (used names) ≡ is_in name names
in_used [] names h = absurd (omega arith)
in_used (byte ∷ bytes) names h = used_from byte bytes names 0 0

-- and the empty name is none of them
unused_from : (names : List (List ℕ)) (a : ℕ) → is_some (place_from a [] (used names)) ≡ false
unfolding place_from used same_bytes
unused_from [] a = refl
unused_from ([] ∷ names) a = unused_from names a
unused_from ((byte ∷ bytes) ∷ names) a = unused_from names (suc a)

pub empty_unused : (names : List (List ℕ)) → is_in [] (used names) ≡ false
empty_unused names = unused_from names 0

pub used_few : (names : List (List ℕ)) → length (used names) ≤ length names
unfolding used
used_few [] = omega arith
used_few ([] ∷ names) = let h = used_few names in omega arith
used_few ((byte ∷ bytes) ∷ names) = let h = used_few names in omega arith

room_from : (names : List (List ℕ)) (a : ℕ) → ltb (length (used names)) (length names) ≡ is_some (place_from a [] names)
unfolding place_from used same_bytes
room_from [] a = refl
room_from ([] ∷ names) a = let h = used_few names in lt-ltb (length (used names)) (suc (length names)) (omega arith)
room_from ((byte ∷ bytes) ∷ names) a = leb-suc-suc (suc (length (used names))) (length names) ∙ room_from names (suc a)

-- there is room exactly if a name is empty
pub room : (names : List (List ℕ)) → ltb (length (used names)) (length names) ≡ is_in [] names
room names = room_from names 0

-- names of which none is empty
abbrev pub NoneEmpty : List (List ℕ) → Type 0
NoneEmpty [] = Unit {0}
NoneEmpty (name ∷ names) = (0 < length name) × NoneEmpty names

-- all of them are used, and the empty ones behind them are not
pub used_first : (names : List (List ℕ)) (k : ℕ) → NoneEmpty names → used (names ++ replicate k []) ≡ names
unfolding used
used_first [] zero h = refl
used_first [] (suc k) h = used_first [] k h
used_first ([] ∷ names) k h = absurd (let z = h.0 in omega arith)
used_first ((byte ∷ bytes) ∷ names) k h = ap (λ r. (byte ∷ bytes) ∷ r) (used_first names k h.1)

-- and the first empty one stands right behind them
pub place_empty : (names : List (List ℕ)) (k a : ℕ) → NoneEmpty names → place_from a [] (names ++ replicate (suc k) []) ≡ some (a + length names)
unfolding place_from same_bytes
place_empty [] k a h = let e : a + 0 ≡ a = omega arith in rw e
place_empty ([] ∷ names) k a h = absurd (let z = h.0 in omega arith)
place_empty ((byte ∷ bytes) ∷ names) k a h =
    let e : a + suc (length names) ≡ suc a + length names = omega arith in
    rw e (place_empty names k (suc a) h.1)

-- from where the names are counted does not matter
pub in_shift : (name : List ℕ) (names : List (List ℕ)) (a b : ℕ) → is_some (place_from a name names) ≡ is_some (place_from b name names)
unfolding place_from
in_shift name [] a b = refl
in_shift name (other ∷ names) a b =
    found_alike (same_bytes other name) a b (place_from (suc a) name names) (place_from (suc b) name names) (in_shift name names (suc a) (suc b))

-- a name that is none of the names is not the first, and none of the others
pub record NotIn (name other : List ℕ) (names : List (List ℕ)) : Type 0 where
  pub first : same_bytes other name ≡ false
  pub others : is_in name names ≡ false

pub not_in : (name other : List ℕ) (names : List (List ℕ)) → is_in name (other ∷ names) ≡ false → NotIn name other names
unfolding place_from
not_in name other names e = cases (same_bytes other name) refl e
  where
    cases : (t : Bool) → same_bytes other name ≡ t → is_some (cond t (some 0) (place_from 1 name names)) ≡ false → NotIn name other names
    cases true h e = impossible cc
    cases false h e = record { first = h; others = in_shift name names 0 1 ∙ e }

-- nor does it become one of them when another name joins
more_from : (name other : List ℕ) (names : List (List ℕ)) (a : ℕ) → same_bytes other name ≡ false → is_some (place_from a name names) ≡ false → is_some (place_from a name (names ++ (other ∷ []))) ≡ false
unfolding place_from
more_from name other [] a differs h = rw differs
more_from name other (first ∷ names) a differs h = cases (same_bytes first name) (λ later. more_from name other names (suc a) differs later) h
  where
    cases : (t : Bool) → (is_some (place_from (suc a) name names) ≡ false → is_some (place_from (suc a) name (names ++ (other ∷ []))) ≡ false) → is_some (cond t (some a) (place_from (suc a) name names)) ≡ false → is_some (cond t (some a) (place_from (suc a) name (names ++ (other ∷ [])))) ≡ false
    cases true below h = h
    cases false below h = below h

pub in_more : (name other : List ℕ) (names : List (List ℕ)) → same_bytes other name ≡ false → is_in name names ≡ false → is_in name (names ++ (other ∷ [])) ≡ false
in_more name other names differs h = more_from name other names 0 differs h

-- of two names that differ each differs from the other
pub differ : (a b : List ℕ) → same_bytes a b ≡ false → same_bytes b a ≡ false
differ a b h = cases (same_bytes b a) refl
  where
    cases : (t : Bool) → same_bytes b a ≡ t → t ≡ false
    cases false e = refl
    cases true e =
        let same : b ≡ a = same_equal b a e in
        let never : same_bytes a a ≡ false = rw same at h in
        let always : same_bytes a a ≡ true = same_refl a in
        impossible cc
