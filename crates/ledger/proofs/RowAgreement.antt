-- The board's rows show what the ledger holds of each name, after an update and after a tick as before: both go name by name,
-- and neither changes a name.
use mathlib.Core.Path.{◌≡◌, refl, ap, ap₂}
use mathlib.Core.Bool.{Bool, true, false, cond}
use mathlib.Core.List.{List, [], ◌∷◌, ◌++◌, map}
use mathlib.Core.Option.{Option, some, none}
use Prim.Native.Nat.{ℕ, zero, suc, ◌≤◌, ◌<◌}
use native.Mathlib.Numerals.{add-one}
use native.Mathlib.Omega.{arith}
use lib.Dec.{ltb}
use lib.IntN.{ℤ}
use lib.ListN.{length, replicate}
use borrow.Author.Tests.{ltb-true, ltb-false}
use Rattle.slices.specs.Same.{same_bytes}
use Rattle.rows.specs.Entries as shown
use Rattle.rows.specs.Entries.{entry_name, tick_entry, update_entries}
use Rattle.rows.specs.Names.{place_from}
use Rattle.rows.specs.Rows.{tick_state}
use Rattle.slices.proofs.SameLaws.{same_lengths}
use Rattle.ledger.specs.Ledger.{Update, Entry, name_of, updated, older, older_entry, current, silent, row_of, with_last}
use Rattle.ledger.specs.Shown.{as_state, as_entry}

-- an update of a name
pub entries_updated : (name : List ℕ) (value : ℤ) (es : List Entry) → update_entries name value (map as_entry es) ≡ map as_entry (updated name value es)
unfolding update_entries updated
entries_updated name value [] = refl
entries_updated name value (e ∷ es) = cases (same_bytes e.name name) (entries_updated name value es)
  where
    cases : (t : Bool) → update_entries name value (map as_entry es) ≡ map as_entry (updated name value es)
        → cond t (record { name = e.name; state = as_state (row_of (some (record { value = value; ticks = 0 }))) } ∷ map as_entry es) (as_entry e ∷ update_entries name value (map as_entry es))
        ≡ map as_entry (cond t (with_last e (some (record { value = value; ticks = 0 })) ∷ es) (e ∷ updated name value es))
    cases true rest = refl
    cases false rest = ap (λ (l : List shown.Entry). as_entry e ∷ l) rest

-- a tick
state_older : (last : Option Update) → tick_state (as_state (row_of last)) ≡ as_state (row_of (older last))
state_older none = refl
state_older (some u) = cases (ltb u.ticks 30) (ltb (suc u.ticks) 30) refl refl
  where
    cases : (t v : Bool) → ltb u.ticks 30 ≡ t → ltb (suc u.ticks) 30 ≡ v
        → tick_state (as_state (cond t (current u.value u.ticks) silent)) ≡ as_state (cond v (current u.value (suc u.ticks)) silent)
    cases true true e f = rw (add-one, f)
    cases true false e f = rw (add-one, f)
    cases false true e f =
        let late : 30 ≤ u.ticks = ltb-false u.ticks 30 e in
        let early : suc u.ticks < 30 = ltb-true (suc u.ticks) 30 f in
        absurd (omega arith)
    cases false false e f = refl

pub entries_older : (es : List Entry) → map tick_entry (map as_entry es) ≡ map as_entry (map older_entry es)
entries_older [] = refl
entries_older (e ∷ es) = ap₂ (λ (x : shown.Entry) (l : List shown.Entry). x ∷ l) (ap (λ s. record { name = e.name; state = s }) (state_older e.last)) (entries_older es)

-- the names stay
pub names_updated : (name : List ℕ) (value : ℤ) (es : List Entry) → map name_of (updated name value es) ≡ map name_of es
unfolding updated
names_updated name value [] = refl
names_updated name value (e ∷ es) = cases (same_bytes e.name name) (names_updated name value es)
  where
    cases : (t : Bool) → map name_of (updated name value es) ≡ map name_of es
        → map name_of (cond t (with_last e (some (record { value = value; ticks = 0 })) ∷ es) (e ∷ updated name value es)) ≡ map name_of (e ∷ es)
    cases true rest = refl
    cases false rest = ap (λ (l : List (List ℕ)). e.name ∷ l) rest

pub names_older : (es : List Entry) → map name_of (map older_entry es) ≡ map name_of es
names_older [] = refl
names_older (e ∷ es) = ap (λ (l : List (List ℕ)). e.name ∷ l) (names_older es)

-- the names that are shown are the ledger's
pub names_shown : (es : List Entry) → map entry_name (map as_entry es) ≡ map name_of es
names_shown [] = refl
names_shown (e ∷ es) = ap (λ (l : List (List ℕ)). e.name ∷ l) (names_shown es)

-- a name that is not empty stands among the list's names, where it stands at all
pub place_listed : (name : List ℕ) (names : List (List ℕ)) (k a : ℕ) → 0 < length name
    → place_from a name (names ++ replicate k []) ≡ place_from a name names
unfolding place_from
place_listed name [] k a named = unused k a
  where
    other : same_bytes [] name ≡ false
    other = same_lengths [] name (λ e. omega arith)

    unused : (k a : ℕ) → place_from a name (replicate k []) ≡ none
    unused zero a = refl
    unused (suc k) a = rw other (unused k (suc a))
place_listed name (n ∷ names) k a named = cases (same_bytes n name) (place_listed name names k (suc a) named)
  where
    cases : (t : Bool) → place_from (suc a) name (names ++ replicate k []) ≡ place_from (suc a) name names
        → cond t (some a) (place_from (suc a) name (names ++ replicate k [])) ≡ cond t (some a) (place_from (suc a) name names)
    cases true rest = refl
    cases false rest = rest
