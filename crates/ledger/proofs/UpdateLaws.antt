-- What the board's events do to an entry of the ledger: each packet that is accepted as an update of its name starts anew, and each tick
-- is one more. What a packet does to the entries is what it does to each, since no name is watched twice.
use mathlib.Core.Path.{◌≡◌, refl, sym, ap}
use mathlib.Core.Bool.{Bool, true, false, cond, not}
use mathlib.Core.List.{List, [], ◌∷◌, ◌++◌, map}
use mathlib.Core.Option.{Option, some, none}
use Prim.Native.Nat.{ℕ, zero, suc}
use lib.IntN.{ℤ}
use borrow.Author.Tests.{not-true}
use Rattle.slices.proofs.Impossible.{impossible}
use Rattle.slices.specs.Same.{same_bytes}
use Rattle.slices.proofs.SameLaws.{same_equal}
use Rattle.slices.proofs.TestLaws.{Both, both}
use Rattle.rows.specs.Names.{place_from, is_some, is_in}
use Rattle.board.specs.Reading as reading
use Rattle.board.specs.Reading.{Verdict}
use Rattle.board.specs.WatchList.{distinct}
use Rattle.ledger.specs.Ledger.{Update, Entry, Ledger, name_of, updated, older, with_last}
use Rattle.ledger.specs.Calls as calls
use Rattle.ledger.specs.BoardEvents.{BoardEvent}
use Rattle.ledger.specs.LastAccepted.{value_for, accepted_for, tick_of}

-- so many ticks on
abbrev pub aged : ℕ → Option Update → Option Update
aged zero last = last
aged (suc n) last = older (aged n last)

-- a name's last update after an event, by the value that was accepted and the ticks
abbrev pub renewed : Option ℤ → ℕ → Option Update → Option Update
renewed none ticks last = aged ticks last
renewed (some value) ticks last = some (record { value = value; ticks = 0 })

-- after some events
unfoldable pub last_update : List (List ℕ) → List ℕ → List BoardEvent → Option Update → Option Update
last_update names name [] last = last
last_update names name (event ∷ events) last = last_update names name events (renewed (accepted_for names name event) (tick_of event) last)

pub split_last : (names : List (List ℕ)) (name : List ℕ) (xs ys : List BoardEvent) (last : Option Update)
    → last_update names name (xs ++ ys) last ≡ last_update names name ys (last_update names name xs last)
unfolding last_update
split_last names name [] ys last = refl
split_last names name (x ∷ xs) ys last = split_last names name xs ys (renewed (accepted_for names name x) (tick_of x) last)

-- an entry after some events
abbrev pub after_events : List (List ℕ) → List BoardEvent → Entry → Entry
after_events names events e = with_last e (last_update names e.name events e.last)

pub kept_all : (es : List Entry) → map (λ (e : Entry). with_last e e.last) es ≡ es
kept_all [] = refl
kept_all (e ∷ es) = ap (λ (l : List Entry). e ∷ l) (kept_all es)

-- an update of a name, on every entry
abbrev pub on_reading : Verdict → Entry → Entry
on_reading v e = with_last e (renewed (value_for e.name v) 0 e.last)

-- entries without the name stay
others_kept : (id : ℕ) (name : List ℕ) (value : ℤ) (es : List Entry) (a : ℕ) → is_some (place_from a name (map name_of es)) ≡ false
    → map (on_reading (reading.update id name value)) es ≡ es
unfolding place_from
others_kept id name value [] a out = refl
others_kept id name value (e ∷ es) a out = cases (same_bytes e.name name) refl (others_kept id name value es (suc a))
  where
    cases : (t : Bool) → same_bytes e.name name ≡ t
        → (is_some (place_from (suc a) name (map name_of es)) ≡ false → map (on_reading (reading.update id name value)) es ≡ es)
        → map (on_reading (reading.update id name value)) (e ∷ es) ≡ e ∷ es
    cases true f rest = let told = rw f at out in impossible cc
    cases false f rest = let told = rw f at out in rw f (ap (λ (l : List Entry). e ∷ l) (rest told))

update_followed : (id : ℕ) (name : List ℕ) (value : ℤ) (es : List Entry) → distinct (map name_of es) ≡ true
    → updated name value es ≡ map (on_reading (reading.update id name value)) es
unfolding updated distinct
update_followed id name value [] once = refl
update_followed id name value (e ∷ es) once = cases (same_bytes e.name name) refl (update_followed id name value es parts.second)
  where
    parts : Both (not (is_in e.name (map name_of es))) (distinct (map name_of es)) true
    parts = both (not (is_in e.name (map name_of es))) (distinct (map name_of es)) once

    alone : is_in e.name (map name_of es) ≡ false
    alone = not-true (is_in e.name (map name_of es)) parts.first

    cases : (t : Bool) → same_bytes e.name name ≡ t → updated name value es ≡ map (on_reading (reading.update id name value)) es
        → cond (same_bytes e.name name) (with_last e (some (record { value = value; ticks = 0 })) ∷ es) (e ∷ updated name value es)
        ≡ map (on_reading (reading.update id name value)) (e ∷ es)
    cases true f rest =
        let is : e.name ≡ name = same_equal e.name name f in
        rw f (ap (λ (l : List Entry). with_last e (some (record { value = value; ticks = 0 })) ∷ l) (sym (others_kept id name value es 0 (rw is at alone))))
    cases false f rest = rw f (ap (λ (l : List Entry). e ∷ l) rest)

pub read_followed : (l : Ledger) (v : Verdict) → distinct (map name_of l.hives.entries) ≡ true → (calls.after_reading l v).hives.entries ≡ map (on_reading v) l.hives.entries
read_followed l (reading.refused k) once = sym (kept_all l.hives.entries)
read_followed l (reading.end_mark id) once = sym (kept_all l.hives.entries)
read_followed l (reading.update id name value) once = update_followed id name value l.hives.entries once
