-- A fresh board, a tick and an update leave a board that shows the entries which they leave: each goes row by row, and no unused
-- row is current or has a name that is looked for.
use mathlib.Core.Path.{◌≡◌, refl, ap, ap₂}
use mathlib.Core.Bool.{Bool, true, false, cond}
use mathlib.Core.List.{List, [], ◌∷◌, ◌++◌, map}
use mathlib.Core.Option.{some}
use Prim.Native.Nat.{ℕ, zero, suc, ◌+◌, ◌-◌, ◌≤◌, ◌<◌}
use native.Mathlib.Omega.{arith}
use lib.IntN.{ℤ}
use lib.ListN.{length, replicate, length-map}
use Rattle.slices.proofs.Impossible.{impossible}
use Rattle.slices.specs.Same.{same_bytes}
use Rattle.rows.specs.Names.{place_from, place_of}
use Rattle.rows.specs.Rows.{row_name, row_names, tick_row, tick_board, fresh_row, board_of, change_at, update_row, update_board}
use Rattle.rows.specs.Entries.{Entry, entry_name, row_showing, board_showing, fresh_entry, tick_entry, update_entries}
use Rattle.rows.specs.declared.Board.{Board}
use Rattle.rows.specs.declared.Row.{Row}
use Rattle.rows.specs.declared.State.TheVariants.{Current}

-- the rows that show some entries, with k unused ones behind them
abbrev rows_showing : List Entry → ℕ → List Row
rows_showing es k = map row_showing es ++ replicate k (fresh_row [])

abbrev board_with : List Row → Board
board_with rows = record { rows = rows }

-- names that were accepted fit, and then the rows have them
abbrev pub Named : List Entry → Type 0
Named es = map row_name (map row_showing es) ≡ map entry_name es

first_named : (e : Entry) (es : List Entry) → Named (e ∷ es) → row_name (row_showing e) ≡ e.name
first_named e es h = cc

others_named : (e : Entry) (es : List Entry) → Named (e ∷ es) → Named es
others_named e es h = cc

row_names_law : (es : List Entry) (k : ℕ) → Named es → map row_name (rows_showing es k) ≡ map entry_name es ++ replicate k []
row_names_law [] zero h = refl
row_names_law [] (suc k) h = ap (λ (l : List (List ℕ)). [] ∷ l) (row_names_law [] k h)
row_names_law (e ∷ es) k h = ap₂ (λ (n : List ℕ) (l : List (List ℕ)). n ∷ l) (first_named e es h) (row_names_law es k (others_named e es h))

pub showing_names : (count : ℕ) (es : List Entry) → Named es → row_names (board_showing count es) ≡ map entry_name es ++ replicate (count - length es) []
showing_names count es h = row_names_law es (count - length es) h

-- a fresh board
fresh_rows : (names : List (List ℕ)) (k : ℕ) → map fresh_row (names ++ replicate k []) ≡ rows_showing (map fresh_entry names) k
fresh_rows [] zero = refl
fresh_rows [] (suc k) = ap (λ (l : List Row). fresh_row [] ∷ l) (fresh_rows [] k)
fresh_rows (name ∷ names) k = ap (λ (l : List Row). fresh_row name ∷ l) (fresh_rows names k)

pub fresh_showing : (count : ℕ) (names : List (List ℕ)) → board_of count names ≡ board_showing count (map fresh_entry names)
fresh_showing count names = rw (length-map names fresh_entry) (ap board_with (fresh_rows names (count - length names)))

-- a tick
tick_rows : (es : List Entry) (k : ℕ) → map tick_row (rows_showing es k) ≡ rows_showing (map tick_entry es) k
tick_rows [] zero = refl
tick_rows [] (suc k) = ap (λ (l : List Row). fresh_row [] ∷ l) (tick_rows [] k)
tick_rows (e ∷ es) k = ap (λ (l : List Row). row_showing (tick_entry e) ∷ l) (tick_rows es k)

pub tick_showing : (count : ℕ) (es : List Entry) → tick_board (board_showing count es) ≡ board_showing count (map tick_entry es)
tick_showing count es = rw (length-map es tick_entry) (ap board_with (tick_rows es (count - length es)))

-- names are counted upwards
place_from_law : (a place : ℕ) (name : List ℕ) (names : List (List ℕ)) → place_from a name names ≡ some place → a ≤ place
unfolding place_from
place_from_law a place name [] e = impossible cc
place_from_law a place name (other ∷ names) e = cases (same_bytes other name) (λ later. place_from_law (suc a) place name names later) e
  where
    cases : (t : Bool) → (place_from (suc a) name names ≡ some place → suc a ≤ place) → cond t (some a) (place_from (suc a) name names) ≡ some place → a ≤ place
    cases true below e = let z : a ≡ place = cc in omega arith
    cases false below e = let z : suc a ≤ place = below e in omega arith

-- an update of the row where the name stands is one of its entry
module _ (byte : ℕ) (bytes : List ℕ) (value : ℤ) where
  abbrev name : List ℕ
  name = byte ∷ bytes

  -- no unused row has the name
  not_unused : (k a place : ℕ) → place_from a name (map row_name (rows_showing [] k)) ≡ some place → ⊥
  unfolding place_from same_bytes
  not_unused zero a place e = impossible cc
  not_unused (suc k) a place e = not_unused k (suc a) place e

  abbrev Updates : List Entry → ℕ → ℕ → Type 0
  Updates es k place = change_at (update_row value) place (rows_showing es k) ≡ rows_showing (update_entries name value es) k

  update_rows : (es : List Entry) (k a place : ℕ) → Named es → place_from a name (map row_name (rows_showing es k)) ≡ some (a + place) → Updates es k place
  unfolding place_from update_entries change_at
  update_rows [] k a place h e = absurd (not_unused k a (a + place) e)
  update_rows (entry ∷ es) k a place h e =
      cases (same_bytes entry.name name) refl place (λ less later. update_rows es k (suc a) less (others_named entry es h) later) (rw (first_named entry es h) at e)
    where
      cases : (t : Bool) → same_bytes entry.name name ≡ t → (place : ℕ)
          → ((less : ℕ) → place_from (suc a) name (map row_name (rows_showing es k)) ≡ some (suc a + less) → Updates es k less)
          → cond t (some a) (place_from (suc a) name (map row_name (rows_showing es k))) ≡ some (a + place)
          → Updates (entry ∷ es) k place
      cases true s zero below e = rw s
      cases true s (suc place) below e = let z : a ≡ a + suc place = cc in absurd (omega arith)
      cases false s zero below e =
          let past : suc a ≤ a + 0 = place_from_law (suc a) (a + 0) name (map row_name (rows_showing es k)) e in
          absurd (omega arith)
      cases false s (suc place) below e =
          let on : a + suc place ≡ suc a + place = omega arith in
          rw s (ap (λ (l : List Row). row_showing entry ∷ l) (below place (rw on at e)))

  update_length : (es : List Entry) → length (update_entries name value es) ≡ length es
  unfolding update_entries
  update_length [] = refl
  update_length (entry ∷ es) = cases (same_bytes entry.name name) (update_length es)
    where
      cases : (t : Bool) → length (update_entries name value es) ≡ length es
          → length (cond t (record { name = entry.name; state = Current value 0 } ∷ es) (entry ∷ update_entries name value es)) ≡ suc (length es)
      cases true rest = refl
      cases false rest = ap suc rest

pub update_showing : (count : ℕ) (es : List Entry) (name : List ℕ) (place : ℕ) (value : ℤ) → Named es → 0 < length name
    → place_of name (row_names (board_showing count es)) ≡ some place → update_board place value (board_showing count es) ≡ board_showing count (update_entries name value es)
update_showing count es [] place value h some_bytes e = absurd (omega arith)
update_showing count es (byte ∷ bytes) place value h some_bytes e =
    let from : place ≡ 0 + place = omega arith in
    rw (update_length byte bytes value es) (ap board_with (update_rows byte bytes value es (count - length es) 0 place h (rw from at e)))
