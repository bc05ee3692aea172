-- The row of a watched name stands at the name's place, and shows what the ledger holds of the name after the calls.
use mathlib.Core.Path.{◌≡◌, refl, ap, ◌∙◌}
use mathlib.Core.Bool.{Bool, true, false, cond}
use mathlib.Core.List.{List, [], ◌∷◌, ◌++◌, map}
use mathlib.Core.Option.{some, none}
use Prim.Native.Nat.{ℕ, suc, ◌-◌, ◌≤◌}
use native.Mathlib.Omega.{arith}
use lib.ListN.{get_or}
use Rattle.slices.proofs.Impossible.{impossible}
use Rattle.slices.specs.Same.{same_bytes}
use Rattle.slices.proofs.SameLaws.{same_equal}
use Rattle.rows.specs.Entries as shown
use Rattle.rows.specs.Entries.{row_showing, board_showing}
use Rattle.rows.specs.Names.{place_from}
use Rattle.rows.specs.Rows.{row_count, row_name, fresh_row}
use Rattle.rows.specs.declared.Row.{Row}
use Rattle.board.proofs.NameLaws.{Fits, fresh_name}
use Rattle.display.specs.declared.Display.{Display}
use Rattle.ledger.specs.Ledger.{Ledger, Entry, unheard, start, row_of}
use Rattle.ledger.specs.Answers.{Call}
use Rattle.ledger.specs.Shown.{as_state, as_entry, Left}
use Rattle.ledger.specs.History.{history}
use Rattle.ledger.specs.BoardEvents.{BoardEvent, board_events_in}
use Rattle.ledger.proofs.EveryList.{Agreeing, fresh_named}
use Rattle.ledger.proofs.SameHistory.{after_by}
use Rattle.ledger.proofs.UpdateLaws.{last_update, after_events}
use Rattle.ledger.proofs.HistoryUpdates.{history_followed}

-- what the row of a name shows after some events
abbrev pub row_after : List (List ℕ) → List BoardEvent → List ℕ → shown.Entry
row_after names events name = record { name = name; state = as_state (row_of (last_update names name events none)) }

rows_after : (all names : List (List ℕ)) (events : List BoardEvent) → map as_entry (map (after_events all events) (map unheard names)) ≡ map (row_after all events) names
rows_after all [] events = refl
rows_after all (n ∷ names) events = ap (λ (l : List shown.Entry). row_after all events n ∷ l) (rows_after all names events)

pub board_after : (names : List (List ℕ)) (cs : List Call) (left : List Left) (end : Display) → Agreeing names cs left end
    → end.board ≡ board_showing row_count (map (row_after names (board_events_in (history cs left))) names)
board_after names cs left end a =
    let events = history cs left in
    let followed = history_followed names (start names) events (fresh_named names) a.good.once in
    a.all.agrees.shows.showing
    ∙ ap (λ (l : Ledger). board_showing row_count (map as_entry l.hives.entries)) (after_by names cs left a.all.gives)
    ∙ ap (λ (es : List Entry). board_showing row_count (map as_entry es)) followed
    ∙ ap (board_showing row_count) (rows_after names names (board_events_in events))

-- the row at the place of a name among the names, when they are counted from a on
pub record RowAt (f : List ℕ → shown.Entry) (rest : List Row) (name : List ℕ) (names : List (List ℕ)) (a place : ℕ) : Type 0 where
  pub behind : a ≤ place
  pub row : get_or (map row_showing (map f names) ++ rest) (place - a) (fresh_row []) ≡ row_showing (f name)
  pub named : row_name (fresh_row name) ≡ name

pub row_at_law : (f : List ℕ → shown.Entry) (rest : List Row) (name : List ℕ) (names : List (List ℕ)) (a place : ℕ) → place_from a name names ≡ some place
    → Fits names → RowAt f rest name names a place
unfolding place_from
row_at_law f rest name [] a place e fit = impossible cc
row_at_law f rest name (other ∷ names) a place e fit = cases (same_bytes other name) refl (λ later. row_at_law f rest name names (suc a) place later fit.1) e
  where
    cases : (t : Bool) → same_bytes other name ≡ t → (place_from (suc a) name names ≡ some place → RowAt f rest name names (suc a) place)
        → cond t (some a) (place_from (suc a) name names) ≡ some place → RowAt f rest name (other ∷ names) a place
    cases true h below e =
        let here : a ≡ place = cc in
        let first : place - a ≡ 0 = omega arith in
        let same = same_equal other name h in
        record { behind = omega arith; row = rw (first, same); named = rw same at (fresh_name other fit.0) }
    cases false h below e =
        let there = below e in
        let next : place - a ≡ suc (place - suc a) = omega (arith, there.behind) in
        record { behind = omega (arith, there.behind); row = rw next there.row; named = there.named }
