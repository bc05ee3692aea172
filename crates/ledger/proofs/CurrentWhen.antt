-- DEMAND 3, current exactly when: the row of a name shows what the ledger holds of the name, and that is its last accepted update and the
-- ticks since.
use mathlib.Core.Path.{◌≡◌, refl, sym, ap, ◌∙◌}
use mathlib.Core.Bool.{Bool, true, false, cond}
use mathlib.Core.List.{List, [], map}
use mathlib.Core.Option.{some, none}
use mathlib.Core.Logic.{◌↔◌, ◌⊎◌, inl, inr}
use Prim.Native.Nat.{ℕ, ◌-◌, ◌≤◌, ◌<◌}
use native.Mathlib.Omega.{arith}
use lib.Dec.{ltb}
use lib.IntN.{ℤ}
use lib.ListN.{length, replicate}
use borrow.Author.Tests.{lt-ltb, le-ltb, ltb-true, ltb-false}
use Rattle.slices.proofs.Impossible.{impossible}
use Rattle.rows.specs.Entries.{row_showing}
use Rattle.rows.specs.Names.{place_of}
use Rattle.rows.specs.Rows.{row_count, row_name, fresh_row}
use Rattle.rows.specs.declared.Board.{Board}
use Rattle.rows.specs.declared.Row.{Row}
use Rattle.rows.specs.declared.State.TheVariants.{Never, Current, Silent}
use Rattle.display.specs.declared.Display.{Display}
use Rattle.ledger.specs.Ledger.{row_of, current, silent}
use Rattle.ledger.specs.Answers.{WatchList, names_in, Call}
use Rattle.ledger.specs.Shown.{as_state, Left, row_at}
use Rattle.ledger.specs.History.{history}
use Rattle.ledger.specs.BoardEvents.{BoardEvent, board_events_in}
use Rattle.ledger.specs.LastAccepted.{all_accepted, LastAccepted}
use Rattle.ledger.proofs.Chain.{Begins, Chain}
use Rattle.ledger.proofs.EveryList.{agreeing}
use Rattle.ledger.proofs.UpdateLaws.{last_update}
use Rattle.ledger.proofs.NamedRows.{row_after, board_after, RowAt, row_at_law}
use Rattle.ledger.proofs.LastAcceptedLaws.{last_is, Found, found, none_is}

shown_as : (t : Bool) (value : ℤ) (age : ℕ) → as_state (cond t (current value age) silent) ≡ cond t (Current value age) Silent
shown_as true value age = refl
shown_as false value age = refl

-- an update of 30 ticks and more
pub record LongAgo (names : List (List ℕ)) (name : List ℕ) (events : List BoardEvent) : Type 0 where
  pub value : ℤ
  pub ticks : ℕ
  pub last : LastAccepted names name value ticks events
  pub old : 30 ≤ ticks

-- After every list of calls, at the place of a watched name in the watch list:
module _ (names : List (List ℕ)) (w : WatchList) (listed : names_in w ≡ some names) (d : Display) (begins : Begins w d)
    (cs : List Call) (left : List Left) (end : Display) (chain : Chain d cs left end)
    (name : List ℕ) (place : ℕ) (stands : place_of name names ≡ some place) where
  -- what went to the board in the history of the calls
  abbrev pub events : List BoardEvent
  events = board_events_in (history cs left)

  abbrev unused : List Row
  unused = replicate (row_count - length (map (row_after names events) names)) (fresh_row [])

  placed : RowAt (row_after names events) unused name names 0 place
  placed = row_at_law (row_after names events) unused name names 0 place stands (agreeing listed begins chain).fit

  row_is : row_at end.board place ≡ row_showing (row_after names events name)
  row_is =
      let same : place - 0 ≡ place = omega arith in
      ap (λ (b : Board). row_at b place) (board_after names cs left end (agreeing listed begins chain)) ∙ rw same at placed.row

  state_is : (row_at end.board place).state ≡ as_state (row_of (last_update names name events none))
  state_is = ap (λ (r : Row). r.state) row_is

  by_last : (value : ℤ) (ticks : ℕ) → LastAccepted names name value ticks events → (row_at end.board place).state ≡ cond (ltb ticks 30) (Current value ticks) Silent
  by_last value ticks last = state_is ∙ rw (last_is names name value ticks events last) (shown_as (ltb ticks 30) value ticks)

  by_none : all_accepted names name events ≡ [] → (row_at end.board place).state ≡ Never
  by_none quiet = state_is ∙ rw (none_is names name events quiet)

  -- THEOREM. There stands the row of that name.
  pub row_named : row_name (row_at end.board place) ≡ name
  row_named = ap row_name row_is ∙ placed.named

  -- THEOREM. The row is current, with a value and an age, exactly when the last update accepted for the name had that value and closed that
  -- many ticks ago, fewer than 30.
  pub current_exactly_when : (value : ℤ) (age : ℕ) → ((row_at end.board place).state ≡ Current value age) ↔ (LastAccepted names name value age events × (age < 30))
  current_exactly_when value age = (only (found names name events), λ l. by_last value age l.0 ∙ rw (lt-ltb age 30 l.1))
    where
      by_age : (f : Found names name events) (t : Bool) → ltb f.ticks 30 ≡ t → cond t (Current f.value f.ticks) Silent ≡ Current value age
          → LastAccepted names name value age events × (age < 30)
      by_age f true young e =
          let of_value : f.value ≡ value = cc in
          let of_age : f.ticks ≡ age = cc in
          (rw (← of_value, ← of_age) f.last, rw (← of_age) (ltb-true f.ticks 30 young))
      by_age f false young e = impossible cc

      only : (Found names name events ⊎ (all_accepted names name events ≡ [])) → (row_at end.board place).state ≡ Current value age
          → LastAccepted names name value age events × (age < 30)
      only (inl f) e = by_age f (ltb f.ticks 30) refl (sym (by_last f.value f.ticks f.last) ∙ e)
      only (inr quiet) e = let never = sym (by_none quiet) ∙ e in impossible cc

  -- THEOREM. It is silent exactly when that update closed 30 or more ticks ago.
  pub silent_exactly_when : ((row_at end.board place).state ≡ Silent) ↔ LongAgo names name events
  silent_exactly_when = (only (found names name events), λ l. by_last l.value l.ticks l.last ∙ rw (le-ltb l.ticks 30 l.old))
    where
      by_age : (f : Found names name events) (t : Bool) → ltb f.ticks 30 ≡ t → cond t (Current f.value f.ticks) Silent ≡ Silent → LongAgo names name events
      by_age f true young e = impossible cc
      by_age f false young e = record { value = f.value; ticks = f.ticks; last = f.last; old = ltb-false f.ticks 30 young }

      only : (Found names name events ⊎ (all_accepted names name events ≡ [])) → (row_at end.board place).state ≡ Silent → LongAgo names name events
      only (inl f) e = by_age f (ltb f.ticks 30) refl (sym (by_last f.value f.ticks f.last) ∙ e)
      only (inr quiet) e = let never = sym (by_none quiet) ∙ e in impossible cc

  -- THEOREM. It is never exactly when no update was accepted for the name.
  pub never_exactly_when : ((row_at end.board place).state ≡ Never) ↔ (all_accepted names name events ≡ [])
  never_exactly_when = (only (found names name events), by_none)
    where
      by_age : (f : Found names name events) (t : Bool) → cond t (Current f.value f.ticks) Silent ≡ Never → all_accepted names name events ≡ []
      by_age f true e = impossible cc
      by_age f false e = impossible cc

      only : (Found names name events ⊎ (all_accepted names name events ≡ [])) → (row_at end.board place).state ≡ Never → all_accepted names name events ≡ []
      only (inl f) e = by_age f (ltb f.ticks 30) (sym (by_last f.value f.ticks f.last) ∙ e)
      only (inr quiet) e = quiet
