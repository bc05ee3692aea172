-- A fresh start is the display of the board of good names, and there is one for every good list of names, since each name may join those
-- before it.
use Rattle.std.specs.Prelude.{Ok}
use mathlib.Core.Path.{◌≡◌, refl, sym, ap, ◌∙◌}
use mathlib.Core.List.{List, [], ◌∷◌, ◌++◌, append_assoc, append-nil}
use mathlib.Core.Option.{Option, some, none}
use Prim.Native.Nat.{ℕ, ◌≤◌, ◌<◌}
use lib.ListN.{length}
use Rattle.slices.proofs.Impossible.{impossible}
use Rattle.slices.proofs.Lent.{in_call}
use Rattle.rows.specs.Rows.{row_count, board_of}
use Rattle.rows.specs.declared.Board.{Board}
use Rattle.board.specs.WatchList.{Good, watch_names, fields_of, watch_board, as_watched, accepted_with, refused_with}
use Rattle.board.specs.declared.list.Watched.{Watched}
use Rattle.board.proofs.EntryLaws.{list_good}
use Rattle.board.proofs.GoodLists.{may_join_law, good_listed, too_many_refused}
use Rattle.board.proofs.NameLaws.{good_none, good_more}
use Rattle.board.proofs.WatchLaws.{join_full, watch_more, watch_refused, accepted_joins}
use Rattle.display.specs.Display as display
use Rattle.display.specs.declared.Display.{Display}
use Rattle.ledger.specs.Answers.{WatchList, as_bytes, one_by_one, names_in}
use Rattle.ledger.proofs.Chain.{Begins, from_bytes, no_names, one_more, Lists, Watches}

-- what a fresh start is, by the contracts of the functions that made it
pub record Began (w : WatchList) (d : Display) : Type 0 where
  pub names : List (List ℕ)
  pub listed : names_in w ≡ some names
  pub good : Good row_count names
  pub is : d ≡ display.fresh (board_of row_count names)

-- what a call of `board::watch_list` told
pub list_told : (fields : List ℕ) (watched : Watched) → Lists fields watched → watched ≡ as_watched row_count (watch_names row_count fields)
list_told fields watched lists = rw lists.input_lent.holds at lists.learnt

from_list : (fields : List ℕ) (watched : Watched) (d : Display) → watched ≡ as_watched row_count (watch_names row_count fields) → watched.answer ≡ Ok tt
    → d ≡ display.fresh watched.board → Began (as_bytes fields) d
from_list fields watched d told accepted started = cases (watch_names row_count fields) refl
  where
    cases : (o : Option (List (List ℕ))) → watch_names row_count fields ≡ o → Began (as_bytes fields) d
    cases none e =
        let refused = sym accepted ∙ ap (λ (w : Watched). w.answer) (told ∙ ap (as_watched row_count) e) in
        impossible cc
    cases (some names) e =
        let board_is = ap (λ (w : Watched). w.board) (told ∙ ap (as_watched row_count) e) in
        record { names = names; listed = e; good = list_good fields names e; is = started ∙ ap display.fresh board_is }

some_names : {names names₁ : List (List ℕ)} → ◌≡◌ {A = Option (List (List ℕ))} (some names) (some names₁) → names₁ ≡ names
some_names e = cc

-- what a call of `board::watch` told, on the board of the names before it
pub record Told (names : List (List ℕ)) (name : List ℕ) (watched : Watched) : Type 0 where
  pub good : Good row_count names
  pub is : watched ≡ watch_board row_count (board_of row_count names) name

told_by_law : (names : List (List ℕ)) (name : List ℕ) (d : Display) → Began (one_by_one names) d → (watched : Watched) → Watches d.board name watched → Told names name watched
told_by_law names name d b watched watches =
    let same = some_names b.listed in
    let told : watched ≡ watch_board row_count d.board name = rw watches.input_lent.holds at watches.learnt in
    let board_is : d.board ≡ board_of row_count names = ap (λ (x : Display). x.board) b.is ∙ ap (board_of row_count) same in
    record { good = rw same at b.good; is = told ∙ ap (λ (x : Board). watch_board row_count x name) board_is }

-- one that was accepted joins them
record Joined (names : List (List ℕ)) (name : List ℕ) (board : Board) : Type 0 where
  good : Good row_count (names ++ (name ∷ []))
  is : board ≡ board_of row_count (names ++ (name ∷ []))

joined : (names : List (List ℕ)) (name : List ℕ) (watched : Watched) → Told names name watched → watched.answer ≡ Ok tt → Joined names name watched.board
joined names name watched told accepted =
    let joins = accepted_joins names name told.good (ap (λ (w : Watched). w.answer) (sym told.is) ∙ accepted) in
    record {
      good = good_more names name told.good joins;
      is = ap (λ (w : Watched). w.board) (told.is ∙ watch_more names name told.good joins);
    }

pub began : (w : WatchList) (d : Display) → Begins w d → Began w d
began (as_bytes fields) d (from_bytes {watched = watched} lists accepted started) =
    from_list fields watched d (list_told fields watched lists) accepted started
began (one_by_one ns) d (no_names made started) =
    record { names = []; listed = refl; good = good_none; is = started ∙ ap display.fresh made }
began (one_by_one ns) d (one_more {names = names} {name = name} {watched = watched} {d = d₀} before watches accepted started) =
    let told = told_by_law names name d₀ (began (one_by_one names) d₀ before) watched watches in
    let j = joined names name watched told accepted in
    record { names = names ++ (name ∷ []); listed = refl; good = j.good; is = started ∙ ap display.fresh j.is }

pub name_told : (names : List (List ℕ)) (name : List ℕ) (d : Display) → Begins (one_by_one names) d → (watched : Watched) → Watches d.board name watched
    → Told names name watched
name_told names name d begins = told_by_law names name d (began (one_by_one names) d begins)

-- THEOREM. Every call of `board::watch_list` with the fields of a good list of names is accepted, with the board of the names.
pub good_list_accepted : (names : List (List ℕ)) → Good row_count names → (watched : Watched) → Lists (fields_of names) watched → watched ≡ accepted_with (board_of row_count names)
good_list_accepted names good watched lists = list_told (fields_of names) watched lists ∙ ap (as_watched row_count) (good_listed names good)

-- THEOREM. Every call of `board::watch_list` with the fields of more names than rows, whatever they are, is refused with 15, and the board
-- shows none of them.
pub too_many_names_refused : (names : List (List ℕ)) → row_count < length names → (watched : Watched) → Lists (fields_of names) watched → watched ≡ refused_with (board_of row_count [])
too_many_names_refused names many watched lists = list_told (fields_of names) watched lists ∙ ap (as_watched row_count) (too_many_refused names many)

-- THEOREM. Every call of `board::watch` with a name that makes a good list with those before it is accepted, with the board of all of them.
pub good_name_accepted : (names : List (List ℕ)) (name : List ℕ) (d : Display) → Begins (one_by_one names) d → Good row_count (names ++ (name ∷ []))
    → (watched : Watched) → Watches d.board name watched → watched ≡ accepted_with (board_of row_count (names ++ (name ∷ [])))
good_name_accepted names name d begins good watched watches =
    let told = name_told names name d begins watched watches in
    told.is ∙ watch_more names name told.good (may_join_law name [] names good)

-- THEOREM. Every call of `board::watch` with one name more than rows, whatever it is, is refused with 15, and the board is as it was.
pub too_many_by_name_refused : (names : List (List ℕ)) (name : List ℕ) (d : Display) → Begins (one_by_one names) d → row_count ≤ length names
    → (watched : Watched) → Watches d.board name watched → watched ≡ refused_with (board_of row_count names)
too_many_by_name_refused names name d begins full watched watches =
    let told = name_told names name d begins watched watches in
    told.is ∙ watch_refused names name told.good (join_full row_count names name full)

-- THEOREM. From every list that is accepted there is a fresh start.
pub accepted_begins : (fields : List ℕ) (names : List (List ℕ)) → watch_names row_count fields ≡ some names → Begins (as_bytes fields) (display.fresh (board_of row_count names))
accepted_begins fields names e =
    from_bytes (in_call tt (ap (as_watched row_count) (sym e))) refl refl

-- THEOREM. From every good list of names there is a fresh start, by the bytes of its fields.
pub good_begins : (names : List (List ℕ)) → Good row_count names → Begins (as_bytes (fields_of names)) (display.fresh (board_of row_count names))
good_begins names good = accepted_begins (fields_of names) names (good_listed names good)

-- name by name
names_begin : (before names : List (List ℕ)) → Good row_count before → Good row_count (before ++ names) → Begins (one_by_one before) (display.fresh (board_of row_count before))
    → Begins (one_by_one (before ++ names)) (display.fresh (board_of row_count (before ++ names)))
names_begin before [] good all begins = rw (append-nil before) begins
names_begin before (name ∷ names) good all begins =
    let joins = may_join_law name names before all in
    let behind : before ++ (name ∷ []) ++ names ≡ before ++ (name ∷ names) = append_assoc before (name ∷ []) names in
    let with_name =
    one_more begins
    (in_call tt (sym (watch_more before name good joins)))
    refl
    refl in
    rw behind at (names_begin (before ++ (name ∷ [])) names (good_more before name good joins) (rw behind all) with_name)

-- THEOREM. From every good list of names there is a fresh start, name by name.
pub good_names_begin : (names : List (List ℕ)) → Good row_count names → Begins (one_by_one names) (display.fresh (board_of row_count names))
good_names_begin names good = names_begin [] names good_none good (no_names refl refl)
