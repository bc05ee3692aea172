-- 02, C-20: watch lists of up to 16 names are read as before, to the same rows; an old display refuses a longer list with 15 and shows none
-- of it. Over the calls that run, for a list as bytes, for one name by name, and after every list of calls.
use mathlib.Core.Path.{◌≡◌, refl, sym, ap, ◌∙◌}
use mathlib.Core.Bool.{Bool, true, false}
use mathlib.Core.List.{List, [], ◌∷◌, ◌++◌, map}
use mathlib.Core.Option.{Option, some, none}
use Prim.Native.Nat.{ℕ, ◌≤◌, ◌<◌}
use native.Mathlib.Omega.{arith}
use lib.ListN.{length, length-append, length-map}
use borrow.Author.Tests.{le-leb, lt-leb}
use Rattle.rows.specs.OldRows.{old_row_count, SameRows}
use Rattle.rows.specs.Rows.{row_count, watched, board_of}
use Rattle.rows.proofs.OldRowLaws.{same_rows, same_fresh}
use Rattle.board.specs.WatchList.{Good, may_join, watch_names, fields_of, as_watched, accepted_with, refused_with}
use Rattle.board.specs.OldDisplays.{old_listed, old_watched, at_most, ReadAsBefore}
use Rattle.board.specs.declared.list.Watched.{Watched}
use Rattle.board.proofs.EntryLaws.{list_good}
use Rattle.board.proofs.GoodLists.{fields_listed, too_many_refused}
use Rattle.board.proofs.LimitLaws.{join_both, list_at_most}
use Rattle.board.proofs.NameLaws.{good_fits, watched_names}
use Rattle.board.proofs.WatchLaws.{join_full, watch_more, watch_refused}
use Rattle.display.specs.Display as display
use Rattle.display.specs.declared.Display.{Display}
use Rattle.ledger.specs.Ledger.{name_of, start}
use Rattle.ledger.specs.Answers.{WatchList, one_by_one, names_in, Call}
use Rattle.ledger.specs.Calls.{after}
use Rattle.ledger.specs.Shown.{as_entry, Left}
use Rattle.ledger.proofs.Chain.{Begins, Chain, Lists, Watches}
use Rattle.ledger.proofs.FreshStarts.{list_told, Told, name_told}
use Rattle.ledger.proofs.EveryList.{fresh_agrees, chain_agrees, agreeing}

-- an old display has fewer rows
few_rows : old_row_count ≤ row_count
few_rows = omega arith

-- the boards of up to sixteen names, after an answer that is the same
accepted_alike : (names : List (List ℕ)) → length names ≤ old_row_count → ReadAsBefore (accepted_with (board_of old_row_count names)) (accepted_with (board_of row_count names))
accepted_alike names few = record { answer = refl; rows = same_fresh names few }

refused_alike : (names : List (List ℕ)) → length names ≤ old_row_count → ReadAsBefore (refused_with (board_of old_row_count names)) (refused_with (board_of row_count names))
refused_alike names few = record { answer = refl; rows = same_fresh names few }

-- The list as bytes.
module _ (fields : List ℕ) where
  old_at_most : watch_names old_row_count fields ≡ at_most old_row_count (watch_names row_count fields)
  old_at_most = list_at_most old_row_count row_count few_rows fields

  old_none : watch_names row_count fields ≡ none → old_listed fields ≡ refused_with (board_of old_row_count [])
  old_none e = ap (as_watched old_row_count) (old_at_most ∙ ap (at_most old_row_count) e)

  -- THEOREM. Of the lists that are accepted today an old display accepts those of at most sixteen names, with the board of these.
  pub old_accepts : (names : List (List ℕ)) → watch_names row_count fields ≡ some names → length names ≤ old_row_count → old_listed fields ≡ accepted_with (board_of old_row_count names)
  old_accepts names e few =
      let listed : watch_names old_row_count fields ≡ some names = rw (le-leb (length names) old_row_count few) at (old_at_most ∙ ap (at_most old_row_count) e) in
      ap (as_watched old_row_count) listed

  old_many : (names : List (List ℕ)) → watch_names row_count fields ≡ some names → old_row_count < length names → old_listed fields ≡ refused_with (board_of old_row_count [])
  old_many names e many =
      let unlisted : watch_names old_row_count fields ≡ none = rw (lt-leb (length names) old_row_count many) at (old_at_most ∙ ap (at_most old_row_count) e) in
      ap (as_watched old_row_count) unlisted

  module _ (today : Watched) (lists : Lists fields today) where
    -- where no more than sixteen names are accepted
    read_alike : ((names : List (List ℕ)) → watch_names row_count fields ≡ some names → length names ≤ old_row_count) → ReadAsBefore (old_listed fields) today
    read_alike short = cases (watch_names row_count fields) refl
      where
        told : (o : Option (List (List ℕ))) → watch_names row_count fields ≡ o → today ≡ as_watched row_count o
        told o e = list_told fields today lists ∙ ap (as_watched row_count) e

        cases : (o : Option (List (List ℕ))) → watch_names row_count fields ≡ o → ReadAsBefore (old_listed fields) today
        cases none e = rw (told none e, old_none e) (refused_alike [] (omega arith))
        cases (some names) e = rw (told (some names) e, old_accepts names e (short names e)) (accepted_alike names (short names e))

    -- the board then watches the names of the list
    watches_names : (names : List (List ℕ)) → watch_names row_count fields ≡ some names → watched today.board ≡ names
    watches_names names e =
        ap (λ (w : Watched). watched w.board) (list_told fields today lists ∙ ap (as_watched row_count) e)
        ∙ watched_names row_count names (good_fits names (list_good fields names e).valid)

    -- THEOREM. Every call of `board::watch_list` after which the board watches at most sixteen names, none after a refusal: an old display
    -- gives the same answer, and has the same rows.
    pub list_as_before : length (watched today.board) ≤ old_row_count → ReadAsBefore (old_listed fields) today
    list_as_before few = read_alike (λ names e. rw (watches_names names e) at few)

    -- THEOREM. Every call after which it watches more: an old display refuses the list with 15, and shows none of it.
    pub longer_refused : old_row_count < length (watched today.board) → old_listed fields ≡ refused_with (board_of old_row_count [])
    longer_refused many = cases (watch_names row_count fields) refl
      where
        cases : (o : Option (List (List ℕ))) → watch_names row_count fields ≡ o → old_listed fields ≡ refused_with (board_of old_row_count [])
        cases none e = old_none e
        cases (some names) e = old_many names e (rw (watches_names names e) at many)

-- THEOREM. The fields of any names, good or bad, up to sixteen: an old display gives the same answer, and has the same rows.
pub names_as_before : (names : List (List ℕ)) → length names ≤ old_row_count → (today : Watched) → Lists (fields_of names) today
    → ReadAsBefore (old_listed (fields_of names)) today
names_as_before names few today lists = read_alike (fields_of names) today lists (λ out e. rw (fields_listed row_count names out e) few)

-- THEOREM. The fields of any names, good or bad, more than sixteen: an old display refuses the list with 15, and shows none of it.
pub more_names_refused : (names : List (List ℕ)) → old_row_count < length names → old_listed (fields_of names) ≡ refused_with (board_of old_row_count [])
more_names_refused names many = ap (as_watched old_row_count) (too_many_refused names many)

-- The list name by name, as `replay` takes it.

-- THEOREM. Every call of `board::watch` with one of the first sixteen names: an old display gives the same answer, and has the same rows.
pub name_as_before : (names : List (List ℕ)) (name : List ℕ) (d : Display) → Begins (one_by_one names) d → length names < old_row_count
    → (today : Watched) → Watches d.board name today → ReadAsBefore (old_watched names name) today
name_as_before names name d begins few today watches = cases (may_join row_count names name) refl
  where
    told : Told names name today
    told = name_told names name d begins today watches

    old_good : Good old_row_count names
    old_good = record { valid = told.good.valid; once = told.good.once; few = omega arith }

    old_joins : may_join old_row_count names name ≡ may_join row_count names name
    old_joins = join_both old_row_count row_count few_rows names name few

    cases : (t : Bool) → may_join row_count names name ≡ t → ReadAsBefore (old_watched names name) today
    cases true joins =
        let short : length (names ++ (name ∷ [])) ≤ old_row_count = simp length-append (omega arith) in
        rw (told.is, watch_more names name told.good joins, watch_more names name old_good (old_joins ∙ joins)) (accepted_alike (names ++ (name ∷ [])) short)
    cases false stays =
        rw (told.is, watch_refused names name told.good stays, watch_refused names name old_good (old_joins ∙ stays)) (refused_alike names (omega arith))

-- THEOREM. A seventeenth name, whatever it is, an old display refuses with 15.
pub seventeenth_refused : (names : List (List ℕ)) (name : List ℕ) → Good old_row_count names → length names ≡ old_row_count
    → old_watched names name ≡ refused_with (board_of old_row_count names)
seventeenth_refused names name good full = watch_refused names name good (join_full old_row_count names name (omega arith))

-- What is shown afterwards. The contracts of the display's calls do not ask for the number of rows, so a chain of calls
-- speaks of an old display too; it starts with the board of sixteen rows that the list gave it (`old_accepts`).
abbrev pub old_start : List (List ℕ) → Display
old_start names = display.fresh (board_of old_row_count names)

-- the same calls: the answers and the bytes left in the buffers are the same, call by call, and afterwards the counts and the rows are
pub record ShownAsBefore (old_left left : List Left) (old end : Display) : Type 0 where
  pub answers : left ≡ old_left
  pub counts : end.link.counts ≡ old.link.counts
  pub rows : SameRows old.board end.board

-- THEOREM. With at most sixteen names every list of calls is answered as by an old display that is given the same calls, and shown in the same
-- rows.
pub calls_as_before : (w : WatchList) (d : Display) → Begins w d → (names : List (List ℕ)) → names_in w ≡ some names → length names ≤ old_row_count
    → (cs : List Call) (left old_left : List Left) (end old : Display) → Chain d cs left end → Chain (old_start names) cs old_left old
    → ShownAsBefore old_left left old end
calls_as_before w d begins names listed few cs left old_left end old chain old-chain =
    let today = agreeing listed begins chain in
    let before = chain_agrees names today.fit (start names) old-chain (fresh_agrees old_row_count names) in
    let shows = today.all.agrees.shows in
    let entries = (after (start names) cs).hives.entries in
    let named : length entries ≡ length names = sym (length-map entries name_of) ∙ ap length shows.named in
    let shown = length-map entries as_entry in
    record {
      answers = today.all.gives ∙ sym before.gives;
      counts = today.all.agrees.counts_are ∙ sym before.agrees.counts_are;
      rows = rw (shows.showing, before.agrees.shows.showing) (same_rows (map as_entry entries) (omega arith));
    }
