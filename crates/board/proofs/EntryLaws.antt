-- What a watch list and a packet come to on a board that shows entries: an accepted list is good since each of its names could
-- join those before it, and a packet changes at most the row of a name that is watched.
use mathlib.Core.Path.{◌≡◌, refl, sym, ap₂, ◌∙◌}
use mathlib.Core.Bool.{Bool, true, false, cond, ◌&&◌}
use mathlib.Core.List.{List, [], ◌∷◌, ◌++◌, map}
use mathlib.Core.Option.{Option, some, none}
use Prim.Native.Nat.{ℕ, zero, suc, ◌-◌, ◌<◌}
use native.Mathlib.Omega.{arith}
use lib.IntN.{ℤ}
use lib.ListN.{length, take}
use Rattle.refusals.specs.Numbers.{not_watched}
use Rattle.slices.proofs.Impossible.{impossible}
use Rattle.slices.specs.HighFirst.{pair_of}
use Rattle.slices.proofs.TestLaws.{both}
use Rattle.packet.specs.Packet.{packet_of}
use Rattle.rows.specs.Names.{place_of, is_some, is_in}
use Rattle.rows.specs.Rows.{row_names, watched, update_board}
use Rattle.rows.specs.Entries.{Entry, entry_name, board_showing}
use Rattle.rows.specs.declared.Board.{Board}
use Rattle.rows.proofs.NameLaws.{in_used, empty_unused, used_first}
use Rattle.rows.proofs.EntryLaws.{Named, showing_names}
use Rattle.board.specs.WatchList.{Good, may_join, is_whole, names_from, watch_names}
use Rattle.board.specs.Reading.{Verdict, refused, end_mark, update, verdict_of, if_watched, reading_of, refused_with, updated, applied, read_board}
use Rattle.std.specs.Prelude.{Ok}
use Rattle.refusals.specs.declared.Refusal.{Refusal}
use Rattle.board.specs.declared.reading.Done.TheVariants.{Updated, EndMark}
use Rattle.board.proofs.NameLaws.{Fits, none_empty, fresh_name, good_none, good_more}

-- the rows of a board that shows entries have their names
pub rows_named : (es : List Entry) → Fits (map entry_name es) → Named es
rows_named [] h = refl
rows_named (e ∷ es) h = ap₂ (λ (n : List ℕ) (l : List (List ℕ)). n ∷ l) (fresh_name e.name h.0) (rows_named es h.1)

-- these are the names that it watches
pub showing_watched : (count : ℕ) (es : List Entry) → Fits (map entry_name es) → watched (board_showing count es) ≡ map entry_name es
showing_watched count es h =
    rw (showing_names count es (rows_named es h)) (used_first (map entry_name es) (count - length es) (none_empty (map entry_name es) h))

-- 01, The board: of a list that is accepted each name is valid, none stands twice, and there are no more than the limit
names_good : {limit : ℕ} (skip : ℕ) (names : List (List ℕ)) (rest : List ℕ) (out : List (List ℕ)) → Good limit names → names_from limit skip names rest ≡ some out → Good limit out
unfolding names_from
names_good zero names [] out o e = let same : names ≡ out = cc in rw (← same) o
names_good zero names (tag ∷ []) out o e = impossible cc
names_good zero names (tag ∷ high ∷ []) out o e = impossible cc
names_good {limit} zero names (tag ∷ high ∷ low ∷ rest) out o e =
    cases (is_whole tag (pair_of high low) rest && may_join limit names (take (pair_of high low) rest)) refl
    (λ more next. names_good (pair_of high low) (names ++ (take (pair_of high low) rest ∷ [])) rest out more next) e
  where
    cases : (t : Bool) → (is_whole tag (pair_of high low) rest && may_join limit names (take (pair_of high low) rest)) ≡ t → (Good limit (names ++ (take (pair_of high low) rest ∷ [])) → names_from limit (pair_of high low) (names ++ (take (pair_of high low) rest ∷ [])) rest ≡ some out → Good limit out) → cond t (names_from limit (pair_of high low) (names ++ (take (pair_of high low) rest ∷ [])) rest) none ≡ some out → Good limit out
    cases true h below e =
        below (good_more names (take (pair_of high low) rest) o (both (is_whole tag (pair_of high low) rest) (may_join limit names (take (pair_of high low) rest)) h).second) e
    cases false h below e = impossible cc
names_good (suc skip) names [] out o e = impossible cc
names_good (suc skip) names (byte ∷ rest) out o e = names_good skip names rest out o e

pub list_good : {limit : ℕ} (fields : List ℕ) (names : List (List ℕ)) → watch_names limit fields ≡ some names → Good limit names
list_good fields names e = names_good 0 [] fields names good_none e

-- an accepted update has a row to change
pub record There (board : Board) (name : List ℕ) : Type 0 where
  pub place : ℕ
  pub stands : place_of name (row_names board) ≡ some place
  pub named : 0 < length name

there : (board : Board) (name : List ℕ) → is_in name (watched board) ≡ true → There board name
there board [] e = let n = empty_unused (row_names board) in impossible cc
there board (byte ∷ bytes) e =
    cases (place_of (byte ∷ bytes) (row_names board)) refl (sym (in_used (byte ∷ bytes) (row_names board) (omega arith)) ∙ e)
  where
    cases : (o : Option ℕ) → place_of (byte ∷ bytes) (row_names board) ≡ o → is_some o ≡ true → There board (byte ∷ bytes)
    cases (some place) h s = record { place = place; stands = h; named = omega arith }
    cases none h s = impossible cc

-- only a watched name is updated
update_watched : (names : List (List ℕ)) (v : Verdict) (id : ℕ) (name : List ℕ) (value : ℤ) → if_watched names v ≡ update id name value → is_in name names ≡ true
unfolding if_watched
update_watched names (refused r) id name value e = impossible cc
update_watched names (end_mark found) id name value e = impossible cc
update_watched names (update found-id found number) id name value e = cases (is_in found names) refl e
  where
    cases : (t : Bool) → is_in found names ≡ t → cond t (update found-id found number) (refused not_watched) ≡ update id name value → is_in name names ≡ true
    cases true h e = let same : found ≡ name = cc in rw (← same) h
    cases false h e = impossible cc

module _ (board : Board) (bytes : List ℕ) where
  -- a refusal has its number and leaves the board as it was
  pub read_refused : (r : Refusal) → reading_of (watched board) bytes ≡ refused r → read_board board bytes ≡ refused_with board r
  unfolding read_board applied
  read_refused r e = rw e

  -- an end mark leaves the board as it was
  pub read_end : (id : ℕ) → reading_of (watched board) bytes ≡ end_mark id → read_board board bytes ≡ record { board = board; answer = Ok (EndMark id) }
  unfolding read_board applied
  read_end id e = rw e

  -- an update is answered by the place of its name's row
  pub read_update_law : (id : ℕ) (name : List ℕ) (value : ℤ) (place : ℕ) → reading_of (watched board) bytes ≡ update id name value → place_of name (row_names board) ≡ some place → read_board board bytes ≡ record { board = update_board place value board; answer = Ok (Updated place id) }
  unfolding read_board applied updated
  read_update_law id name value place e stands = rw (e, stands)

  -- and a name that is updated has a row
  pub update_there : (id : ℕ) (name : List ℕ) (value : ℤ) → reading_of (watched board) bytes ≡ update id name value → There board name
  unfolding reading_of
  update_there id name value e = there board name (update_watched (watched board) (verdict_of (packet_of bytes)) id name value e)
