-- The laws of watching: one name more stands in the first unused row of a board, or it is refused and the board is as it was.
use mathlib.Core.Path.{◌≡◌, refl, sym, ap, ◌∙◌}
use mathlib.Core.Bool.{Bool, true, false, not, ◌&&◌}
use mathlib.Core.List.{List, [], ◌∷◌, ◌++◌, map}
use mathlib.Core.Option.{Option, some, none}
use Prim.Native.Nat.{ℕ, suc, ◌+◌, ◌-◌, ◌≤◌}
use native.Mathlib.Omega.{arith}
use lib.Dec.{ltb}
use lib.ListN.{length, replicate, length-append, length-map}
use borrow.Author.Tests.{le-ltb}
use Rattle.std.specs.Prelude as rust
use Rattle.std.specs.Prelude.{Some, None, Ok, Err}
use Rattle.packet.specs.Names.{valid_name}
use Rattle.slices.proofs.Impossible.{impossible}
use Rattle.rows.specs.Names.{place_of, is_some, is_in}
use Rattle.rows.specs.Rows.{row_count, row_name, row_names, watched, fresh_row, change_at, put_row, board_of, as_place}
use Rattle.board.specs.WatchList.{Good, may_join, watch_board, join_board, accepted_with, refused_with}
use Rattle.refusals.specs.declared.Refusal.{Refusal}
use Rattle.rows.specs.declared.Row.{Row}
use Rattle.rows.specs.declared.Board.{Board}
use Rattle.rows.proofs.NameLaws.{place_empty, in_used, room}
use Rattle.board.proofs.NameLaws.{valid_fit, Fits, none_empty, fresh_names, watched_names, good_fits, join_few}

-- a test that fails beside any other
pub never : (t : Bool) → (t && false) ≡ false
never true = refl
never false = refl

-- where there are as many names as the limit none joins
pub join_full : (limit : ℕ) (names : List (List ℕ)) (name : List ℕ) → limit ≤ length names → may_join limit names name ≡ false
unfolding may_join
join_full limit names name full = rw (le-ltb (length names) limit full, never (not (is_in name names)), never (valid_name name))

change_unused : (names : List (List ℕ)) (name : List ℕ) (k : ℕ) → change_at (λ (old : Row). fresh_row name) (length names) (map fresh_row (names ++ replicate (suc k) [])) ≡ map fresh_row (names ++ (name ∷ []) ++ replicate k [])
unfolding change_at
change_unused [] name k = refl
change_unused (first ∷ names) name k = ap (λ r. fresh_row first ∷ r) (change_unused names name k)

join_row : (names : List (List ℕ)) (name : List ℕ) (k : ℕ) → Fits names → join_board (record { rows = map fresh_row (names ++ replicate (suc k) []) }) name (place_of [] (map row_name (map fresh_row (names ++ replicate (suc k) [])))) ≡ record { rows = map fresh_row (names ++ (name ∷ []) ++ replicate k []) }
join_row names name k h =
    let first : 0 + length names ≡ length names = omega arith in
    rw (fresh_names names (suc k) h, place_empty names k 0 (none_empty names h), first)
    (ap (λ (rows : List Row). record { rows = rows }) (change_unused names name k))

-- one name more on a board of ours: the board of the names with it, in their order
pub watch_more : {limit : ℕ} (names : List (List ℕ)) (name : List ℕ) → Good limit names → may_join limit names name ≡ true → watch_board limit (board_of limit names) name ≡ accepted_with (board_of limit (names ++ (name ∷ [])))
unfolding watch_board
watch_more {limit} names name o h =
    let few = join_few names name h in
    let now : limit - length names ≡ suc (limit - suc (length names)) = omega arith in
    let then : limit - length (names ++ (name ∷ [])) ≡ limit - suc (length names) = simp length-append (omega arith) in
    rw (watched_names limit names (good_fits names o.valid), h, now, then) (ap accepted_with (join_row names name (limit - suc (length names)) (good_fits names o.valid)))

-- or the refusal, with the board as it was
pub watch_refused : {limit : ℕ} (names : List (List ℕ)) (name : List ℕ) → Good limit names → may_join limit names name ≡ false → watch_board limit (board_of limit names) name ≡ refused_with (board_of limit names)
unfolding watch_board
watch_refused {limit} names name o h = rw (watched_names limit names (good_fits names o.valid), h)

-- so the answer tells which it was
pub accepted_joins : {limit : ℕ} (names : List (List ℕ)) (name : List ℕ) → Good limit names → (watch_board limit (board_of limit names) name).answer ≡ Ok tt → may_join limit names name ≡ true
accepted_joins {limit} names name o e = cases (may_join limit names name) refl
  where
    cases : (t : Bool) → may_join limit names name ≡ t → t ≡ true
    cases true h = refl
    cases false h =
        let stays = watch_refused names name o h in
        impossible cc

pub refused_stays : {limit : ℕ} (names : List (List ℕ)) (name : List ℕ) (r : Refusal) → Good limit names → (watch_board limit (board_of limit names) name).answer ≡ Err r → may_join limit names name ≡ false
refused_stays {limit} names name r o e = cases (may_join limit names name) refl
  where
    cases : (t : Bool) → may_join limit names name ≡ t → t ≡ false
    cases false h = refl
    cases true h =
        let joined = watch_more names name o h in
        impossible cc

-- what the search for a name answered
pub place_row : (o : Option ℕ) (place : ℕ) → Some place ≡ as_place o → o ≡ some place
place_row (some found) place e = cc
place_row none place e = impossible cc

pub place_nowhere : (o : Option ℕ) → None ≡ as_place o → o ≡ none
place_nowhere (some found) e = impossible cc
place_nowhere none e = refl

place_there : (o : Option ℕ) → rust.is_some (as_place o) ≡ is_some o
place_there (some found) = refl
place_there none = refl

-- a name on any board, in the order of the code
module _ (board : Board) (name : List ℕ) where
  -- a bad name
  pub watch_bad : false ≡ valid_name name → watch_board row_count board name ≡ refused_with board
  unfolding watch_board may_join
  watch_bad bad = rw (← bad)

  module _ (valid : true ≡ valid_name name) where
    -- no unused row has the name
    in_rows : is_in name (watched board) ≡ is_in name (row_names board)
    in_rows = in_used name (row_names board) (valid_fit name (sym valid)).some

    module _ {found : rust.Option ℕ} (is : found ≡ as_place (place_of name (row_names board))) where
      told : rust.is_some found ≡ is_in name (row_names board)
      told = rw is (place_there (place_of name (row_names board)))

      -- a name that a row has
      pub watch_again : true ≡ rust.is_some found → watch_board row_count board name ≡ refused_with board
      unfolding watch_board may_join
      watch_again there = rw (← valid, in_rows, ← told, ← there)

      module _ (new : false ≡ rust.is_some found) (rows : length board.rows ≡ row_count) where
        has_room : ltb (length (watched board)) row_count ≡ is_in [] (row_names board)
        has_room = let all : length (row_names board) ≡ row_count = length-map board.rows row_name ∙ rows in rw (← all) (room (row_names board))

        -- no row is unused
        pub watch_full : None ≡ as_place (place_of [] (row_names board)) → watch_board row_count board name ≡ refused_with board
        unfolding watch_board may_join
        watch_full e = rw (← valid, has_room, place_nowhere _ e, never (not (is_in name (watched board))))

        -- the first unused row takes it
        pub watch_first : {place : ℕ} → Some place ≡ as_place (place_of [] (row_names board)) → watch_board row_count board name ≡ accepted_with (put_row place (fresh_row name) board)
        unfolding watch_board may_join
        watch_first {place} e = rw (← valid, in_rows, ← told, ← new, has_room, place_row _ place e)
