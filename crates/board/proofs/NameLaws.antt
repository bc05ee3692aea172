-- The laws of names on a board: each valid name has room in a row, so a fresh row has the name that it was given, and the board of some
-- names watches these names in their order. Names stay a good list with one more that may join.
use mathlib.Core.Path.{◌≡◌, refl, ap, ap₂}
use mathlib.Core.Bool.{true, false, not, ◌&&◌}
use mathlib.Core.List.{List, [], ◌∷◌, ◌++◌, map}
use Prim.Native.Nat.{ℕ, zero, suc, ◌-◌, ◌≤◌, ◌<◌}
use native.Mathlib.Omega.{arith}
use lib.Dec.{ltb}
use lib.ListN.{length, replicate, length-append}
use borrow.Author.Tests.{ltb-true, not-true}
use Rattle.packet.specs.Names.{valid_name}
use Rattle.slices.proofs.PutLaws.{put_first}
use Rattle.rows.specs.Names.{place_from, is_in}
use Rattle.slices.proofs.TestLaws.{both}
use Rattle.packet.proofs.NameLaws.{name_size}
use Rattle.rows.specs.Rows.{name_room, row_name, watched, fresh_row, board_of}
use Rattle.board.specs.WatchList.{Good, all_valid, distinct, may_join}
use Rattle.rows.proofs.NameLaws.{NoneEmpty, used_first, not_in, in_more, differ}

-- a name that a row has room for
pub record Fit (name : List ℕ) : Type 0 where
  pub some : 0 < length name
  pub few : length name ≤ name_room

-- a valid name is such a name
pub valid_fit : (name : List ℕ) → valid_name name ≡ true → Fit name
valid_fit name h = let size = name_size name h in record { some = size.0; few = size.1 }

-- names that a board can have: each of them fits, and there are no more than rows
abbrev pub Fits : List (List ℕ) → Type 0
Fits [] = Unit {0}
Fits (name ∷ names) = Fit name × Fits names

pub none_empty : (names : List (List ℕ)) → Fits names → NoneEmpty names
none_empty [] h = tt
none_empty (name ∷ names) h = (h.0.some, none_empty names h.1)

-- a fresh row has the name that it was given
pub fresh_name : (name : List ℕ) → Fit name → row_name (fresh_row name) ≡ name
fresh_name name f = put_first (replicate name_room 0) name f.few

pub fresh_names : (names : List (List ℕ)) (k : ℕ) → Fits names → map row_name (map fresh_row (names ++ replicate k [])) ≡ names ++ replicate k []
fresh_names [] zero h = refl
fresh_names [] (suc k) h = ap (λ r. [] ∷ r) (fresh_names [] k h)
fresh_names (name ∷ names) k h = ap₂ (λ p q. p ∷ q) (fresh_name name h.0) (fresh_names names k h.1)

-- the board of names that fit watches these names
pub watched_names : (limit : ℕ) (names : List (List ℕ)) → Fits names → watched (board_of limit names) ≡ names
watched_names limit names h =
    rw (fresh_names names (limit - length names) h) (used_first names (limit - length names) (none_empty names h))

-- names of a watch list fit
pub good_fits : (names : List (List ℕ)) → all_valid names ≡ true → Fits names
unfolding all_valid
good_fits [] h = tt
good_fits (name ∷ names) h =
    (valid_fit name (both (valid_name name) (all_valid names) h).first, good_fits names (both (valid_name name) (all_valid names) h).second)

pub good_none : {limit : ℕ} → Good limit []
unfolding all_valid distinct
good_none = record { valid = refl; once = refl; few = omega arith }

pub join_few : {limit : ℕ} (names : List (List ℕ)) (name : List ℕ) → may_join limit names name ≡ true → length names < limit
unfolding may_join
join_few {limit} names name h =
    let test = not (is_in name names) && ltb (length names) limit in
    ltb-true (length names) limit (both (not (is_in name names)) (ltb (length names) limit) (both (valid_name name) test h).second).second

valid_more : (names : List (List ℕ)) (name : List ℕ) → all_valid names ≡ true → valid_name name ≡ true → all_valid (names ++ (name ∷ [])) ≡ true
unfolding all_valid
valid_more [] name h v = rw v
valid_more (first ∷ names) name h v =
    let valid = (both (valid_name first) (all_valid names) h).first in
    rw valid (valid_more names name (both (valid_name first) (all_valid names) h).second v)

once_more : (names : List (List ℕ)) (name : List ℕ) → distinct names ≡ true → is_in name names ≡ false → distinct (names ++ (name ∷ [])) ≡ true
unfolding distinct place_from
once_more [] name h e = refl
once_more (first ∷ names) name h e =
    let out = not_in name first names e in
    let alone = not-true (is_in first names) (both (not (is_in first names)) (distinct names) h).first in
    let still = in_more first name names (differ first name out.first) alone in
    rw still (once_more names name (both (not (is_in first names)) (distinct names) h).second out.others)

-- with a name that may join they are again
pub good_more : {limit : ℕ} (names : List (List ℕ)) (name : List ℕ) → Good limit names → may_join limit names name ≡ true → Good limit (names ++ (name ∷ []))
unfolding may_join
good_more {limit} names name o h =
    let test = not (is_in name names) && ltb (length names) limit in
    let rest = (both (valid_name name) test h).second in
    let few = join_few names name h in
    record {
      valid = valid_more names name o.valid (both (valid_name name) test h).first;
      once = once_more names name o.once (not-true (is_in name names) (both (not (is_in name names)) (ltb (length names) limit) rest).first);
      few = simp length-append (omega arith);
    }
