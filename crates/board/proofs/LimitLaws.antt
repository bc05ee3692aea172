-- Two limits on the names of a watch list: the names that the smaller one gives are those of the larger one, where they are no more than
-- it, since up to there each name joins by either.
use mathlib.Core.Path.{◌≡◌, refl}
use mathlib.Core.Bool.{Bool, true, false, cond, ◌&&◌}
use mathlib.Core.List.{List, [], ◌∷◌, ◌++◌}
use mathlib.Core.Option.{Option, none}
use Prim.Native.Nat.{ℕ, zero, suc, ◌≤◌, ◌<◌}
use native.Mathlib.Omega.{arith}
use lib.Dec.{ltb}
use lib.ListN.{length, take, length-append}
use borrow.Author.Tests.{ltb-true, ltb-false, lt-ltb, le-leb, lt-leb}
use Rattle.slices.specs.HighFirst.{pair_of}
use Rattle.board.specs.WatchList.{may_join, is_whole, names_from, watch_names}
use Rattle.board.specs.OldDisplays.{at_most}
use Rattle.board.proofs.WatchLaws.{never, join_full}

module _ (small large : ℕ) (less : small ≤ large) where
  -- while there is room for both, a name joins by both
  pub join_both : (names : List (List ℕ)) (name : List ℕ) → length names < small → may_join small names name ≡ may_join large names name
  unfolding may_join
  join_both names name room = rw (lt-ltb (length names) small room, lt-ltb (length names) large (omega arith))

  -- what holds of the names behind a field holds where the field is refused too
  without : (t : Bool) (o : Option (List (List ℕ))) → at_most small o ≡ none → at_most small (cond t o none) ≡ none
  without true o e = e
  without false o e = refl

  through : (t : Bool) (o p : Option (List (List ℕ))) → o ≡ at_most small p → cond t o none ≡ at_most small (cond t p none)
  through true o p e = e
  through false o p e = refl

  -- a field whose name may join the names before it; what stands behind the field is read with the name among them
  module _ (names : List (List ℕ)) (tag high low : ℕ) (rest : List ℕ) where
    abbrev name : List ℕ
    name = take (pair_of high low) rest

    abbrev with_name : List (List ℕ)
    with_name = names ++ (name ∷ [])

    abbrev whole : Bool
    whole = is_whole tag (pair_of high low) rest

    abbrev next : ℕ → Option (List (List ℕ))
    next limit = names_from limit (pair_of high low) with_name rest

    abbrev field : ℕ → Option (List (List ℕ))
    field limit = cond (whole && may_join limit names name) (next limit) none

    one_more : length with_name ≡ suc (length names)
    one_more = simp length-append (omega arith)

    field_too_many : small ≤ length names → (small < length with_name → at_most small (next large) ≡ none) → at_most small (field large) ≡ none
    field_too_many full below = without (whole && may_join large names name) (next large) (below (omega (arith, one_more)))

    field_at_most : length names < small → (length with_name ≤ small → next small ≡ at_most small (next large)) → field small ≡ at_most small (field large)
    field_at_most room below =
        rw (join_both names name room) (through (whole && may_join large names name) (next small) (next large) (below (omega (arith, one_more))))

    field_full : small ≤ length names → (small < length with_name → at_most small (next large) ≡ none) → field small ≡ at_most small (field large)
    field_full full below = rw (join_full small names name full, never whole, field_too_many full below)

  -- where there are too many names, more do not help
  too_many : (skip : ℕ) (names : List (List ℕ)) (rest : List ℕ) → small < length names → at_most small (names_from large skip names rest) ≡ none
  unfolding names_from
  too_many zero names [] more = rw (lt-leb (length names) small more)
  too_many zero names (tag ∷ []) more = refl
  too_many zero names (tag ∷ high ∷ []) more = refl
  too_many zero names (tag ∷ high ∷ low ∷ rest) more =
      field_too_many names tag high low rest (omega arith) (λ longer. too_many (pair_of high low) (with_name names tag high low rest) rest longer)
  too_many (suc skip) names [] more = refl
  too_many (suc skip) names (byte ∷ rest) more = too_many skip names rest more

  names_at_most : (skip : ℕ) (names : List (List ℕ)) (rest : List ℕ) → length names ≤ small → names_from small skip names rest ≡ at_most small (names_from large skip names rest)
  unfolding names_from
  names_at_most zero names [] few = rw (le-leb (length names) small few)
  names_at_most zero names (tag ∷ []) few = refl
  names_at_most zero names (tag ∷ high ∷ []) few = refl
  names_at_most zero names (tag ∷ high ∷ low ∷ rest) few =
      cases (ltb (length names) small) refl (λ fewer. names_at_most (pair_of high low) (with_name names tag high low rest) rest fewer)
    where
      cases : (t : Bool) → ltb (length names) small ≡ t
          → (length (with_name names tag high low rest) ≤ small → next names tag high low rest small ≡ at_most small (next names tag high low rest large))
          → field names tag high low rest small ≡ at_most small (field names tag high low rest large)
      cases true room below = field_at_most names tag high low rest (ltb-true (length names) small room) below
      cases false full below =
          field_full names tag high low rest (ltb-false (length names) small full) (λ longer. too_many (pair_of high low) (with_name names tag high low rest) rest longer)
  names_at_most (suc skip) names [] few = refl
  names_at_most (suc skip) names (byte ∷ rest) few = names_at_most skip names rest few

  -- THEOREM (02, C-20). For every string of bytes: by the smaller limit it has the names that it has by the larger one, if they are no more
  -- than that, and is refused otherwise.
  pub list_at_most : (fields : List ℕ) → watch_names small fields ≡ at_most small (watch_names large fields)
  list_at_most fields = names_at_most 0 [] fields (omega arith)
