-- The fields of names: a good list is accepted, since each of its names may join those before it, being valid, other than they, and not one
-- too many; and a list that is accepted has these names.
use mathlib.Core.Path.{◌≡◌, refl, sym, ap, ◌∙◌}
use mathlib.Core.Bool.{Bool, true, false, cond, not}
use mathlib.Core.List.{List, [], ◌∷◌, ◌++◌, append_assoc, append-nil}
use mathlib.Core.Option.{Option, some, none}
use Prim.Native.Nat.{ℕ, ◌/◌, ◌%◌, ◌≤◌, ◌<◌}
use native.Mathlib.Omega.{arith}
use lib.ListN.{length, length-append}
use lib.Seq.{take-append_seam, drop-append_seam}
use borrow.Author.Tests.{lt-ltb, le-leb, not-true}
use Rattle.std.specs.Prelude.{Some}
use Rattle.slices.specs.Same.{same_bytes}
use Rattle.slices.specs.HighFirst.{pair_of}
use Rattle.slices.proofs.Impossible.{impossible}
use Rattle.slices.proofs.TestLaws.{both}
use Rattle.packet.specs.Names.{valid_name}
use Rattle.rows.specs.Names.{place_from, is_in}
use Rattle.rows.proofs.NameLaws.{in_shift, not_in, differ}
use Rattle.board.specs.WatchList.{Good, all_valid, distinct, may_join, names_from, watch_names, name_field, fields_of}
use Rattle.board.specs.ListSteps.{field_of}
use Rattle.board.proofs.EntryLaws.{list_good}
use Rattle.board.proofs.FieldLaws.{field_next}

module _ (name : List ℕ) (later : List (List ℕ)) where
  valid_there : (before : List (List ℕ)) → all_valid (before ++ (name ∷ later)) ≡ true → valid_name name ≡ true
  unfolding all_valid
  valid_there [] h = (both (valid_name name) (all_valid later) h).first
  valid_there (first ∷ before) h = valid_there before (both (valid_name first) (all_valid (before ++ (name ∷ later))) h).second

  -- a name that does not stand in a list is none of the list's
  other_than : (other : List ℕ) (before : List (List ℕ)) → is_in other (before ++ (name ∷ later)) ≡ false → same_bytes name other ≡ false
  other_than other [] h = (not_in other name later h).first
  other_than other (first ∷ before) h = other_than other before (not_in other first (before ++ (name ∷ later)) h).others

  new_there : (before : List (List ℕ)) → distinct (before ++ (name ∷ later)) ≡ true → is_in name before ≡ false
  unfolding distinct place_from
  new_there [] h = refl
  new_there (first ∷ before) h =
      let rest = before ++ (name ∷ later) in
      let parts = both (not (is_in first rest)) (distinct rest) h in
      let differs = differ name first (other_than first before (not-true (is_in first rest) parts.first)) in
      rw differs (in_shift name before 1 0 ∙ new_there before parts.second)

  -- so each name of a good list may join those before it
  pub may_join_law : {limit : ℕ} (before : List (List ℕ)) → Good limit (before ++ (name ∷ later)) → may_join limit before name ≡ true
  unfolding may_join
  may_join_law {limit} before good =
      let few : length before < limit = omega (arith, good.few, length-append before (name ∷ later)) in
      rw (valid_there before good.valid, new_there before good.once, lt-ltb (length before) limit few)

  -- the field of a name is a whole one
  field_whole : Some (name, fields_of later) ≡ field_of (name_field name ++ fields_of later)
  unfolding field_of
  field_whole =
      let size : pair_of (length name / 256) (length name % 256) ≡ length name = omega arith in
      let fits : length name ≤ length (name ++ fields_of later) = omega (arith, length-append name (fields_of later)) in
      rw (size, le-leb (length name) (length (name ++ fields_of later)) fits, take-append_seam name (fields_of later), drop-append_seam name (fields_of later))

-- its name joins, and the fields behind it are read by the same rule
next_joins : (limit : ℕ) (before : List (List ℕ)) (name : List ℕ) (names : List (List ℕ))
    → names_from limit 0 before (fields_of (name ∷ names)) ≡ cond (may_join limit before name) (names_from limit 0 (before ++ (name ∷ [])) (fields_of names)) none
unfolding fields_of
next_joins limit before name names = field_next name (fields_of names) limit before (fields_of (name ∷ names)) (field_whole name names)

all_join : {limit : ℕ} (before names : List (List ℕ)) → Good limit (before ++ names) → names_from limit 0 before (fields_of names) ≡ some (before ++ names)
unfolding names_from fields_of
all_join before [] good = ap some (sym (append-nil before))
all_join {limit} before (name ∷ names) good =
    let behind : before ++ (name ∷ []) ++ names ≡ before ++ (name ∷ names) = append_assoc before (name ∷ []) names in
    next_joins limit before name names ∙ rw (may_join_law name names before good) (all_join (before ++ (name ∷ [])) names (rw behind good) ∙ ap some behind)

none_else : (limit : ℕ) (before names out : List (List ℕ)) → names_from limit 0 before (fields_of names) ≡ some out → out ≡ before ++ names
unfolding names_from fields_of
none_else limit before [] out e = let same : before ≡ out = cc in sym same ∙ sym (append-nil before)
none_else limit before (name ∷ names) out e =
    cases (may_join limit before name) (λ later. none_else limit (before ++ (name ∷ [])) names out later) (sym (next_joins limit before name names) ∙ e)
  where
    cases : (t : Bool) → (names_from limit 0 (before ++ (name ∷ [])) (fields_of names) ≡ some out → out ≡ before ++ (name ∷ []) ++ names)
        → cond t (names_from limit 0 (before ++ (name ∷ [])) (fields_of names)) none ≡ some out → out ≡ before ++ (name ∷ names)
    cases true below e = below e ∙ append_assoc before (name ∷ []) names
    cases false below e = impossible cc

-- THEOREM. Names of which each is valid, none stands twice and which are no more than the limit are the names of the list of their fields.
pub good_listed : {limit : ℕ} (names : List (List ℕ)) → Good limit names → watch_names limit (fields_of names) ≡ some names
good_listed names good = all_join [] names good

-- THEOREM. The fields of any names, if the list is accepted, have these names.
pub fields_listed : (limit : ℕ) (names out : List (List ℕ)) → watch_names limit (fields_of names) ≡ some out → out ≡ names
fields_listed limit names out e = none_else limit [] names out e

-- THEOREM. The fields of more names than the limit, whatever they are, are refused.
pub too_many_refused : {limit : ℕ} (names : List (List ℕ)) → limit < length names → watch_names limit (fields_of names) ≡ none
too_many_refused {limit} names many = cases (watch_names limit (fields_of names)) refl
  where
    cases : (o : Option (List (List ℕ))) → watch_names limit (fields_of names) ≡ o → o ≡ none
    cases none e = refl
    cases (some out) e =
        let few : length names ≤ limit = rw (fields_listed limit names out e) at (list_good (fields_of names) out e).few in
        absurd (omega arith)
