-- The laws of the fields of a watch list: a list is read field by field, each name on the board of those before it.
use mathlib.Core.Path.{◌≡◌, refl, sym, ap, ◌∙◌}
use mathlib.Core.Bool.{Bool, true, false, cond}
use mathlib.Core.List.{List, [], ◌∷◌, ◌++◌}
use mathlib.Core.Option.{some, none}
use Prim.Native.Nat.{ℕ, zero, suc, ◌≤◌, ◌<◌}
use native.Mathlib.Omega.{arith}
use lib.Dec.{leb, eqb}
use lib.ListN.{length, take, drop, get_or, length-drop}
use borrow.Author.Tests.{leb-true, lt-leb, le-leb, ne_eqb}
use denote.Ref.{Bor}
use Rattle.std.specs.Prelude.{Option, Some, None, option_map, MatchOption, Result, Ok, Err, is_err}
use Rattle.std.specs.List.{IsSplitAt}
use Rattle.std.proofs.lemmas.List.{nil_from_length}
use Rattle.slices.proofs.Impossible.{impossible}
use Rattle.slices.specs.HighFirst.{pair_of}
use Rattle.slices.proofs.TestLaws.{both}
use Rattle.rows.specs.Rows.{row_count, board_of}
use Rattle.board.specs.WatchList.{Good, name_tag, may_join, is_whole, names_from, watch_names, watch_board, accepted_with, as_watched}
use Rattle.board.specs.ListSteps.{field_of}
use Rattle.refusals.specs.declared.Refusal.{Refusal}
use Rattle.board.specs.declared.list.Watched.{Watched}
use Rattle.rows.specs.declared.Board.{Board}
use Rattle.board.proofs.NameLaws.{good_more}
use Rattle.board.proofs.WatchLaws.{watch_more, accepted_joins, refused_stays}

-- the bytes of a name that has joined are passed over
skipped : (limit : ℕ) (n : ℕ) (names : List (List ℕ)) (rest : List ℕ) → n ≤ length rest → names_from limit n names rest ≡ names_from limit 0 names (drop n rest)
unfolding names_from
skipped limit zero names rest h = refl
skipped limit (suc n) names [] h = absurd (omega arith)
skipped limit (suc n) names (byte ∷ rest) h = skipped limit n names rest (omega arith)

-- a field is whole exactly where there is one
abbrev Parts : Type 0
Parts = List ℕ × List ℕ

whole : (t : Bool) (found parts : Parts) → Some parts ≡ cond t (Some found) None → (t ≡ true) × (found ≡ parts)
whole true found parts e = (refl, cc)
whole false found parts e = impossible cc

broken : (t : Bool) (found : Parts) → None ≡ cond t (Some found) None → t ≡ false
broken true found e = impossible cc
broken false found e = refl

-- where the fields begin with no whole name, the list is refused
pub field_bad : (limit : ℕ) (names : List (List ℕ)) (fields : List ℕ) → 0 < length fields → None ≡ field_of fields → names_from limit 0 names fields ≡ none
unfolding names_from field_of
field_bad limit names [] h e = absurd (omega arith)
field_bad limit names (tag ∷ []) h e = refl
field_bad limit names (tag ∷ high ∷ []) h e = refl
field_bad limit names (tag ∷ high ∷ low ∷ rest) h e = rw (broken (is_whole tag (pair_of high low) rest) _ e)

module _ (name behind : List ℕ) where
  -- 01, The board: the name joins, and the rest of the list is read by the same rule
  pub field_next : (limit : ℕ) (names : List (List ℕ)) (fields : List ℕ) → Some (name, behind) ≡ field_of fields
      → names_from limit 0 names fields ≡ cond (may_join limit names name) (names_from limit 0 (names ++ (name ∷ [])) behind) none
  unfolding field_of names_from
  field_next limit names [] e = impossible cc
  field_next limit names (tag ∷ []) e = impossible cc
  field_next limit names (tag ∷ high ∷ []) e = impossible cc
  field_next limit names (tag ∷ high ∷ low ∷ rest) e =
      let size = pair_of high low in
      let found = whole (is_whole tag size rest) _ (name, behind) e in
      let fits : size ≤ length rest = leb-true size (length rest) (both (eqb tag 0x01) (leb size (length rest)) found.0).second in
      rw (found.0, skipped limit size (names ++ (take size rest ∷ [])) rest fits, ap (λ (p : Parts). p.0) found.1, ap (λ (p : Parts). p.1) found.1)

  -- the fields behind a name are fewer bytes
  pub field_shorter : (fields : List ℕ) → Some (name, behind) ≡ field_of fields → length behind < length fields
  unfolding field_of
  field_shorter [] e = impossible cc
  field_shorter (tag ∷ []) e = impossible cc
  field_shorter (tag ∷ high ∷ []) e = impossible cc
  field_shorter (tag ∷ high ∷ low ∷ rest) e =
      let found = whole (is_whole tag (pair_of high low) rest) _ (name, behind) e in
      omega (arith, ap (λ (p : Parts). length p.1) found.1, length-drop (pair_of high low) rest)

-- the field by its bytes
pub field_short : (fields : List ℕ) → length fields < 3 → field_of fields ≡ None
unfolding field_of
field_short [] h = refl
field_short (tag ∷ []) h = refl
field_short (tag ∷ high ∷ []) h = refl
field_short (tag ∷ high ∷ low ∷ rest) h = absurd (omega arith)

pub field_other : (fields : List ℕ) → (get_or fields 0 0 ≡ name_tag → ⊥) → field_of fields ≡ None
unfolding field_of
field_other [] h = refl
field_other (tag ∷ []) h = refl
field_other (tag ∷ high ∷ []) h = refl
field_other (tag ∷ high ∷ low ∷ rest) h = rw (ne_eqb tag name_tag h)

-- the value that was split behind the name is that of a whole field, or there is none
pub field_split : (fields : List ℕ) (size : ℕ) (split : Option (Bor (List ℕ) × Bor (List ℕ))) → 3 ≤ length fields → get_or fields 0 0 ≡ name_tag
    → size ≡ pair_of (get_or fields 1 0) (get_or fields 2 0)
    → MatchOption split (length (drop 3 fields) < size) (λ p. IsSplitAt (drop 3 fields) size p.0.now p.1.now)
    → option_map (λ p. (p.0.now, p.1.now)) split ≡ field_of fields
unfolding field_of
field_split [] size split long named is parts = absurd (omega arith)
field_split (tag ∷ []) size split long named is parts = absurd (omega arith)
field_split (tag ∷ high ∷ []) size split long named is parts = absurd (omega arith)
field_split (tag ∷ high ∷ low ∷ rest) size None long named is cut = rw (← is, named, lt-leb size (length rest) cut)
field_split (tag ∷ high ∷ low ∷ rest) size (Some p) long named is parts =
    rw (← is, named, le-leb size (length rest) parts.0, parts.1, parts.2)

-- the board of the names before the rest of the list, and what is still to read
pub record Reached (fields : List ℕ) (board : Board) (rest : List ℕ) : Type 0 where
  pub names : List (List ℕ)
  pub good : Good row_count names
  pub is : board ≡ board_of row_count names
  pub still : names_from row_count 0 names rest ≡ watch_names row_count fields

module _ {fields : List ℕ} {board : Board} {rest : List ℕ} (r : Reached fields board rest) where
  -- a field that is no name refuses the list
  pub reached_bad : 0 < length rest → None ≡ field_of rest → watch_names row_count fields ≡ none
  reached_bad more bad = sym r.still ∙ field_bad row_count r.names rest more bad

  -- the answer to the name that the rest begins with
  module _ {name behind : List ℕ} {watched : Watched} (field : Some (name, behind) ≡ field_of rest) (answered : watched ≡ watch_board row_count board name) where
    next : names_from row_count 0 r.names rest ≡ cond (may_join row_count r.names name) (names_from row_count 0 (r.names ++ (name ∷ [])) behind) none
    next = field_next name behind row_count r.names rest field

    of_names : watched ≡ watch_board row_count (board_of row_count r.names) name
    of_names = rw r.is at answered

    is_accepted : false ≡ is_err watched.answer → watched.answer ≡ Ok tt
    is_accepted accepted = cases watched.answer accepted
      where
        cases : (answer : Result Unit Refusal) → false ≡ is_err answer → answer ≡ Ok tt
        cases (Ok done) e = refl
        cases (Err refusal) e = impossible cc

    -- a name that is refused refuses the list too
    pub reached_refused : true ≡ is_err watched.answer → watch_names row_count fields ≡ none
    reached_refused refused = cases watched.answer refl refused
      where
        cases : (answer : Result Unit Refusal) → watched.answer ≡ answer → true ≡ is_err answer → watch_names row_count fields ≡ none
        cases (Ok done) e refused = impossible cc
        cases (Err refusal) e refused = sym r.still ∙ next ∙ rw (refused_stays r.names name refusal r.good (rw of_names at e))

    -- one that is accepted is the next of the names
    pub reached_next : false ≡ is_err watched.answer → Reached fields watched.board behind
    reached_next accepted =
        let joins = accepted_joins r.names name r.good (rw of_names at (is_accepted accepted)) in
        let joined = sym next ∙ r.still in
        record {
          names = r.names ++ (name ∷ []);
          good = good_more r.names name r.good joins;
          is = ap (λ (w : Watched). w.board) (of_names ∙ watch_more r.names name r.good joins);
          still = rw joins at joined;
        }

  -- at the end the board is that of the whole list
  pub reached_end : length rest ≡ 0 → accepted_with board ≡ as_watched row_count (watch_names row_count fields)
  unfolding names_from
  reached_end ended =
      let all : some r.names ≡ watch_names row_count fields = rw (nil_from_length rest ended) at r.still in
      rw (← all) (ap accepted_with r.is)
