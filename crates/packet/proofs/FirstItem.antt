-- The item that bytes begin with, by the tests of the code: they tell the cases of the item rule apart.
use mathlib.Core.Path.{◌≡◌, refl, subst}
use mathlib.Core.Bool.{Bool, true, false, cond, ◌&&◌}
use mathlib.Core.List.{List, [], ◌∷◌}
use mathlib.Core.Option.{none}
use Prim.Native.Nat.{ℕ, suc, ◌+◌, ◌≤◌, ◌<◌}
use native.Mathlib.Omega.{arith}
use lib.Dec.{leb, eqb}
use lib.ListN.{length, get_or, take, drop, length-drop}
use lib.Seq.{length-take-le}
use borrow.Author.Tests.{le-leb, leb-true}
use Rattle.std.specs.Prelude.{Some, None}
use Rattle.slices.proofs.Impossible.{impossible}
use Rattle.slices.proofs.TestLaws.{Both, both}
use Rattle.packet.specs.ItemTypes.{eof_kind}
use Rattle.packet.specs.Items.{Item, in_front, empty_if_eof, items_of}
use Rattle.packet.specs.Answers.{placed, past}
use Rattle.packet.specs.ReaderSteps.{begins_with_item, item_from}
use Rattle.packet.specs.declared.items.Item as code
use Rattle.packet.proofs.ItemLaws.{good_cut, good_rule}

-- the item that bytes begin with
abbrev pub first_item : List ℕ → Item
first_item bytes = record { kind = get_or bytes 0 0; value = take (get_or bytes 1 0) (drop 2 bytes) }

-- the tests that bytes pass which begin with an item
abbrev two : List ℕ → Bool
two bytes = leb 2 (length bytes)

abbrev room : List ℕ → Bool
room bytes = leb (get_or bytes 1 0 + 2) (length bytes)

abbrev eof : List ℕ → Bool
eof bytes = cond (eqb (get_or bytes 0 0) eof_kind) (eqb (get_or bytes 1 0) 0) true

tests : (bytes : List ℕ) → begins_with_item bytes ≡ true → Both (room bytes) (eof bytes) true
unfolding begins_with_item
tests bytes h = both (room bytes) (eof bytes) (both (two bytes) (room bytes && eof bytes) h).second

-- bytes that begin with an item hold it whole
pub begins_room : (bytes : List ℕ) → begins_with_item bytes ≡ true → get_or bytes 1 0 + 2 ≤ length bytes
begins_room bytes h = leb-true (get_or bytes 1 0 + 2) (length bytes) (tests bytes h).first

-- the EOF test of an item that is whole
eof_test : (kind size : ℕ) (rest : List ℕ) → size ≤ length rest → empty_if_eof (record { kind = kind; value = take size rest }) ≡ cond (eqb kind eof_kind) (eqb size 0) true
unfolding empty_if_eof
eof_test kind size rest fits = rw (length-take-le size rest fits)

-- an item, and the items behind it
pub whole : (bytes : List ℕ) → begins_with_item bytes ≡ true → items_of bytes ≡ in_front (first_item bytes) (items_of (drop (get_or bytes 1 0 + 2) bytes))
unfolding begins_with_item
whole [] h = impossible cc
whole (kind ∷ []) h = impossible cc
whole (kind ∷ size ∷ rest) h =
    let room : size + 2 ≤ suc (suc (length rest)) = begins_room (kind ∷ size ∷ rest) h in
    let fits : size ≤ length rest = omega arith in
    let on : size + 2 ≡ suc (suc size) = omega arith in
    rw (good_rule kind size rest, le-leb size (length rest) fits, eof_test kind size rest fits, (tests (kind ∷ size ∷ rest) h).second, on)

-- neither the end nor an item: nothing is read
pub broken : (bytes : List ℕ) → 0 < length bytes → begins_with_item bytes ≡ false → items_of bytes ≡ none
unfolding begins_with_item
broken [] more h = absurd (omega arith)
broken (kind ∷ []) more h = good_cut kind
broken (kind ∷ size ∷ rest) more h = cases (leb size (length rest)) refl
  where
    cases : (t : Bool) → leb size (length rest) ≡ t → items_of (kind ∷ size ∷ rest) ≡ none
    cases false e = rw (good_rule kind size rest, e)
    cases true e =
        let fits : size ≤ length rest = leb-true _ _ e in
        let more : leb 2 (suc (suc (length rest))) ≡ true = le-leb 2 (suc (suc (length rest))) (omega arith) in
        let long : leb (size + 2) (suc (suc (length rest))) ≡ true = le-leb (size + 2) (suc (suc (length rest))) (omega arith) in
        let test : cond (eqb kind eof_kind) (eqb size 0) true ≡ false = rw (more, long) at h in
        rw (good_rule kind size rest, e, eof_test kind size rest fits, test)

-- the item that bytes begin with, as the reader finds it from the place at on
abbrev here : ℕ → List ℕ → code.Item
here at bytes = record { kind = get_or bytes 0 0; start = at + 2; length = get_or bytes 1 0 }

-- bytes that begin with an item
pub record Begins (at : ℕ) (bytes : List ℕ) (found : code.Item) : Type 0 where
  pub begins : begins_with_item bytes ≡ true
  pub starts : found.start ≡ at + 2
  pub sized : get_or bytes 1 0 ≡ found.length
  pub kinded : get_or bytes 0 0 ≡ found.kind
  pub is : placed at (first_item bytes) ≡ found
  pub passed : past at (first_item bytes) ≡ found.start + found.length

pub begins_with : (at : ℕ) (bytes : List ℕ) (found : code.Item) → item_from at bytes ≡ Some found → Begins at bytes found
unfolding item_from placed past
begins_with at bytes found e = cases (begins_with_item bytes) refl e
  where
    cases : (t : Bool) → begins_with_item bytes ≡ t → cond t (Some (here at bytes)) None ≡ Some found → Begins at bytes found
    cases false h e = impossible cc
    cases true h e =
        let room : get_or bytes 1 0 + 2 ≤ length bytes = begins_room bytes h in
        let fits : length (take (get_or bytes 1 0) (drop 2 bytes)) ≡ get_or bytes 1 0 = length-take-le (get_or bytes 1 0) (drop 2 bytes) (simp length-drop (omega arith)) in
        let same : here at bytes ≡ found = cc in
        subst (λ (f : code.Item). Begins at bytes f) same
        (record { begins = h; starts = refl; sized = refl; kinded = refl; is = rw fits; passed = rw fits (omega arith) })

pub begins_not : (at : ℕ) (bytes : List ℕ) → item_from at bytes ≡ None → begins_with_item bytes ≡ false
unfolding item_from
begins_not at bytes e = cases (begins_with_item bytes) refl e
  where
    cases : (t : Bool) → begins_with_item bytes ≡ t → cond t (Some (here at bytes)) None ≡ None → begins_with_item bytes ≡ false
    cases false h e = h
    cases true h e = impossible cc
