-- The item rule in 01's words, and what follows from it for any string of bytes. The bound in `items_up_to` plays no part, since
-- an item has at least two bytes.
use mathlib.Core.Path.{◌≡◌, refl, sym, ap, ◌∙◌}
use mathlib.Core.Bool.{Bool, true, false, cond, ◌&&◌}
use mathlib.Core.List.{List, [], ◌∷◌}
use mathlib.Core.Option.{Option, none, some}
use Prim.Native.Nat.{ℕ, zero, suc, ◌≤◌}
use native.Mathlib.Omega.{arith}
use lib.Dec.{leb}
use lib.ListN.{length, take, drop, length-drop, take-append-drop}
use lib.Seq.{length-take-le}
use borrow.Author.Tests.{leb-true}
use Rattle.slices.proofs.Impossible.{impossible}
use Rattle.packet.specs.Items.{Item, in_front, items_up_to, items_filling, empty_if_eof, eofs_empty, if_eofs_empty, items_of, item_bytes, items_bytes}

-- any bound of at least the number of bytes gives the same
enough : (f g : ℕ) (bytes : List ℕ) → length bytes ≤ f → length bytes ≤ g → items_up_to f bytes ≡ items_up_to g bytes
unfolding items_up_to
enough zero zero [] hf hg = refl
enough zero (suc g) [] hf hg = refl
enough (suc f) zero [] hf hg = refl
enough (suc f) (suc g) [] hf hg = refl
enough zero g (kind ∷ bytes) hf hg = absurd (omega arith)
enough (suc f) zero (kind ∷ bytes) hf hg = absurd (omega arith)
enough (suc f) (suc g) (kind ∷ []) hf hg = refl
enough (suc f) (suc g) (kind ∷ size ∷ rest) hf hg =
    let shorter : length (drop size rest) ≤ length rest = simp length-drop (omega arith) in
    rw (enough f g (drop size rest) (omega arith) (omega arith))

-- no bytes are no items
pub items_end : items_filling [] ≡ some []
unfolding items_filling items_up_to
items_end = refl

-- a type byte with no length byte is no item
pub items_cut : (kind : ℕ) → items_filling (kind ∷ []) ≡ none
unfolding items_filling items_up_to
items_cut kind = refl

-- 01, Items and packets: an item is a type byte, a length byte N and N value bytes; the rest, shorter by one whole item, is
-- read by the same rule
pub items_rule : (kind size : ℕ) (rest : List ℕ) → items_filling (kind ∷ size ∷ rest) ≡ cond (leb size (length rest)) (in_front (record { kind = kind; value = take size rest }) (items_filling (drop size rest))) none
unfolding items_filling items_up_to
items_rule kind size rest =
    let shorter : length (drop size rest) ≤ length rest = simp length-drop (omega arith) in
    rw (enough (suc (length rest)) (length (drop size rest)) (drop size rest) (omega arith) (omega arith))

never : (t : Bool) → ◌≡◌ {A = Option (List Item)} none (cond t none none)
never true = refl
never false = refl

both : (t u : Bool) (item : Item) (items : List Item) → cond (t && u) (some (item ∷ items)) none ≡ cond t (in_front item (cond u (some items) none)) none
unfolding in_front
both true true item items = refl
both true false item items = refl
both false u item items = refl

-- the test of EOF items goes item by item
eofs_rule : (item : Item) (read : Option (List Item)) → if_eofs_empty (in_front item read) ≡ cond (empty_if_eof item) (in_front item (if_eofs_empty read)) none
unfolding if_eofs_empty in_front eofs_empty
eofs_rule item none = never (empty_if_eof item)
eofs_rule item (some items) = both (empty_if_eof item) (eofs_empty items) item items

pub good_end : items_of [] ≡ some []
unfolding items_of if_eofs_empty eofs_empty
good_end = rw items_end

pub good_cut : (kind : ℕ) → items_of (kind ∷ []) ≡ none
unfolding items_of if_eofs_empty
good_cut kind = rw (items_cut kind)

outside : (t : Bool) (read : Option (List Item)) → if_eofs_empty (cond t read none) ≡ cond t (if_eofs_empty read) none
unfolding if_eofs_empty
outside true read = refl
outside false read = refl

-- the same rule with the EOF items tested: 01, Refusal numbers, 10
pub good_rule : (kind size : ℕ) (rest : List ℕ) →
    items_of (kind ∷ size ∷ rest)
    ≡ cond (leb size (length rest))
    (cond (empty_if_eof (record { kind = kind; value = take size rest })) (in_front (record { kind = kind; value = take size rest }) (items_of (drop size rest))) none)
    none
unfolding items_of
good_rule kind size rest =
    rw (items_rule kind size rest) (outside (leb size (length rest)) _ ∙ rw (eofs_rule (record { kind = kind; value = take size rest }) (items_filling (drop size rest))))

-- a test that let an answer through, and the answer
pub record Kept {A : Type 0} (t : Bool) (o : Option A) (a : A) : Type 0 where
  pub test : t ≡ true
  pub same : o ≡ some a

kept : {A : Type 0} (t : Bool) (o : Option A) (a : A) → cond t o none ≡ some a → Kept t o a
kept true o a e = record { test = refl; same = e }
kept false o a e = impossible cc

-- what stood behind the item that was put in front
record Behind (item : Item) (read : Option (List Item)) (items : List Item) : Type 0 where
  rest : List Item
  from : read ≡ some rest
  is : items ≡ item ∷ rest

behind : (item : Item) (read : Option (List Item)) (items : List Item) → in_front item read ≡ some items → Behind item read items
unfolding in_front
behind item none items e = impossible cc
behind item (some rest) items e = record { rest = rest; from = refl; is = cc }

fills_up_to : (most : ℕ) (bytes : List ℕ) (items : List Item) → items_up_to most bytes ≡ some items → items_bytes items ≡ bytes
unfolding items_up_to items_bytes item_bytes
fills_up_to zero [] items e = let i : items ≡ [] = cc in ap items_bytes i
fills_up_to zero (kind ∷ bytes) items e = impossible cc
fills_up_to (suc most) [] items e = let i : items ≡ [] = cc in ap items_bytes i
fills_up_to (suc most) (kind ∷ []) items e = impossible cc
fills_up_to (suc most) (kind ∷ size ∷ rest) items e =
    let item : Item = record { kind = kind; value = take size rest } in
    let whole = kept (leb size (length rest)) (in_front item (items_up_to most (drop size rest))) items e in
    let more = behind item (items_up_to most (drop size rest)) items whole.same in
    let fits : size ≤ length rest = leb-true size (length rest) whole.test in
    ap items_bytes more.is
    ∙ rw (length-take-le size rest fits, fills_up_to most (drop size rest) more.rest more.from, take-append-drop size rest)

-- 01, Refusal numbers, 10: the items fill the bytes exactly
pub items_fill : (bytes : List ℕ) (items : List Item) → items_of bytes ≡ some items → items_bytes items ≡ bytes
unfolding items_of items_filling if_eofs_empty
items_fill bytes items e = cases (items_up_to (length bytes) bytes) refl e
  where
    cases : (read : Option (List Item)) → items_up_to (length bytes) bytes ≡ read → if_eofs_empty read ≡ some items → items_bytes items ≡ bytes
    cases none r e = impossible cc
    cases (some found) r e =
        let k = kept (eofs_empty found) (some found) items e in
        let i : found ≡ items = cc in
        ap items_bytes (sym i) ∙ fills_up_to (length bytes) bytes found r
