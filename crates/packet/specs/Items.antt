-- 01, Items and packets: what items a string of bytes holds, and how a caller picks among them.
-- `items_of` is the rule; `count_of`, `first_of`, `value_in` and `behind_of` are what callers ask of a list of items.
use Rattle.std.specs.Prelude.{ℕ, zero, suc, ◌+◌, Bool, true, cond, ◌&&◌, List, [], ◌∷◌, ◌++◌, leb, eqb, length, take, drop}
use Rattle.std.proofs.Math.Option.{Option, none, some}
use Rattle.packet.specs.ItemTypes.{eof_kind}

-- 01, Items and packets: an item is a type byte, a length byte N and N value bytes
pub record Item : Type 0 where
  pub kind : ℕ
  pub value : List ℕ

-- an item in front of the items of the rest, where these could be read
unfoldable pub in_front : Item → Option (List Item) → Option (List Item)
in_front item none = none
in_front item (some items) = some (item ∷ items)

-- 01, Items and packets: the rest, shorter by one whole item, is read by the same rule. Nothing is read of a type byte with
-- no length byte, nor of a value that is cut. `most` bounds the number of items.
unfoldable pub items_up_to : ℕ → List ℕ → Option (List Item)
items_up_to zero [] = some []
items_up_to zero (kind ∷ rest) = none
items_up_to (suc most) [] = some []
items_up_to (suc most) (kind ∷ []) = none
items_up_to (suc most) (kind ∷ size ∷ rest) =
    cond (leb size (length rest)) (in_front (record { kind = kind; value = take size rest }) (items_up_to most (drop size rest))) none

-- the items that fill the bytes exactly, or none where they do not: no string holds more items than bytes
unfoldable pub items_filling : List ℕ → Option (List Item)
items_filling bytes = items_up_to (length bytes) bytes

-- 01, Refusal numbers, 10: an item that is no EOF item (14), or an EOF item of length 0
unfoldable pub empty_if_eof : Item → Bool
empty_if_eof item = cond (eqb item.kind eof_kind) (eqb (length item.value) 0) true

-- each EOF item has length 0
unfoldable pub eofs_empty : List Item → Bool
eofs_empty [] = true
eofs_empty (item ∷ items) = empty_if_eof item && eofs_empty items

unfoldable pub if_eofs_empty : Option (List Item) → Option (List Item)
if_eofs_empty none = none
if_eofs_empty (some items) = cond (eofs_empty items) (some items) none

-- 01, Refusal numbers, 10: the items, or none where they do not fill the bytes exactly or an EOF item has a length other than 0
unfoldable pub items_of : List ℕ → Option (List Item)
items_of bytes = if_eofs_empty (items_filling bytes)

-- an item as it is sent: type byte, length byte, value
unfoldable pub item_bytes : Item → List ℕ
item_bytes item = item.kind ∷ length item.value ∷ item.value

unfoldable pub items_bytes : List Item → List ℕ
items_bytes [] = []
items_bytes (item ∷ items) = item_bytes item ++ items_bytes items

-- how many of the items are of the kind
unfoldable pub count_of : ℕ → List Item → ℕ
count_of kind [] = 0
count_of kind (item ∷ items) = cond (eqb item.kind kind) 1 0 + count_of kind items

unfoldable pub head_of : List Item → Option Item
head_of [] = none
head_of (item ∷ items) = some item

-- the first item of the kind
unfoldable pub first_of : ℕ → List Item → Option Item
first_of kind [] = none
first_of kind (item ∷ items) = cond (eqb item.kind kind) (some item) (first_of kind items)

-- the value of an item, no bytes where there is none
unfoldable pub value_bytes : Option Item → List ℕ
value_bytes none = []
value_bytes (some item) = item.value

-- the value of the first item of the kind
unfoldable pub value_in : ℕ → List Item → List ℕ
value_in kind items = value_bytes (first_of kind items)

-- 01, Items and packets: the item right behind it, the first item of the kind
unfoldable pub behind_of : ℕ → List Item → Option Item
behind_of kind [] = none
behind_of kind (item ∷ items) = cond (eqb item.kind kind) (head_of items) (behind_of kind items)
