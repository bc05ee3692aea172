-- What the readers of a packet answer, as the code's own types, from the list of its items.
use Rattle.std.specs.Prelude.{ℕ, ◌+◌, cond, List, [], ◌∷◌, eqb, length, take, drop, Some, None, Result, Ok, Err}
use Rattle.std.specs.declared.option.Option as rust
use Rattle.std.proofs.Math.Option.{Option, none, some}
use Rattle.packet.specs.Items.{Item, count_of}
use Rattle.refusals.specs.declared.Refusal.{Refusal}
use Rattle.packet.specs.Packet.{head_length, Packet, Judged, packet, refused, packet_of}
use Rattle.packet.specs.declared.reading.Head.{Head}
use Rattle.packet.specs.declared.reading.Look.{Look}
use Rattle.packet.specs.declared.items.Item as code

-- a packet's opcode and id
abbrev pub head_of_packet : Packet → Head
head_of_packet p = record { opcode = p.opcode; id = p.id }

-- the packet reader's answer: opcode and id, or the refusal
unfoldable pub reading_of : Judged → Result Head Refusal
reading_of (packet p) = Ok (head_of_packet p)
reading_of (refused r) = Err r

-- an item as the readers answer it, or that none was found
abbrev pub Found : Type 0
Found = rust.Option code.Item

-- an item whose type byte stands at the place at: its value starts two bytes on
unfoldable pub placed : ℕ → Item → code.Item
placed at item = record { kind = item.kind; start = at + 2; length = length item.value }

-- the place behind an item at the place at
unfoldable pub past : ℕ → Item → ℕ
past at item = at + (length item.value + 2)

unfoldable pub head_in : ℕ → List Item → Found
head_in at [] = None
head_in at (item ∷ items) = Some (placed at item)

-- the first item of the kind, in items that stand from the place at on
unfoldable pub find_in : ℕ → ℕ → List Item → Found
find_in at kind [] = None
find_in at kind (item ∷ items) = cond (eqb item.kind kind) (Some (placed at item)) (find_in (past at item) kind items)

-- the item right behind it
unfoldable pub behind_in : ℕ → ℕ → List Item → Found
behind_in at kind [] = None
behind_in at kind (item ∷ items) = cond (eqb item.kind kind) (head_in (past at item) items) (behind_in (past at item) kind items)

-- the item that an answer names, with its value read in the bytes
unfoldable pub item_at : List ℕ → Found → Option Item
item_at bytes (Some found) = some (record { kind = found.kind; value = take found.length (drop found.start bytes) })
item_at bytes None = none

-- one look at a packet for a kind: its opcode and id, how many items there are and how many of the kind, the first of these and
-- the item right behind it
abbrev pub look_at : ℕ → Packet → Look
look_at kind p =
    record {
      head = head_of_packet p;
      all = length p.items;
      count = count_of kind p.items;
      first = find_in head_length kind p.items;
      behind = behind_in head_length kind p.items;
    }

-- the same of a packet as it was judged, or the refusal
unfoldable pub look_by : ℕ → Judged → Result Look Refusal
look_by kind (packet p) = Ok (look_at kind p)
look_by kind (refused r) = Err r

abbrev pub look_of : ℕ → List ℕ → Result Look Refusal
look_of kind bytes = look_by kind (packet_of bytes)
