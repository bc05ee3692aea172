-- 01, Items and packets: a data packet is 01, opcode, request id (two bytes, high first), items. `packet_of` judges any bytes.
use Rattle.std.specs.Prelude.{ℕ, Bool, cond, ◌&&◌, List, [], ◌∷◌, ◌++◌, leb, eqb, length, get_or, drop}
use Rattle.std.proofs.Math.Option.{Option, none, some}
use Rattle.refusals.specs.Numbers.{no_data_packet, bad_items}
use Rattle.refusals.specs.declared.Refusal.{Refusal}
use Rattle.slices.specs.HighFirst.{pair_of, high_first}
use Rattle.packet.specs.Items.{Item, items_of, items_bytes}

-- a data packet's first byte
abbrev pub data_byte : ℕ
data_byte = 1

-- the bytes in front of a packet's items: 01, opcode, request id
abbrev pub head_length : ℕ
head_length = 4

pub record Packet : Type 0 where
  pub opcode : ℕ
  pub id : ℕ
  pub items : List Item

-- what reading gives: a packet, or the refusal
pub data Judged : Type 0 where
  packet : Packet → Judged
  refused : Refusal → Judged

-- 01, Refusal numbers, 9: a packet has under 4 bytes or its first byte is not 1
unfoldable pub is_data : List ℕ → Bool
is_data bytes = leb head_length (length bytes) && eqb (get_or bytes 0 0) data_byte

-- 01, Refusal numbers, 10, where there are no items to be read
unfoldable pub with_items : ℕ → ℕ → Option (List Item) → Judged
with_items opcode id none = refused bad_items
with_items opcode id (some items) = packet (record { opcode = opcode; id = id; items = items })

-- 01, Refusal numbers: 9, then 10, then opcode, id and items
unfoldable pub packet_of : List ℕ → Judged
packet_of bytes =
    cond (is_data bytes)
    (with_items (get_or bytes 1 0) (pair_of (get_or bytes 2 0) (get_or bytes 3 0)) (items_of (drop head_length bytes)))
    (refused no_data_packet)

-- the items of a packet, and no items where it is refused
unfoldable pub judged_items : Judged → List Item
judged_items (packet p) = p.items
judged_items (refused r) = []

unfoldable pub packet_items : List ℕ → List Item
packet_items bytes = judged_items (packet_of bytes)

-- a data packet as it is sent: its first four bytes in front of its items' bytes
abbrev pub with_head : ℕ → ℕ → List ℕ → List ℕ
with_head opcode id bytes = data_byte ∷ opcode ∷ high_first 2 id ++ bytes

unfoldable pub packet_bytes : Packet → List ℕ
packet_bytes p = with_head p.opcode p.id (items_bytes p.items)
