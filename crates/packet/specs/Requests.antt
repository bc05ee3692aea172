-- 01, Items and packets: the four requests, the packet of each, and what its writer makes of an output with so much room.
use Rattle.std.specs.Prelude.{ℕ, cond, List, [], ◌∷◌, Option, Some, None}
use Rattle.refusals.specs.Numbers.{bad_name, bad_fragment}
use Rattle.slices.specs.HighFirst.{high_first}
use Rattle.slices.specs.Written.{Output, refused, fitted}
use Rattle.packet.specs.ItemTypes.{name_kind, offset_kind, location_kind}
use Rattle.packet.specs.Items.{Item}
use Rattle.packet.specs.Packet.{Packet, packet_bytes}
use Rattle.packet.specs.Names.{valid_name, valid_location}

-- 01, Items and packets: the opcodes of the four requests
abbrev pub get_opcode : ℕ
get_opcode = 0x02

abbrev pub file_opcode : ℕ
file_opcode = 0x0a

abbrev pub fetched_opcode : ℕ
fetched_opcode = 0x0d

abbrev pub stop_opcode : ℕ
stop_opcode = 0x0e

-- 01, Items and packets: a Name, an Offset in four bytes, high byte first, a Location
unfoldable pub name_item : List ℕ → Item
name_item name = record { kind = name_kind; value = name }

unfoldable pub offset_item : ℕ → Item
offset_item offset = record { kind = offset_kind; value = high_first 4 offset }

unfoldable pub location_item : List ℕ → Item
location_item location = record { kind = location_kind; value = location }

-- an Offset item if one is wanted
unfoldable pub offset_items : Option ℕ → List Item
offset_items (Some offset) = offset_item offset ∷ []
offset_items None = []

-- property get (Name), file request (Location, then Offset if wanted), fetched (Location), stop (no items)
unfoldable pub get_packet : ℕ → List ℕ → Packet
get_packet id name = record { opcode = get_opcode; id = id; items = name_item name ∷ [] }

unfoldable pub file_packet : ℕ → List ℕ → Option ℕ → Packet
file_packet id location offset = record { opcode = file_opcode; id = id; items = location_item location ∷ offset_items offset }

unfoldable pub fetched_packet : ℕ → List ℕ → Packet
fetched_packet id location = record { opcode = fetched_opcode; id = id; items = location_item location ∷ [] }

unfoldable pub stop_packet : ℕ → Packet
stop_packet id = record { opcode = stop_opcode; id = id; items = [] }

-- 01, Refusal numbers: request writers check name or location (12, 20) before 7
unfoldable pub property_get : ℕ → List ℕ → ℕ → Output
property_get id name room = cond (valid_name name) (fitted room (packet_bytes (get_packet id name))) (refused bad_name)

unfoldable pub file_request : ℕ → List ℕ → Option ℕ → ℕ → Output
file_request id location offset room =
    cond (valid_location location) (fitted room (packet_bytes (file_packet id location offset))) (refused bad_fragment)

unfoldable pub fetched_request : ℕ → List ℕ → ℕ → Output
fetched_request id location room =
    cond (valid_location location) (fitted room (packet_bytes (fetched_packet id location))) (refused bad_fragment)

unfoldable pub stop_request : ℕ → ℕ → Output
stop_request id room = fitted room (packet_bytes (stop_packet id))
