-- What the request writers do, over plain lists: strings put one behind the other are the strings joined, and what fits is written.
use mathlib.Core.Path.{◌≡◌, refl, sym, ap, ◌∙◌}
use mathlib.Core.Bool.{true}
use mathlib.Core.List.{List, [], ◌∷◌, ◌++◌}
use Prim.Native.Nat.{ℕ, ◌+◌, ◌/◌, ◌%◌, ◌^◌, ◌≤◌, ◌<◌}
use native.Mathlib.Omega.{arith}
use lib.ListN.{length, length-append}
use Rattle.std.specs.Prelude.{Option, Some, None, Ok, Err}
use Rattle.refusals.specs.Numbers.{short_output}
use Rattle.std.specs.Int.{w32, to_be_bytes}
use Rattle.slices.specs.Put.{put_at}
use Rattle.slices.specs.Written.{written, fitted, WritesAs}
use Rattle.slices.proofs.WrittenLaws.{too_little_room, room_enough, refuses, writes}
use Rattle.slices.proofs.HighFirstLaws.{four_bytes}
use Rattle.slices.proofs.PutLaws.{put_append}
use Rattle.packet.specs.ItemTypes.{name_kind, location_kind, offset_kind}
use Rattle.packet.specs.Items.{item_bytes, items_bytes}
use Rattle.packet.specs.Packet.{with_head, packet_bytes}
use Rattle.packet.specs.Names.{valid_name, valid_location}
use Rattle.packet.specs.Requests.{get_opcode, file_opcode, fetched_opcode, stop_opcode, name_item, location_item, offset_item, offset_items, get_packet, file_packet, fetched_packet, stop_packet, property_get, file_request, fetched_request, stop_request}
use Rattle.packet.specs.WriterSteps.{request_bytes}

module _ (opcode id : ℕ) (front value further : List ℕ) where
  packet_length : length (with_head opcode id (front ++ value ++ further)) ≡ 4 + length front + length value + length further
  packet_length =
      let outer : length (front ++ value ++ further) ≡ length (front ++ value) + length further = length-append (front ++ value) further in
      let inner : length (front ++ value) ≡ length front + length value = length-append front value in
      omega arith

  -- too little room for the packet
  pub packet_short : (d : List ℕ) → length d < 4 + length front + length value + length further → WritesAs (fitted (length d) (with_head opcode id (front ++ value ++ further))) d (Err short_output) d
  packet_short d h = refuses _ short_output d (too_little_room (length d) (with_head opcode id (front ++ value ++ further)) _ packet_length h)

  -- the packet put part by part
  pub packet_put :
      (d d₁ d₂ d₃ d₄ : List ℕ)
      → 4 + length front + length value + length further ≤ length d
      → d₁ ≡ put_at d 0 (with_head opcode id [])
      → d₂ ≡ put_at d₁ 4 front
      → d₃ ≡ put_at d₂ (4 + length front) value
      → d₄ ≡ put_at d₃ (4 + length front + length value) further
      → WritesAs (fitted (length d) (with_head opcode id (front ++ value ++ further))) d (Ok (4 + length front + length value + length further)) d₄
  packet_put d d₁ d₂ d₃ d₄ h e₁ e₂ e₃ e₄ =
      let inner : length (front ++ value) ≡ length front + length value = length-append front value in
      let second : 0 + length (with_head opcode id front) ≡ 4 + length front = omega arith in
      let third : 0 + length (with_head opcode id (front ++ value)) ≡ 4 + length front + length value = omega arith in
      let p₂ : d₂ ≡ put_at d 0 (with_head opcode id front) = e₂ ∙ ap (λ (l : List ℕ). put_at l 4 front) e₁ ∙ put_append d 0 (with_head opcode id []) front in
      let p₃ : d₃ ≡ put_at d 0 (with_head opcode id (front ++ value)) = e₃ ∙ ap (λ (l : List ℕ). put_at l (4 + length front) value) p₂ ∙ rw (← second) (put_append d 0 (with_head opcode id front) value) in
      let p₄ : d₄ ≡ put_at d 0 (with_head opcode id (front ++ value ++ further)) = e₄ ∙ ap (λ (l : List ℕ). put_at l (4 + length front + length value) further) p₃ ∙ rw (← third) (put_append d 0 (with_head opcode id (front ++ value)) further) in
      writes _ (with_head opcode id (front ++ value ++ further)) d d₄ _ (room_enough (length d) (with_head opcode id (front ++ value ++ further)) _ packet_length h) (sym packet_length) p₄

-- the bytes of the four requests
module _ (id : ℕ) where
  pub get_bytes : (name : List ℕ) → packet_bytes (get_packet id name) ≡ request_bytes get_opcode id name_kind name []
  unfolding packet_bytes items_bytes item_bytes get_packet name_item
  get_bytes name = refl

  pub file_bytes : (location : List ℕ) → packet_bytes (file_packet id location None) ≡ request_bytes file_opcode id location_kind location []
  unfolding packet_bytes items_bytes item_bytes file_packet location_item offset_items
  file_bytes location = refl

  pub file_bytes_from : (location : List ℕ) (place : ℕ) → place < 2 ^ 32
      → packet_bytes (file_packet id location (Some place)) ≡ request_bytes file_opcode id location_kind location (offset_kind ∷ 4 ∷ to_be_bytes w32 place)
  unfolding packet_bytes items_bytes item_bytes file_packet location_item offset_item offset_items
  file_bytes_from location place fits =
      let first : place / 0x1000000 % 256 ≡ place / 0x1000000 = omega arith in
      rw (four_bytes place, first)

  pub fetched_bytes : (location : List ℕ) → packet_bytes (fetched_packet id location) ≡ request_bytes fetched_opcode id location_kind location []
  unfolding packet_bytes items_bytes item_bytes fetched_packet location_item
  fetched_bytes location = refl

  pub stop_bytes : packet_bytes (stop_packet id) ≡ with_head stop_opcode id []
  unfolding packet_bytes items_bytes stop_packet
  stop_bytes = refl

-- with room the packet is written
pub get_fits : (id : ℕ) (name : List ℕ) (room : ℕ) → valid_name name ≡ true → length (packet_bytes (get_packet id name)) ≤ room
    → property_get id name room ≡ written (packet_bytes (get_packet id name))
unfolding property_get
get_fits id name room valid h = rw valid (room_enough room (packet_bytes (get_packet id name)) _ refl h)

pub file_fits : (id : ℕ) (location : List ℕ) (offset : Option ℕ) (room : ℕ) → valid_location location ≡ true
    → length (packet_bytes (file_packet id location offset)) ≤ room → file_request id location offset room ≡ written (packet_bytes (file_packet id location offset))
unfolding file_request
file_fits id location offset room valid h = rw valid (room_enough room (packet_bytes (file_packet id location offset)) _ refl h)

pub fetched_fits : (id : ℕ) (location : List ℕ) (room : ℕ) → valid_location location ≡ true → length (packet_bytes (fetched_packet id location)) ≤ room
    → fetched_request id location room ≡ written (packet_bytes (fetched_packet id location))
unfolding fetched_request
fetched_fits id location room valid h = rw valid (room_enough room (packet_bytes (fetched_packet id location)) _ refl h)

pub stop_fits : (id room : ℕ) → length (packet_bytes (stop_packet id)) ≤ room → stop_request id room ≡ written (packet_bytes (stop_packet id))
unfolding stop_request
stop_fits id room h = room_enough room (packet_bytes (stop_packet id)) _ refl h
