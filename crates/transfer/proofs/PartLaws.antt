-- The laws of a packet's parts: their counts settle whether the items are right, and what is found of a kind has the value of the
-- first item of the kind.
use mathlib.Core.Path.{◌≡◌, refl, sym, ap, ◌∙◌}
use mathlib.Core.List.{List}
use Prim.Native.Nat.{ℕ}
use lib.Dec.{ltb}
use Rattle.packet.specs.ItemTypes.{binary_kind, offset_kind, length_kind, location_kind}
use Rattle.packet.specs.Items.{count_of, value_bytes, value_in}
use Rattle.packet.specs.Packet.{head_length, packet_items}
use Rattle.packet.specs.Answers.{Found, find_in, item_at}
use Rattle.packet.proofs.FoundLaws.{value_found}
use Rattle.transfer.specs.Fragment.{right_items, is_last}
use Rattle.transfer.specs.Steps.{parts_of, right_parts}
use Rattle.transfer.specs.declared.parts.Parts.{Parts}

-- the parts of a packet: what they say of its items
module _ (bytes : List ℕ) (parts : Parts) (same : parts ≡ parts_of bytes) where
  pub right_by_parts : right_parts parts ≡ right_items (packet_items bytes)
  unfolding right_parts right_items
  right_by_parts = rw same

  pub last_by_parts : ltb 0 parts.ends ≡ is_last (packet_items bytes)
  unfolding is_last
  last_by_parts = rw same

  pub lengths_by_parts : parts.lengths ≡ count_of length_kind (packet_items bytes)
  lengths_by_parts = rw same

  -- what is found of a kind has the value of the first item of the kind
  value_by : (place : Parts → Found) (kind : ℕ) → find_in head_length kind (packet_items bytes) ≡ place (parts_of bytes) → value_bytes (item_at bytes (place parts)) ≡ value_in kind (packet_items bytes)
  value_by place kind found = value_found bytes kind (place parts) (found ∙ ap place (sym same))

  pub location_value : value_bytes (item_at bytes parts.location) ≡ value_in location_kind (packet_items bytes)
  location_value = value_by (λ (p : Parts). p.location) location_kind refl

  pub offset_value : value_bytes (item_at bytes parts.offset) ≡ value_in offset_kind (packet_items bytes)
  offset_value = value_by (λ (p : Parts). p.offset) offset_kind refl

  pub binary_value : value_bytes (item_at bytes parts.binary) ≡ value_in binary_kind (packet_items bytes)
  binary_value = value_by (λ (p : Parts). p.binary) binary_kind refl

  pub length_value : value_bytes (item_at bytes parts.length) ≡ value_in length_kind (packet_items bytes)
  length_value = value_by (λ (p : Parts). p.length) length_kind refl

-- what the parts of a packet say, for the search
pub ruleset of_parts = (right_by_parts, last_by_parts, lengths_by_parts, location_value, offset_value, binary_value, length_value)
