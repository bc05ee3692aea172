-- What the steps of the receiver answer, as the code's own types. The proofs of `take` tie these to the definitions of Fragment and Transfer.
use Rattle.std.specs.Prelude.{ℕ, ◌+◌, Bool, ◌&&◌, List, leb, eqb, length, Some, None, Result, Ok, Err}
use Rattle.std.specs.declared.option.Option as rust
use Rattle.std.proofs.Math.Option.{Option, none, some}
use Rattle.packet.specs.ItemTypes.{binary_kind, offset_kind, length_kind, location_kind, eof_kind}
use Rattle.refusals.specs.declared.Refusal.{Refusal}
use Rattle.packet.specs.Items.{Item, count_of}
use Rattle.packet.specs.Packet as judged
use Rattle.packet.specs.Packet.{head_length, Judged, packet_items}
use Rattle.packet.specs.Answers.{Found, find_in, look_at}
use Rattle.packet.specs.declared.reading.Look.{Look}
use Rattle.transfer.specs.Fragment.{Form, good, bad}
use Rattle.transfer.specs.Transfer.{Verdict, accepted, refused}
use Rattle.transfer.specs.declared.parts.Parts.{Parts}
use Rattle.transfer.specs.declared.fragment.Fragment.{Fragment}
use Rattle.transfer.specs.declared.judging.Accepted as code

-- the parts of a packet with these items
abbrev pub parts_in : List Item → Parts
parts_in items =
    record {
      all = length items;
      locations = count_of location_kind items;
      offsets = count_of offset_kind items;
      binaries = count_of binary_kind items;
      lengths = count_of length_kind items;
      ends = count_of eof_kind items;
      location = find_in head_length location_kind items;
      offset = find_in head_length offset_kind items;
      binary = find_in head_length binary_kind items;
      length = find_in head_length length_kind items;
    }

abbrev pub parts_of : List ℕ → Parts
parts_of bytes = parts_in (packet_items bytes)

-- the parts that five looks tell of
abbrev pub parts_seen : (locations offsets binaries lengths ends : Look) → Parts
parts_seen locations offsets binaries lengths ends =
    record {
      all = locations.all;
      locations = locations.count;
      offsets = offsets.count;
      binaries = binaries.count;
      lengths = lengths.count;
      ends = ends.count;
      location = locations.first;
      offset = offsets.first;
      binary = binaries.first;
      length = lengths.first;
    }

-- those of a packet in which Locations have been looked for: one look for each other kind
unfoldable pub parts_with : Look → Judged → Result Parts Refusal
parts_with locations (judged.packet p) =
    Ok (parts_seen locations (look_at offset_kind p) (look_at binary_kind p) (look_at length_kind p) (look_at eof_kind p))
parts_with locations (judged.refused r) = Err r

-- the items are right by their counts: of the parts of a packet this is Fragment's `right_items`
unfoldable pub right_parts : Parts → Bool
right_parts parts =
    eqb parts.locations 1
    && eqb parts.offsets 1
    && eqb parts.binaries 1
    && leb parts.lengths 1
    && leb parts.ends 1
    && eqb parts.all (parts.lengths + parts.ends + 3)

-- what the bytes of an Offset or a Length say
abbrev pub as_number : Option ℕ → rust.Option ℕ
as_number (some n) = Some n
as_number none = None

-- the form of a packet's items
abbrev pub as_form : Form → rust.Option Fragment
as_form (good offset declared last) = Some (record { offset = offset; declared = declared; last = last })
as_form bad = None

-- the verdict on a packet, with the place of its Binary
abbrev pub as_verdict : Found → Verdict → Result code.Accepted Refusal
as_verdict binary (accepted offset next declared last) =
    Ok (record { binary = binary; offset = offset; next = next; declared = declared; last = last })
as_verdict binary (refused r) = Err r
