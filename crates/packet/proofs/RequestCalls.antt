-- Calls of the packet's readers and of the four request writers, by the contracts that the toolchain reads off the source (`Learnt`): what
-- they did, and that there are such calls, since the contracts ask nothing.
use mathlib.Core.Path.{◌≡◌, refl}
use mathlib.Core.Bool.{true}
use mathlib.Core.List.{List}
use Prim.Native.Nat.{ℕ, ◌≤◌}
use lib.ListN.{length}
use Rattle.std.specs.Prelude.{Option, Result, Ok}
use Rattle.slices.specs.Put.{put_at}
use Rattle.slices.specs.Written.{WritesAs}
use Rattle.refusals.specs.declared.Refusal.{Refusal}
use Rattle.slices.proofs.Lent.{Slice, lent, InCall, OutCall, InOutCall, in_call, out_call, in_out_call}
use Rattle.packet.specs.Items.{value_in}
use Rattle.packet.specs.Packet.{packet_of, packet_items, packet_bytes}
use Rattle.packet.specs.Names.{valid_name, valid_location}
use Rattle.packet.specs.Answers.{reading_of}
use Rattle.packet.specs.Requests.{get_packet, file_packet, fetched_packet, stop_packet, property_get, file_request, fetched_request, stop_request}
use Rattle.packet.specs.declared.reading.Head.{Head}
use Rattle.packet.proofs.WriteLaws.{get_fits, file_fits, fetched_fits, stop_fits}
use Rattle.packet.proofs.reading.read_packet.Reads as read_packet
use Rattle.packet.proofs.reading.count_all.Reads as count_all
use Rattle.packet.proofs.reading.value.Reads as value
use Rattle.packet.proofs.requests.property_get.Reads as property_get_call
use Rattle.packet.proofs.requests.file_request.Reads as file_request_call
use Rattle.packet.proofs.requests.fetched.Reads as fetched
use Rattle.packet.proofs.requests.stop.Reads as stop

abbrev pub ReadPacketCall : (bytes : List ℕ) (answer : Result Head Refusal) → Type 0
ReadPacketCall = InCall read_packet.Asked read_packet.Learnt (λ bytes. (bytes, tt))

abbrev pub CountAllCall : (bytes : List ℕ) (answer : ℕ) → Type 0
CountAllCall = InCall count_all.Asked count_all.Learnt (λ bytes. (bytes, tt))

abbrev pub ValueCall : (kind : ℕ) (bytes : List ℕ) (answer : Slice) → Type 0
ValueCall kind = InCall value.Asked value.Learnt (λ bytes. (bytes, (kind, tt)))

-- a writer is lent an output as it was before, and leaves it as it is after
abbrev pub PropertyGetCall : (id : ℕ) (name before : List ℕ) (answer : Result ℕ Refusal) (after : List ℕ) → Type 0
PropertyGetCall id = InOutCall property_get_call.Asked property_get_call.Learnt (λ name output. (id, (name, (output, tt))))

abbrev pub FileRequestCall : (id : ℕ) (location : List ℕ) (offset : Option ℕ) (before : List ℕ) (answer : Result ℕ Refusal) (after : List ℕ) → Type 0
FileRequestCall id location offset =
    InOutCall file_request_call.Asked file_request_call.Learnt (λ lent output. (id, (lent, (offset, (output, tt))))) location

abbrev pub FetchedCall : (id : ℕ) (location before : List ℕ) (answer : Result ℕ Refusal) (after : List ℕ) → Type 0
FetchedCall id = InOutCall fetched.Asked fetched.Learnt (λ location output. (id, (location, (output, tt))))

abbrev pub StopCall : (id : ℕ) (before : List ℕ) (answer : Result ℕ Refusal) (after : List ℕ) → Type 0
StopCall id = OutCall stop.Asked stop.Learnt (λ output. (id, (output, tt)))

-- what such calls did, by the contracts
pub packet_was_read : {bytes : List ℕ} {answer : Result Head Refusal} → ReadPacketCall bytes answer → answer ≡ reading_of (packet_of bytes)
packet_was_read c = rw c.input_lent.holds at c.learnt

pub items_were_counted : {bytes : List ℕ} {answer : ℕ} → CountAllCall bytes answer → answer ≡ length (packet_items bytes)
items_were_counted c = rw c.input_lent.holds at c.learnt

pub value_was_read : {kind : ℕ} {bytes : List ℕ} {answer : Slice} → ValueCall kind bytes answer → answer.now ≡ value_in kind (packet_items bytes)
value_was_read c = rw c.input_lent.holds at c.learnt

module _ {id : ℕ} {before : List ℕ} {answer : Result ℕ Refusal} {after : List ℕ} where
  pub get_was_written : {name : List ℕ} → PropertyGetCall id name before answer after → WritesAs (property_get id name (length before)) before answer after
  get_was_written c = rw (c.input_lent.holds, c.output_lent.holds, c.output_left.holds) at c.learnt

  pub file_was_written : {location : List ℕ} {offset : Option ℕ} → FileRequestCall id location offset before answer after
      → WritesAs (file_request id location offset (length before)) before answer after
  file_was_written c = rw (c.input_lent.holds, c.output_lent.holds, c.output_left.holds) at c.learnt

  pub fetched_was_written : {location : List ℕ} → FetchedCall id location before answer after
      → WritesAs (fetched_request id location (length before)) before answer after
  fetched_was_written c = rw (c.input_lent.holds, c.output_lent.holds, c.output_left.holds) at c.learnt

  pub stop_was_written : StopCall id before answer after → WritesAs (stop_request id (length before)) before answer after
  stop_was_written c = rw (c.output_lent.holds, c.output_left.holds) at c.learnt

-- there is a call of each reader for all bytes
pub all_bytes_are_read : (bytes : List ℕ) → ReadPacketCall bytes (reading_of (packet_of bytes))
all_bytes_are_read bytes = in_call tt refl

pub all_items_are_counted : (bytes : List ℕ) → CountAllCall bytes (length (packet_items bytes))
all_items_are_counted bytes = in_call tt refl

pub every_value_is_read : (kind : ℕ) (bytes : List ℕ) → ValueCall kind bytes (lent (value_in kind (packet_items bytes))).slice
every_value_is_read kind bytes = in_call tt refl

-- and one of each writer that writes its packet, for every valid name or location and every output with room
module _ (id : ℕ) (before : List ℕ) where
  pub every_get_is_written : (name : List ℕ) → valid_name name ≡ true → length (packet_bytes (get_packet id name)) ≤ length before
      → PropertyGetCall id name before (Ok (length (packet_bytes (get_packet id name)))) (put_at before 0 (packet_bytes (get_packet id name)))
  every_get_is_written name valid room =
      in_out_call tt (rw (get_fits id name (length before) valid room) (record { answers = refl; put = refl }))

  pub every_file_request_is_written : (location : List ℕ) (offset : Option ℕ) → valid_location location ≡ true
      → length (packet_bytes (file_packet id location offset)) ≤ length before
      → FileRequestCall id location offset before (Ok (length (packet_bytes (file_packet id location offset)))) (put_at before 0 (packet_bytes (file_packet id location offset)))
  every_file_request_is_written location offset valid room =
      in_out_call tt (rw (file_fits id location offset (length before) valid room) (record { answers = refl; put = refl }))

  pub every_fetched_is_written : (location : List ℕ) → valid_location location ≡ true → length (packet_bytes (fetched_packet id location)) ≤ length before
      → FetchedCall id location before (Ok (length (packet_bytes (fetched_packet id location)))) (put_at before 0 (packet_bytes (fetched_packet id location)))
  every_fetched_is_written location valid room =
      in_out_call tt (rw (fetched_fits id location (length before) valid room) (record { answers = refl; put = refl }))

  pub every_stop_is_written : length (packet_bytes (stop_packet id)) ≤ length before
      → StopCall id before (Ok (length (packet_bytes (stop_packet id)))) (put_at before 0 (packet_bytes (stop_packet id)))
  every_stop_is_written room = out_call tt (rw (stop_fits id (length before) room) (record { answers = refl; put = refl }))
