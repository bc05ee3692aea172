-- Calls on one transfer, each given what the last one left, with the contracts that the toolchain reads off the source (`Learnt`): a
-- contract that says less breaks what is built on this. They exist for every list of packets, since the contracts ask nothing.
use mathlib.Core.Path.{◌≡◌, refl}
use mathlib.Core.List.{List, [], ◌∷◌}
use Prim.Native.Nat.{ℕ}
use Rattle.slices.proofs.Lent.{InCall, InOutCall, in_call, in_out_call}
use Rattle.packet.specs.ItemTypes.{binary_kind}
use Rattle.packet.specs.Items.{value_in}
use Rattle.packet.specs.Packet.{packet_items}
use Rattle.transfer.specs.Transfer.{start_of, outcome_by, file_by, verdict_for, Takes}
use Rattle.transfer.specs.Calls.{Held, left}
use Rattle.transfer.specs.declared.taking.Outcome.{Outcome}
use Rattle.transfer.proofs.taking.start.Reads as start
use Rattle.transfer.proofs.taking.take.Reads as take

-- one call of `start`
abbrev pub Starts : (location : List ℕ) (outcome : Outcome) → Type 0
Starts = InCall start.Asked start.Learnt (λ location. (location, tt))

-- one call of `take`: the file buffer is lent as the last call left it
abbrev pub TakesPacket : (held : Held) (bytes after : List ℕ) (outcome : Outcome) → Type 0
TakesPacket held bytes after outcome =
    InOutCall take.Asked take.Learnt (λ packet file. (held.transfer, (packet, (file, tt)))) bytes held.file outcome after

-- a list of packets, each given to a call, and what the last call leaves
pub data Calls : Held → List (List ℕ) → Held → Type 0 where
  none : (held : Held) → Calls held [] held
  call :
      (held end : Held) (bytes after : List ℕ) (outcome : Outcome) (packets : List (List ℕ))
      → TakesPacket held bytes after outcome
      → Calls (left held bytes after outcome) packets end
      → Calls held (bytes ∷ packets) end

-- what such calls did, by the contracts
pub was_started : {location : List ℕ} {outcome : Outcome} → Starts location outcome → outcome ≡ start_of location
was_started s = rw s.input_lent.holds at s.learnt

pub was_taken : (held : Held) {bytes after : List ℕ} {outcome : Outcome} → TakesPacket held bytes after outcome
    → Takes held.transfer bytes held.file after outcome
was_taken held t = rw (t.input_lent.holds, t.output_lent.holds, t.output_left.holds) at t.learnt

pub every_location_is_answered : (location : List ℕ) → Starts location (start_of location)
every_location_is_answered location = in_call tt refl

pub record Answered (held : Held) (packets : List (List ℕ)) : Type 0 where
  pub end : Held
  pub calls : Calls held packets end

pub every_list_is_answered : (packets : List (List ℕ)) (held : Held) → Answered held packets
every_list_is_answered [] held = record { end = held; calls = none held }
every_list_is_answered (bytes ∷ packets) held =
    let verdict = verdict_for held.transfer bytes held.file in
    let outcome : Outcome = outcome_by held.transfer verdict in
    let after : List ℕ = file_by held.file (value_in binary_kind (packet_items bytes)) verdict in
    let rest = every_list_is_answered packets (left held bytes after outcome) in
    let first : TakesPacket held bytes after outcome = in_out_call tt (record { answered = refl; written = refl }) in
    record { end = rest.end; calls = call held rest.end bytes after outcome packets first rest.calls }
