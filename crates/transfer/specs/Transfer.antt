-- 01, File fragments: a transfer, how it starts and what a fragment packet does to it and to the lent file buffer.
use Rattle.std.specs.Prelude.{ℕ, ◌+◌, ◌≡◌, Bool, false, cond, not, ◌&&◌, ◌||◌, List, [], ltb, eqb, length, Some, None, Ok, Err}
use Rattle.refusals.specs.Numbers.{other_opcode, other_location, wrong_offset, past_length, early_end, bad_fragment}
use Rattle.refusals.specs.declared.Refusal.{Refusal}
use Rattle.slices.specs.FixedBytes.{fixed_of, shown}
use Rattle.slices.specs.Put.{put_at}
use Rattle.slices.specs.Same.{same_bytes}
use Rattle.packet.specs.ItemTypes.{binary_kind, location_kind}
use Rattle.packet.specs.Items.{Item, value_in}
use Rattle.packet.specs.Names.{longest_location, valid_location}
use Rattle.packet.specs.Packet as judged
use Rattle.packet.specs.Packet.{Judged, packet_of, packet_items}
use Rattle.transfer.specs.Fragment.{Declared, Form, good, bad, form_of}
use Rattle.transfer.specs.declared.state.Transfer.{Transfer}
use Rattle.transfer.specs.declared.taking.Outcome.{Outcome}

-- 01, File fragments (opcode 0b)
abbrev pub fragment_opcode : ℕ
fragment_opcode = 0x0b

-- 01, File fragments: a transfer is started with a location; next offset is 0, length unknown. Behind the location its
-- bytes are 0.
abbrev pub fresh_transfer : List ℕ → Transfer
fresh_transfer location =
    record {
      location = fixed_of longest_location location;
      next = 0;
      declared = None;
      complete = false;
    }

-- 01, Refusal numbers: a refusal returns its number, the transfer stays as it was
abbrev pub refused_with : Transfer → Refusal → Outcome
refused_with transfer r = record { transfer = transfer; answer = Err r }

-- 01, Refusal numbers, 20: a location has a bad form. There is no transfer yet, so a refused start gives one of the empty
-- location, which no fragment has.
unfoldable pub start_of : List ℕ → Outcome
start_of location =
    cond (valid_location location)
    (record { transfer = fresh_transfer location; answer = Ok tt })
    (refused_with (fresh_transfer []) bad_fragment)

-- the location of a transfer: as many of its location bytes as their length says
abbrev pub location_of : Transfer → List ℕ
location_of transfer = shown transfer.location

-- the length that is known once a fragment has come: the one that it declares, or else the transfer's
abbrev pub known_length : Declared → Declared → Declared
known_length None before = before
known_length (Some total) before = Some total

-- the declared length is passed by a fragment that ends at end, or passes the room of the lent buffer itself
unfoldable pub passes_length : Declared → ℕ → ℕ → Bool
passes_length None end room = false
passes_length (Some total) end room = ltb total end || ltb room total

-- 01, Refusal numbers, 19: EOF before the declared length
unfoldable pub ends_early : Declared → Bool → ℕ → Bool
ends_early None last end = false
ends_early (Some total) last end = last && ltb end total

-- 01, Refusal numbers, 18: the fragment or the declared length passes the declared length or the lent buffer. A fragment of
-- count bytes at offset ends at their sum.
unfoldable pub is_long : ℕ → ℕ → ℕ → Declared → Bool
is_long room offset count declared = ltb room (offset + count) || passes_length declared (offset + count) room

-- 01, Refusal numbers, 17: offset is not the next one, or the transfer is complete; otherwise the transfer goes on there
unfoldable pub goes_on : Transfer → ℕ → Bool
goes_on transfer offset = not transfer.complete && eqb offset transfer.next

-- what a packet is to a transfer: accepted, with the offset of its bytes and what the transfer's next offset, length and end are then, or
-- refused, and by which refusal
pub data Verdict : Type 0 where
  accepted : (offset next : ℕ) (declared : Declared) (last : Bool) → Verdict
  refused : Refusal → Verdict

-- 01, Refusal numbers: 18, then 19
unfoldable pub judge_end : ℕ → ℕ → ℕ → Declared → Bool → Verdict
judge_end room offset count declared last =
    cond (is_long room offset count declared)
    (refused past_length)
    (cond (ends_early declared last (offset + count)) (refused early_end) (accepted offset (offset + count) declared last))

-- 01, Refusal numbers: 20, 16, 17, 18, 19 for fragments. 16: a fragment of another location.
unfoldable pub judge_form : Transfer → ℕ → List Item → Form → Verdict
judge_form transfer room items bad = refused bad_fragment
judge_form transfer room items (good offset declared last) =
    cond (same_bytes (value_in location_kind items) (location_of transfer))
    (cond (goes_on transfer offset)
    (judge_end room offset (length (value_in binary_kind items)) (known_length declared transfer.declared) last)
    (refused wrong_offset))
    (refused other_location)

-- 01, Refusal numbers: for packets 9, 10, 11, then those for fragments
unfoldable pub verdict_of : Transfer → ℕ → Judged → Verdict
verdict_of transfer room (judged.refused refusal) = refused refusal
verdict_of transfer room (judged.packet p) =
    cond (eqb p.opcode fragment_opcode) (judge_form transfer room p.items (form_of p.items)) (refused other_opcode)

-- 01, File fragments: next grows by the number of the fragment's bytes; EOF completes it
abbrev pub advanced : Transfer → ℕ → Declared → Bool → Transfer
advanced transfer next declared last =
    record {
      location = transfer.location;
      next = next;
      declared = declared;
      complete = last;
    }

-- what becomes of the transfer, and the answer
unfoldable pub outcome_by : Transfer → Verdict → Outcome
outcome_by transfer (refused refusal) = refused_with transfer refusal
outcome_by transfer (accepted offset next declared last) =
    record { transfer = advanced transfer next declared last; answer = Ok tt }

-- 01, File fragments: an accepted fragment writes its bytes at its offset and no others
unfoldable pub file_by : List ℕ → List ℕ → Verdict → List ℕ
file_by file bytes (refused refusal) = file
file_by file bytes (accepted offset next declared last) = put_at file offset bytes

-- what a packet is to a transfer and a lent file buffer
abbrev pub verdict_for : Transfer → List ℕ → List ℕ → Verdict
verdict_for transfer bytes file = verdict_of transfer (length file) (packet_of bytes)

-- what `take` promises of its answer and of the file buffer before and after it
pub record Takes (transfer : Transfer) (bytes before after : List ℕ) (outcome : Outcome) : Type 0 where
  pub answered : outcome ≡ outcome_by transfer (verdict_for transfer bytes before)
  pub written : after ≡ file_by before (value_in binary_kind (packet_items bytes)) (verdict_for transfer bytes before)
