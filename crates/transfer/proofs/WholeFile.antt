-- Theorem: after any list of calls on one transfer with the same file buffer, the first `next` bytes of the buffer are the
-- accepted fragments joined in order, whatever refused packets stand between, and the rest is as it was at first. Each
-- accepted fragment is put right behind those before it, and a refused packet changes nothing.
use mathlib.Core.Path.{◌≡◌, refl, ap, ◌∙◌}
use mathlib.Core.Bool.{Bool, true, false, cond}
use mathlib.Core.List.{List, [], ◌++◌, append-nil}
use Prim.Native.Nat.{ℕ, ◌+◌, ◌≤◌}
use native.Mathlib.Omega.{arith}
use lib.ListN.{length, take, drop, length-append}
use Rattle.std.specs.Prelude.{Some}
use Rattle.refusals.specs.Numbers.{bad_fragment}
use Rattle.slices.proofs.Impossible.{impossible}
use Rattle.slices.specs.Put.{put_at}
use Rattle.slices.proofs.PutLaws.{put_append, put_first, put_beyond, length_put}
use Rattle.packet.specs.ItemTypes.{binary_kind}
use Rattle.packet.specs.Items.{value_in}
use Rattle.packet.specs.Names.{valid_location}
use Rattle.packet.specs.Packet.{packet_of, packet_items}
use Rattle.transfer.specs.Fragment.{Declared}
use Rattle.transfer.specs.Transfer.{Verdict, accepted, refused, fresh_transfer, refused_with, start_of, outcome_by, file_by, verdict_for, Takes}
use Rattle.transfer.specs.Calls.{Held, accepted_bytes, started, left}
use Rattle.std.specs.Prelude.{Ok}
use Rattle.refusals.specs.declared.Refusal.{Refusal}
use Rattle.transfer.specs.declared.taking.Outcome.{Outcome}
use Rattle.transfer.proofs.FileCalls.{Starts, Calls, none, call, was_started, was_taken}
use Rattle.transfer.proofs.AcceptedLaws.{AcceptedBy, fragment_accepted, last_reaches}

-- what holds between the calls: the joined fragments lie at the start of the first buffer, next is their number, and a
-- completed transfer has the declared length
record Holds (first : List ℕ) (held : Held) : Type 0 where
  laid : held.file ≡ put_at first 0 held.joined
  counted : held.transfer.next ≡ length held.joined
  fits : length held.joined ≤ length first
  whole : (total : ℕ) → held.transfer.complete ≡ true → held.transfer.declared ≡ Some total → held.transfer.next ≡ total

-- one call keeps it
module _ (first : List ℕ) (held : Held) (holds : Holds first held) (bytes : List ℕ) where
  abbrev value : List ℕ
  value = value_in binary_kind (packet_items bytes)

  -- what the call leaves, by its verdict
  abbrev left_by : Verdict → Held
  left_by v = left held bytes (file_by held.file value v) (outcome_by held.transfer v)

  -- a refused packet adds nothing to what is joined
  same_joined : (r : Refusal) → (left_by (refused r)).joined ≡ held.joined
  unfolding outcome_by accepted_bytes
  same_joined r = append-nil held.joined

  refused_holds : (r : Refusal) → Holds first (left_by (refused r))
  unfolding outcome_by file_by
  refused_holds r =
      rw (same_joined r)
      record { laid = holds.laid; counted = holds.counted; fits = holds.fits; whole = holds.whole }

  accepted_holds : (offset next : ℕ) (declared : Declared) (last : Bool) → verdict_for held.transfer bytes held.file ≡ accepted offset next declared last → Holds first (left_by (accepted offset next declared last))
  unfolding outcome_by file_by accepted_bytes packet_items
  accepted_holds offset next declared last e =
      let by : AcceptedBy held.transfer (length held.file) (length value) offset next declared last = fragment_accepted offset next declared last held.transfer (length held.file) (packet_of bytes) e in
      let here : offset ≡ length held.joined = by.at_next ∙ holds.counted in
      let place : offset ≡ 0 + length held.joined = omega arith in
      let size : length (held.joined ++ value) ≡ length held.joined + length value = length-append held.joined value in
      let room : length held.file ≡ length first = ap length holds.laid ∙ length_put first 0 held.joined in
      let end : next ≡ offset + length value = by.grown in
      let inside : next ≤ length held.file = by.in_room in
      record {
        laid = ap (λ (file : List ℕ). put_at file offset value) holds.laid ∙ ap (λ (at : ℕ). put_at (put_at first 0 held.joined) at value) place ∙ put_append first 0 held.joined value;
        counted = omega arith;
        fits = omega arith;
        whole = λ total ended known. last_reaches total next (length held.file) (rw known at by.in_length) (rw (ended, known) at by.not_early);
      }

  call_holds : (after : List ℕ) (outcome : Outcome) → Takes held.transfer bytes held.file after outcome → Holds first (left held bytes after outcome)
  call_holds after outcome takes = rw (takes.answered, takes.written) (cases (verdict_for held.transfer bytes held.file) refl)
    where
      cases : (v : Verdict) → verdict_for held.transfer bytes held.file ≡ v → Holds first (left_by v)
      cases (refused r) e = refused_holds r
      cases (accepted offset next declared last) e = accepted_holds offset next declared last e

calls_hold : (first : List ℕ) (held end : Held) (packets : List (List ℕ)) → Holds first held → Calls held packets end → Holds first end
calls_hold first held end packets holds (none same) = holds
calls_hold first held end packets holds (call same last bytes after outcome more takes calls) =
    calls_hold first (left held bytes after outcome) end more (call_holds first held holds bytes after outcome (was_taken held takes)) calls

-- a transfer that has just been started, whether its location is valid or not
start_holds : (location file : List ℕ) → Holds file (started (start_of location) file)
unfolding start_of
start_holds location file = cases (valid_location location)
  where
    fresh : (bytes : List ℕ) → Holds file (record { transfer = fresh_transfer bytes; file = file; joined = [] })
    fresh bytes =
        record {
          laid = refl;
          counted = refl;
          fits = omega arith;
          whole = λ total ended known. impossible cc;
        }

    cases : (t : Bool) → Holds file (record { transfer = (cond t (record { transfer = fresh_transfer location; answer = Ok tt }) (refused_with (fresh_transfer []) bad_fragment)).transfer; file = file; joined = [] })
    cases true = fresh location
    cases false = fresh []

-- calls with any packets on a transfer of the file at a location, with a file buffer that nothing else touches
module _ (location file : List ℕ) (first : Outcome) (starts : Starts location first) (packets : List (List ℕ)) (end : Held) (calls : Calls (started first file) packets end) where
  holds_at_end : Holds file end
  holds_at_end = calls_hold file (started first file) end packets (rw (was_started starts) (start_holds location file)) calls

  -- 01, File fragments: the first "next" bytes are the fragments joined
  pub first_bytes_are_the_accepted_fragments_joined : take end.transfer.next end.file ≡ end.joined
  first_bytes_are_the_accepted_fragments_joined =
      let holds = holds_at_end in
      rw (holds.counted, holds.laid) (put_first file end.joined holds.fits)

  pub rest_of_the_buffer_is_as_it_was_at_first : drop end.transfer.next end.file ≡ drop end.transfer.next file
  rest_of_the_buffer_is_as_it_was_at_first =
      let holds = holds_at_end in
      let size : 0 + length end.joined ≤ end.transfer.next = omega (arith, holds.counted) in
      rw holds.laid (put_beyond file 0 end.joined end.transfer.next size)

  pub completed_file_has_the_declared_length : (total : ℕ) → end.transfer.complete ≡ true → end.transfer.declared ≡ Some total → end.transfer.next ≡ total
  completed_file_has_the_declared_length = holds_at_end.whole
