-- What an accepted fragment has passed: each test that could have refused it, read back from the verdict.
use mathlib.Core.Path.{◌≡◌, refl, sym, ap, ◌∙◌}
use mathlib.Core.Bool.{Bool, true, false, cond, not}
use mathlib.Core.List.{List}
use Prim.Native.Nat.{ℕ, ◌+◌, ◌≤◌}
use native.Mathlib.Omega.{arith}
use lib.Dec.{eqb, ltb}
use lib.ListN.{length}
use borrow.Author.Tests.{eqb-true, ltb-false, not-true}
use Rattle.std.specs.Prelude.{Some}
use Rattle.refusals.specs.declared.Refusal.{Refusal}
use Rattle.refusals.specs.Numbers.{other_opcode, other_location, wrong_offset, past_length, early_end}
use Rattle.slices.proofs.Impossible.{impossible}
use Rattle.slices.specs.Same.{same_bytes}
use Rattle.slices.proofs.TestLaws.{both, neither}
use Rattle.packet.specs.ItemTypes.{binary_kind, location_kind}
use Rattle.packet.specs.Items.{Item, value_in}
use Rattle.packet.specs.Packet as judged
use Rattle.packet.specs.Packet.{Judged, judged_items}
use Rattle.transfer.specs.Fragment.{Declared, Form, good, bad, form_of}
use Rattle.transfer.specs.Transfer.{fragment_opcode, Verdict, accepted, refused, location_of, known_length, passes_length, is_long, goes_on, ends_early, judge_end, judge_form, verdict_of}
use Rattle.transfer.specs.declared.state.Transfer.{Transfer}

-- an accepted fragment of the transfer: it stands at the next offset, ends within the buffer and the declared length, and is
-- the last only where it reaches that length
pub record AcceptedBy (transfer : Transfer) (room count offset next : ℕ) (declared : Declared) (last : Bool) : Type 0 where
  pub at_next : offset ≡ transfer.next
  pub not_complete : transfer.complete ≡ false
  pub grown : next ≡ offset + count
  pub in_room : next ≤ room
  pub in_length : passes_length declared next room ≡ false
  pub not_early : ends_early declared last next ≡ false

module _ (offset next : ℕ) (declared : Declared) (last : Bool) where
  abbrev Accepts : Verdict → Type 0
  Accepts v = v ≡ accepted offset next declared last

  record Past (t s : Bool) (v : Verdict) : Type 0 where
    test : t ≡ s
    on : Accepts v

  -- past a test that refuses where it fails, and past one that refuses where it holds
  kept : (t : Bool) (v : Verdict) (r : Refusal) → Accepts (cond t v (refused r)) → Past t true v
  kept true v r e = record { test = refl; on = e }
  kept false v r e = impossible cc

  passed : (t : Bool) (v : Verdict) (r : Refusal) → Accepts (cond t (refused r) v) → Past t false v
  passed true v r e = impossible cc
  passed false v r e = record { test = refl; on = e }

  module _ (transfer : Transfer) (room : ℕ) (items : List Item) where
    abbrev count : ℕ
    count = length (value_in binary_kind items)

    accepted_end : (at : ℕ) (length_known : Declared) (end : Bool) → at ≡ transfer.next → transfer.complete ≡ false → Accepts (judge_end room at count length_known end) → AcceptedBy transfer room count offset next declared last
    unfolding judge_end is_long
    accepted_end at length_known end is-next going e =
        let fits = passed (is_long room at count length_known) _ past_length e in
        let late = passed (ends_early length_known end (at + count)) _ early_end fits.on in
        let tests = neither (ltb room (at + count)) (passes_length length_known (at + count) room) fits.test in
        let o : at ≡ offset = cc late.on in
        let n : at + count ≡ next = cc late.on in
        let d : length_known ≡ declared = cc late.on in
        let l : end ≡ last = cc late.on in
        record {
          at_next = sym o ∙ is-next;
          not_complete = going;
          grown = sym n ∙ ap (λ (k : ℕ). k + count) o;
          in_room = rw n at (ltb-false room (at + count) tests.first);
          in_length = rw (n, d) at tests.second;
          not_early = rw (n, d, l) at late.test;
        }

    accepted_form : (form : Form) → Accepts (judge_form transfer room items form) → AcceptedBy transfer room count offset next declared last
    unfolding judge_form goes_on
    accepted_form bad e = impossible cc
    accepted_form (good at length_declared end) e =
        let ours = kept (same_bytes (value_in location_kind items) (location_of transfer)) _ other_location e in
        let going = kept (goes_on transfer at) _ wrong_offset ours.on in
        let tests = both (not transfer.complete) (eqb at transfer.next) going.test in
        accepted_end at (known_length length_declared transfer.declared) end (eqb-true at transfer.next tests.second) (not-true transfer.complete tests.first) going.on

  pub fragment_accepted : (transfer : Transfer) (room : ℕ) (j : Judged) → verdict_of transfer room j ≡ accepted offset next declared last → AcceptedBy transfer room (length (value_in binary_kind (judged_items j))) offset next declared last
  unfolding verdict_of judged_items
  fragment_accepted transfer room (judged.refused r) e = impossible cc
  fragment_accepted transfer room (judged.packet p) e = accepted_form transfer room p.items (form_of p.items) (kept (eqb p.opcode fragment_opcode) _ other_opcode e).on

-- a last fragment reaches the declared length exactly
pub last_reaches : (total next room : ℕ) → passes_length (Some total) next room ≡ false → ends_early (Some total) true next ≡ false → next ≡ total
unfolding passes_length ends_early
last_reaches total next room within late =
    let most : next ≤ total = ltb-false total next (neither (ltb total next) (ltb room total) within).first in
    let least : total ≤ next = ltb-false next total late in
    omega arith
