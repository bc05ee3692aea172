-- What the packet reader answered settles the verdict or leaves it to the form, and the verdict settles what becomes of the transfer and
-- the file buffer.
use mathlib.Core.Path.{◌≡◌, sym, ap, ◌∙◌}
use mathlib.Core.List.{List}
use Prim.Native.Nat.{ℕ}
use borrow.Author.Tests.{eq-eqb, ne_eqb}
use Rattle.refusals.specs.Numbers.{other_opcode}
use Rattle.std.specs.Prelude.{Ok, Err}
use Rattle.refusals.specs.declared.Refusal.{Refusal}
use Rattle.slices.proofs.Impossible.{impossible}
use Rattle.slices.specs.Put.{put_at}
use Rattle.packet.specs.ItemTypes.{binary_kind, offset_kind, length_kind, location_kind, eof_kind}
use Rattle.packet.specs.Items.{value_bytes}
use Rattle.packet.specs.Packet as judged
use Rattle.packet.specs.Packet.{Judged, judged_items, packet_items}
use Rattle.packet.specs.Answers.{item_at}
use Rattle.packet.proofs.FoundLaws.{value_found}
use Rattle.packet.specs.Answers.{look_at, look_by}
use Rattle.packet.specs.declared.reading.Look.{Look}
use Rattle.transfer.specs.Fragment.{form_of}
use Rattle.transfer.specs.Transfer.{fragment_opcode, refused, refused_with, judge_form, verdict_of, advanced, outcome_by, file_by, verdict_for, Takes}
use Rattle.transfer.specs.declared.state.Transfer.{Transfer}
use Rattle.transfer.specs.Steps.{parts_in, parts_of, parts_seen, parts_with, as_verdict}
use Rattle.transfer.specs.declared.parts.Parts.{Parts}
use Rattle.transfer.specs.declared.judging.Accepted as code
use Rattle.transfer.proofs.StepLaws.{verdict_told, binary_told}

-- what a look for Locations, and the looks behind it, answered
module _ (transfer : Transfer) (room : ℕ) where
  pub verdict_refused : (j : Judged) (r : Refusal) → look_by location_kind j ≡ Err r → verdict_of transfer room j ≡ refused r
  unfolding look_by verdict_of
  verdict_refused (judged.packet p) r e = impossible cc
  verdict_refused (judged.refused found) r e = let same : found ≡ r = cc in rw same

  pub verdict_other : (j : Judged) (locations : Look) → look_by location_kind j ≡ Ok locations → (locations.head.opcode ≡ fragment_opcode → ⊥)
      → verdict_of transfer room j ≡ refused other_opcode
  unfolding look_by verdict_of
  verdict_other (judged.packet p) locations e isn't =
      let same : look_at location_kind p ≡ locations = cc in
      rw (ne_eqb p.opcode fragment_opcode (λ is. isn't (ap (λ (l : Look). l.head.opcode) (sym same) ∙ is)))
  verdict_other (judged.refused found) locations e isn't = impossible cc

  pub verdict_fragment : (j : Judged) (locations : Look) → look_by location_kind j ≡ Ok locations → locations.head.opcode ≡ fragment_opcode
      → verdict_of transfer room j ≡ judge_form transfer room (judged_items j) (form_of (judged_items j))
  unfolding look_by verdict_of judged_items
  verdict_fragment (judged.packet p) locations e is =
      let same : look_at location_kind p ≡ locations = cc in
      rw (eq-eqb p.opcode fragment_opcode (ap (λ (l : Look). l.head.opcode) same ∙ is))
  verdict_fragment (judged.refused found) locations e is = impossible cc

-- the looks for the other kinds
module _ (locations : Look) (j : Judged) where
  pub parts_refused : (kind : ℕ) (r : Refusal) → Err r ≡ look_by kind j → Err r ≡ parts_with locations j
  unfolding look_by parts_with
  parts_refused kind r e = cases j e
    where
      cases : (j : Judged) → Err r ≡ look_by kind j → Err r ≡ parts_with locations j
      cases (judged.packet p) e = impossible cc
      cases (judged.refused found) e = let same : r ≡ found = cc in rw same

  pub looks_seen : (offsets binaries lengths ends : Look) → Ok offsets ≡ look_by offset_kind j → Ok binaries ≡ look_by binary_kind j
      → Ok lengths ≡ look_by length_kind j → Ok ends ≡ look_by eof_kind j
      → Ok (parts_seen locations offsets binaries lengths ends) ≡ parts_with locations j
  unfolding look_by parts_with
  looks_seen offsets binaries lengths ends o b l e = cases j o b l e
    where
      cases : (j : Judged) → Ok offsets ≡ look_by offset_kind j → Ok binaries ≡ look_by binary_kind j
          → Ok lengths ≡ look_by length_kind j → Ok ends ≡ look_by eof_kind j
          → Ok (parts_seen locations offsets binaries lengths ends) ≡ parts_with locations j
      cases (judged.packet p) o b l e =
          let o' : offsets ≡ look_at offset_kind p = cc in
          let b' : binaries ≡ look_at binary_kind p = cc in
          let l' : lengths ≡ look_at length_kind p = cc in
          let e' : ends ≡ look_at eof_kind p = cc in
          rw (o', b', l', e')
      cases (judged.refused found) o b l e = impossible cc

-- a packet that one look reads is not refused by another, and its parts are those of its items
pub parts_never : (j : Judged) (locations : Look) (r : Refusal) → look_by location_kind j ≡ Ok locations → parts_with locations j ≡ Err r → ⊥
unfolding look_by parts_with
parts_never (judged.packet p) locations r e f = cc
parts_never (judged.refused found) locations r e f = cc

pub parts_found : (j : Judged) (locations : Look) (parts : Parts) → look_by location_kind j ≡ Ok locations → parts_with locations j ≡ Ok parts
    → parts ≡ parts_in (judged_items j)
unfolding look_by parts_with judged_items
parts_found (judged.packet p) locations parts e f =
    let same : look_at location_kind p ≡ locations = cc in
    let rest : Look → Parts = λ l. parts_seen l (look_at offset_kind p) (look_at binary_kind p) (look_at length_kind p) (look_at eof_kind p) in
    let found : rest locations ≡ parts = cc in
    sym found ∙ ap rest (sym same)
parts_found (judged.refused found) locations parts e f = impossible cc

-- for the search
pub ruleset read = (verdict_refused, verdict_other, verdict_fragment, parts_never, parts_found)

-- a refusal changes nothing; an accepted fragment is written at its offset
module _ (transfer : Transfer) (bytes file : List ℕ) where
  pub takes_nothing : (r : Refusal) → verdict_for transfer bytes file ≡ refused r → Takes transfer bytes file file (refused_with transfer r)
  unfolding outcome_by file_by
  takes_nothing r e = record { answered = rw e; written = rw e }

  -- `fragment` is what the code says of the accepted one
  pub takes_fragment :
      (value after : List ℕ) (fragment : code.Accepted)
      → Ok fragment ≡ as_verdict (parts_of bytes).binary (verdict_for transfer bytes file)
      → value ≡ value_bytes (item_at bytes fragment.binary)
      → after ≡ put_at file fragment.offset value
      → Takes transfer bytes file after (record { transfer = advanced transfer fragment.next fragment.declared fragment.last; answer = Ok tt })
  unfolding outcome_by file_by
  takes_fragment value after fragment e found put =
      let verdict = verdict_for transfer bytes file in
      let told = verdict_told (parts_of bytes).binary verdict (Ok fragment) e in
      let place = binary_told (parts_of bytes).binary verdict fragment e in
      let is = found ∙ value_found bytes binary_kind fragment.binary (sym place) in
      record { answered = rw told; written = rw (told, ← is) put }
