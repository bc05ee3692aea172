-- A frame at its closing flag, one law for each way through the code: what the tests on the way say of it settles the outcome.
-- Nine bytes are room for its acknowledgement, of which at most three are escaped.
use Rattle.std.proofs.Common.{◌≡◌, ℕ, Option, Some, None, Result, Ok, Err, ◌+◌, ◌-◌, ◌/◌, ◌%◌, ◌≤◌, Bool, true, false, cond, eqb, List, [], ◌∷◌, length, take, drop, refl, ap, ◌∙◌, arith, eq-eqb, ne_eqb}
use Rattle.std.specs.Result.{result_unwrap_or}
use Rattle.refusals.specs.Numbers.{unknown_type, loaded_acknowledgement}
use Rattle.refusals.specs.declared.Refusal.{Refusal}
use Rattle.slices.specs.Each.{each}
use Rattle.slices.specs.Put.{put_at}
use Rattle.slices.specs.Written.{written, WritesAs}
use Rattle.crc.specs.Crc.{link_start, crc_of}
use Rattle.frame.specs.Stuffing.{stuff}
use Rattle.frame.specs.Content.{data_type, acknowledgement_type, Read, frame, refused, no_place, content_of, judged}
use Rattle.frame.specs.Answers.{read_answer, frame_found, fault_at}
use Rattle.frame.specs.Writing.{write_frame}
use Rattle.frame.proofs.StuffLaws.{length_stuff}
use Rattle.frame.proofs.ContentLaws.{answer_refused, answer_frame, payload_part, length_payload}
use Rattle.frame.proofs.WriteLaws.{length_framed, content_room, payload_allowed}
use Rattle.link.specs.declared.counts.Counts.{Counts}
use Rattle.link.specs.declared.counts.Event.TheVariants as event
use Rattle.link.specs.declared.receiver.Answer.TheVariants as says
use Rattle.link.specs.declared.closing.Closed.{Closed}
use Rattle.frame.specs.declared.content.Fault.{Fault}
use Rattle.link.specs.Counts.{count_of}
use Rattle.link.specs.Closing.{reply_room, acknowledgement, repeats, Outcome, refused_frame, acknowledgement_frame, again_frame, new_frame, data_frame, read_outcome, frame_outcome, close_of}
use Rattle.link.specs.Steps.{closed_by, ClosesAs, AcknowledgesAs}

-- of an acknowledgement's four bytes of content the type is not escaped
stuffed_acknowledgement : (q h l : ℕ) → length (stuff (acknowledgement_type ∷ q ∷ h ∷ l ∷ [])) ≤ 7
unfolding each
stuffed_acknowledgement q h l =
    let three = length_stuff (q ∷ h ∷ l ∷ []) in
    omega (arith, three)

-- 01, The receiver: nine bytes are room enough for any acknowledgement
pub acknowledgement_fits : (q : ℕ) → length (acknowledgement q) ≤ reply_room
unfolding acknowledgement content_of
acknowledgement_fits q =
    let size = length_framed (content_of acknowledgement_type q []) in
    let check = crc_of link_start (acknowledgement_type ∷ q ∷ []) in
    let short = stuffed_acknowledgement q (check / 0x100) (check % 0x100) in
    omega (arith, size, short)

acknowledgement_written : (room q : ℕ) → reply_room ≤ room → write_frame room acknowledgement_type q [] ≡ written (acknowledgement q)
unfolding acknowledgement
acknowledgement_written room q h =
    let fits = acknowledgement_fits q in
    payload_allowed room acknowledgement_type q [] (omega arith)
    ∙ content_room room (content_of acknowledgement_type q []) _ refl (omega (arith, fits))

-- so the writer writes it whole
pub acknowledged : (q : ℕ) (reply : List ℕ) (answer : Result ℕ Refusal) (exit : List ℕ) → reply_room ≤ length reply
    → WritesAs (write_frame (length reply) acknowledgement_type q []) reply answer exit → AcknowledgesAs q reply (result_unwrap_or answer 0) exit
acknowledged q reply answer exit h w =
    let w' = rw (acknowledgement_written (length reply) q h) at w in
    record { answers = rw w'.answers; replied = w'.put }

-- a data frame, by whether it came again
module _ (q : ℕ) (payload : List ℕ) (previous : Option ℕ) (before : Counts) (size : ℕ) (reply packet reply₁ packet₁ : List ℕ)
    (told : AcknowledgesAs q reply size reply₁) where
  pub closes_again : repeats previous q ≡ true
      → ClosesAs (data_frame q payload previous before) reply packet
      (record { state = record { last = previous; counts = count_of event.Again before }; answer = says.Again size }) reply₁ packet
  unfolding data_frame
  closes_again e = rw (e, told.answers) (record { answers = refl; replied = told.replied; handed_out = refl })

  pub closes_new : repeats previous q ≡ false → packet₁ ≡ put_at packet 0 payload
      → ClosesAs (data_frame q payload previous before) reply packet
      (record { state = record { last = Some q; counts = count_of event.New before }; answer = says.New size (length payload) }) reply₁ packet₁
  unfolding data_frame
  closes_new e put = rw (e, told.answers) (record { answers = refl; replied = told.replied; handed_out = put })

-- a frame that is refused puts nothing
pub refuses : (o : Outcome) (n : Refusal) (place : ℕ) (previous : Option ℕ) (before : Counts) (result : Closed) (reply packet : List ℕ)
    → o ≡ refused_frame n place previous before → result ≡ closed_by (refused_frame n place previous before) → ClosesAs o reply packet result reply packet
refuses o n place previous before result reply packet e told = rw e (record { answers = told; replied = refl; handed_out = refl })

-- an acknowledgement that came in puts nothing
pub heard : (q size : ℕ) (previous : Option ℕ) (before : Counts) (reply packet : List ℕ)
    → ClosesAs (acknowledgement_frame q size previous before) reply packet (closed_by (acknowledgement_frame q size previous before)) reply packet
heard q size previous before reply packet = cases (eqb size 0) refl
  where
    cases : (t : Bool) → eqb size 0 ≡ t
        → ClosesAs (acknowledgement_frame q size previous before) reply packet (closed_by (acknowledgement_frame q size previous before)) reply packet
    cases true e = rw e (record { answers = refl; replied = refl; handed_out = refl })
    cases false e = rw e (record { answers = refl; replied = refl; handed_out = refl })

-- the payload of whole content stands within it
pub payload_ends : (c : List ℕ) (kind q n : ℕ) → Ok (frame_found kind q n) ≡ read_answer (judged c) → n + 2 ≤ length c
payload_ends c kind q n e = let found = answer_frame c kind q n e in omega (arith, found.whole, found.size)

-- whole content, by what it was judged to be and by its type
module _ (c : List ℕ) (previous : Option ℕ) (before : Counts) (reply packet : List ℕ) (result : Closed) where
  pub closes_refused : (n : Refusal) (place : ℕ) → Err (fault_at n place) ≡ read_answer (judged c) → result ≡ closed_by (refused_frame n place previous before)
      → ClosesAs (frame_outcome c previous before) reply packet result reply packet
  unfolding frame_outcome
  closes_refused n place e told =
      refuses _ n place previous before result reply packet (ap (λ (found : Read). read_outcome found previous before) (answer_refused (judged c) n place e)) told

  module _ (kind q n : ℕ) (e : Ok (frame_found kind q n) ≡ read_answer (judged c)) where
    pub closes_data : (reply₁ packet₁ : List ℕ) → kind ≡ data_type
        → ClosesAs (data_frame q (take (n + 2 - 2) (drop 2 c)) previous before) reply packet result reply₁ packet₁
        → ClosesAs (frame_outcome c previous before) reply packet result reply₁ packet₁
    unfolding frame_outcome
    closes_data reply₁ packet₁ is did =
        let found = answer_frame c kind q n e in
        rw (found.found, eq-eqb kind data_type is, ← payload_part c n found.whole found.size) did

    pub closes_heard : kind ≡ acknowledgement_type → result ≡ closed_by (acknowledgement_frame q n previous before)
        → ClosesAs (frame_outcome c previous before) reply packet result reply packet
    unfolding frame_outcome
    closes_heard is told =
        let found = answer_frame c kind q n e in
        rw (found.found, is, length_payload c, ← found.size, told) (heard q n previous before reply packet)

    pub closes_unknown : (kind ≡ data_type → ⊥) → (kind ≡ acknowledgement_type → ⊥) → result ≡ closed_by (refused_frame unknown_type no_place previous before)
        → ClosesAs (frame_outcome c previous before) reply packet result reply packet
    unfolding frame_outcome
    closes_unknown other neither told =
        let found = answer_frame c kind q n e in
        refuses _ unknown_type no_place previous before result reply packet
        (rw (found.found, ne_eqb kind data_type other, ne_eqb kind acknowledgement_type neither)) told

-- nine bytes are room enough for the reply to any frame
data_reply : (q : ℕ) (payload : List ℕ) (previous : Option ℕ) (before : Counts) → length (data_frame q payload previous before).reply ≤ reply_room
unfolding data_frame
data_reply q payload previous before = cases (repeats previous q)
  where
    cases : (t : Bool) → length (cond t (again_frame q previous before) (new_frame q payload before)).reply ≤ reply_room
    cases true = acknowledgement_fits q
    cases false = acknowledgement_fits q

read_reply : (found : Read) (previous : Option ℕ) (before : Counts) → length (read_outcome found previous before).reply ≤ reply_room
read_reply (refused n place) previous before = omega arith
read_reply (frame kind q payload) previous before = cases (eqb kind data_type) (eqb kind acknowledgement_type) (eqb (length payload) 0)
  where
    cases : (t u v : Bool)
        → length
        (cond t (data_frame q payload previous before)
        (cond u
        (cond v (record { last = previous; counts = count_of event.Heard before; answer = says.Heard q; reply = []; packet = [] })
        (refused_frame loaded_acknowledgement no_place previous before))
        (refused_frame unknown_type no_place previous before))).reply
        ≤ reply_room
    cases true u v = data_reply q payload previous before
    cases false true true = omega arith
    cases false true false = omega arith
    cases false false v = omega arith

pub close_reply : (end : Result (Option ℕ) Fault) (array : List ℕ) (previous : Option ℕ) (before : Counts)
    → length (close_of end array previous before).reply ≤ reply_room
unfolding frame_outcome
close_reply (Ok None) array previous before = omega arith
close_reply (Ok (Some n)) array previous before = read_reply (judged (take n array)) previous before
close_reply (Err fault) array previous before = omega arith
