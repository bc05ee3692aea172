-- DEMAND 1 and 02, C-13: a refused event changes nothing and is no part of the history. A piece is one only by 7: a frame's refusal is from 1
-- to 6.
use mathlib.Core.Path.{◌≡◌, refl, sym, ap, ◌∙◌}
use mathlib.Core.Bool.{Bool, true, false}
use mathlib.Core.List.{List, [], ◌∷◌}
use mathlib.Core.Logic.{◌⊎◌, inl, inr}
use mathlib.Core.Option.{some}
use Prim.Native.Nat.{ℕ, ◌≤◌, ◌<◌}
use native.Mathlib.Omega.{arith}
use lib.Dec.{ltb}
use lib.ListN.{length}
use borrow.Author.Tests.{eqb-true, ltb-true, ltb-false}
use Rattle.slices.proofs.Impossible.{impossible}
use Rattle.slices.specs.Put.{put_at}
use Rattle.refusals.specs.Numbers.{short_output, number_of}
use Rattle.refusals.specs.declared.Refusal.{Refusal}
use Rattle.sender.specs.Events.{Given}
use Rattle.sender.specs.declared.state.Answer as sender_answer
use Rattle.sender.specs.declared.state.Answer.TheVariants as sender_says
use Rattle.sender.proofs.EventTheorems.{Keeps, refused_send_keeps, refused_timeout_keeps}
use Rattle.display.specs.Sending.{with_sender, SendsAs}
use Rattle.display.specs.declared.Answer.{Answer}
use Rattle.display.specs.declared.Answer.TheVariants.{Nothing, Refused, Heard, Again, New}
use Rattle.display.specs.declared.Display.{Display}
use Rattle.display.specs.declared.sending.Outgoing.{Outgoing}
use Rattle.ledger.specs.Answers as answers
use Rattle.ledger.specs.Answers.{WatchList, names_in, Call}
use Rattle.ledger.specs.Calls.{reply_room, packet_room}
use Rattle.ledger.specs.Shown.{Left, took, ticked, outgoing}
use Rattle.ledger.specs.History.{refused_piece, refused_sending, refused_event, events_of}
use Rattle.ledger.proofs.Chain.{Begins, Chain, done, receives, ticks, sends, times_out, sent, timed_out}
use Rattle.ledger.proofs.RefusedFrames.{refused_frame}
use Rattle.ledger.proofs.ShortCalls.{short_buffer}

-- the buffers that a call is lent, and what it left in them
abbrev pub lent_to : Call → List (List ℕ)
lent_to (answers.piece bytes reply packet) = reply ∷ packet ∷ []
lent_to answers.tick = []
lent_to (answers.send payload output) = output ∷ []
lent_to (answers.timeout output) = output ∷ []

abbrev pub left_in : Left → List (List ℕ)
left_in (took n answer reply packet) = reply ∷ packet ∷ []
left_in ticked = []
left_in (outgoing answer output) = output ∷ []

pub record ChangesNothing (c : Call) (left : Left) (before behind : Display) : Type 0 where
  pub display_kept : behind ≡ before
  pub buffers_kept : left_in left ≡ lent_to c
  pub no_event : events_of c left ≡ []

-- why a send or a timeout was refused
record IsRefused (answer : sender_answer.Answer) : Type 0 where
  refusal : Refusal
  is : answer ≡ sender_says.Refused refusal

refusal_of : (answer : sender_answer.Answer) → refused_sending answer ≡ true → IsRefused answer
refusal_of sender_says.Nothing e = impossible cc
refusal_of (sender_says.Refused n) e = record { refusal = n; is = refl }
refusal_of (sender_says.Sent sequence size) e = impossible cc
refusal_of (sender_says.Repeated sequence size) e = impossible cc
refusal_of (sender_says.Dropped sequence) e = impossible cc

-- what the sender refuses leaves the display and the output as they were
kept_by : (d : Display) (given : Given) (output : List ℕ) (result : Outgoing) (output₁ : List ℕ) → SendsAs d given output result output₁
    → ((n : Refusal) → given.outcome.answer ≡ sender_says.Refused n → Keeps d.sender given) → refused_sending result.answer ≡ true
    → (result.display ≡ d) × (output₁ ≡ output)
kept_by d given output result output₁ does keeps e =
    let refused = refusal_of result.answer e in
    let told = ap (λ (r : Outgoing). r.answer) does.answers in
    let kept = keeps refused.refusal (sym told ∙ refused.is) in
    (ap (λ (r : Outgoing). r.display) does.answers ∙ ap (with_sender d) kept.sender, does.sends ∙ ap (put_at output 0) kept.output)

-- THEOREM. A refused send leaves the display and the output as they were, whatever the display, and is no part of the history.
pub refused_send : (d d₁ : Display) (payload output : List ℕ) (left : Left) → Chain d (answers.send payload output ∷ []) (left ∷ []) d₁ → refused_event left ≡ true
    → ChangesNothing (answers.send payload output) left d d₁
refused_send d d₁ payload output left (sends {output₁ = output₁} {result = result} s done) e =
    let kept = kept_by d _ output result output₁ (sent s) (refused_send_keeps d.sender payload (length output)) e in
    record { display_kept = kept.0; buffers_kept = ap (λ (o : List ℕ). o ∷ []) kept.1; no_event = rw e }

-- THEOREM. And so a refused timeout.
pub refused_timeout : (d d₁ : Display) (output : List ℕ) (left : Left) → Chain d (answers.timeout output ∷ []) (left ∷ []) d₁ → refused_event left ≡ true
    → ChangesNothing (answers.timeout output) left d d₁
refused_timeout d d₁ output left (times_out {output₁ = output₁} {result = result} t done) e =
    let kept = kept_by d _ output result output₁ (timed_out t) (refused_timeout_keeps d.sender (length output)) e in
    record { display_kept = kept.0; buffers_kept = ap (λ (o : List ℕ). o ∷ []) kept.1; no_event = rw e }

-- a refused piece: with room it would be a frame's refusal, from 1 to 6
module _ (names : List (List ℕ)) (w : WatchList) (listed : names_in w ≡ some names) (d : Display) (begins : Begins w d)
    (cs : List Call) (left : List Left) (end : Display) (chain : Chain d cs left end) where
  short_piece : (bytes reply packet : List ℕ) (more : Left) (end₁ : Display) → Chain end (answers.piece bytes reply packet ∷ []) (more ∷ []) end₁
      → (length reply < reply_room) ⊎ (length packet < packet_room) → ChangesNothing (answers.piece bytes reply packet) more end end₁
  short_piece bytes reply packet more end₁ next short =
      let kept = short_buffer end end₁ bytes reply packet more next short in
      record { display_kept = kept.1; buffers_kept = rw kept.0; no_event = rw kept.0 }

  long_piece : (bytes reply packet : List ℕ) (count : ℕ) (answer : Answer) (reply₁ packet₁ : List ℕ) (end₁ : Display)
      → Chain end (answers.piece bytes reply packet ∷ []) (took count answer reply₁ packet₁ ∷ []) end₁ → reply_room ≤ length reply → packet_room ≤ length packet
      → refused_piece answer ≡ true → ⊥
  long_piece bytes reply packet count Nothing reply₁ packet₁ end₁ next r p e = impossible cc
  long_piece bytes reply packet count (Refused fault) reply₁ packet₁ end₁ next r p e =
      let seven = eqb-true (number_of fault.refusal) (number_of short_output) e in
      let off = refused_frame names w listed d begins cs left end chain bytes reply packet r p fault.refusal fault.place count reply₁ packet₁ end₁ next in
      let most = off.number.1 in
      omega (arith, seven, most)
  long_piece bytes reply packet count (Heard sequence) reply₁ packet₁ end₁ next r p e = impossible cc
  long_piece bytes reply packet count (Again replied) reply₁ packet₁ end₁ next r p e = impossible cc
  long_piece bytes reply packet count (New replied size verdict) reply₁ packet₁ end₁ next r p e = impossible cc

  refused_piece_law : (bytes reply packet : List ℕ) (more : Left) (end₁ : Display) → Chain end (answers.piece bytes reply packet ∷ []) (more ∷ []) end₁
      → refused_event more ≡ true → ChangesNothing (answers.piece bytes reply packet) more end end₁
  refused_piece_law bytes reply packet more end₁ (receives {reply₁ = reply₁} {packet₁ = packet₁} {result = result} r done) e =
      by_tests (ltb (length reply) reply_room) (ltb (length packet) packet_room) refl refl
    where
      by_tests : (t u : Bool) → ltb (length reply) reply_room ≡ t → ltb (length packet) packet_room ≡ u
          → ChangesNothing (answers.piece bytes reply packet) (took result.taken result.answer reply₁ packet₁) end end₁
      by_tests true u f g = short_piece bytes reply packet _ end₁ (receives r done) (inl (ltb-true (length reply) reply_room f))
      by_tests false true f g = short_piece bytes reply packet _ end₁ (receives r done) (inr (ltb-true (length packet) packet_room g))
      by_tests false false f g =
          absurd
          (long_piece bytes reply packet result.taken result.answer reply₁ packet₁ end₁ (receives r done) (ltb-false (length reply) reply_room f)
          (ltb-false (length packet) packet_room g) e)

  -- THEOREM. After every list of calls: a next event that is refused, whichever it is, leaves the display and all buffers as they were, and is
  -- no part of the history.
  pub refused_event_law : (c : Call) (more : Left) (end₁ : Display) → Chain end (c ∷ []) (more ∷ []) end₁ → refused_event more ≡ true → ChangesNothing c more end end₁
  refused_event_law (answers.piece bytes reply packet) more end₁ next e = refused_piece_law bytes reply packet more end₁ next e
  refused_event_law answers.tick more end₁ (ticks t done) e = impossible cc
  refused_event_law (answers.send payload output) more end₁ next e = refused_send end end₁ payload output more next e
  refused_event_law (answers.timeout output) more end₁ next e = refused_timeout end end₁ output more next e
