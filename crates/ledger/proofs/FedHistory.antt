-- The history of calls that are fed a stream is the stream, without its refused events: a call takes the bytes that it says, and the rest is
-- offered again.
use mathlib.Core.Path.{◌≡◌, refl, sym, ap, ap₂, ◌∙◌}
use mathlib.Core.List.{List, [], ◌∷◌, ◌++◌, map, map-append, append_assoc}
use mathlib.Core.Option.{some}
use Prim.Native.Nat.{ℕ}
use lib.ListN.{length, take, drop, take-append-drop}
use Rattle.board.proofs.NameLaws.{Fits}
use Rattle.sender.specs.declared.state.Answer as sender_answer
use Rattle.display.specs.declared.Display.{Display}
use Rattle.display.specs.declared.Received.{Received}
use Rattle.display.specs.declared.sending.Outgoing.{Outgoing}
use Rattle.ledger.specs.Ledger.{Ledger, with_sender, start}
use Rattle.ledger.specs.Answers.{WatchList, names_in, Call, piece, tick, send, timeout}
use Rattle.ledger.specs.Sending.{send_step, timeout_step}
use Rattle.ledger.specs.Calls.{step, after}
use Rattle.ledger.specs.Shown.{as_sending, Left, took, ticked, outgoing}
use Rattle.ledger.specs.History as event
use Rattle.ledger.specs.History.{Event, unless_refused, events_of, history}
use Rattle.ledger.specs.Streams as part
use Rattle.ledger.specs.Streams.{Part, cut, pause, Offer, of_byte, of_minute, of_send, of_timeout, offers_in}
use Rattle.ledger.proofs.Chain.{Begins, Receives, Sends, TimesOut, Ticks, Chain, done, receives, ticks, sends, times_out, received, sent, timed_out}
use Rattle.ledger.proofs.StepAgreement.{Agrees, tick_agrees, send_agrees, timeout_agrees}
use Rattle.ledger.proofs.PieceAgreement.{piece_agrees}
use Rattle.ledger.proofs.EveryList.{agreeing}
use Rattle.ledger.proofs.ByEvents.{happens, after_history}
use Rattle.ledger.proofs.HistoryLaws.{step_same}

-- a stream that is cut into parts is offered, refused calls among them: each piece, then what of it was not taken, until it is all taken; each
-- send and each timeout once, refused or not
pub data Feeds : Display → List Part → List Call → List Left → Display → Type 0 where
  fed : {d : Display} → Feeds d [] [] [] d
  all_taken : {d d₁ : Display} {parts : List Part} {cs : List Call} {left : List Left} → Feeds d parts cs left d₁ → Feeds d (cut [] ∷ parts) cs left d₁
  offered : {d d₁ : Display} {bytes reply packet reply₁ packet₁ : List ℕ} {result : Received} {parts : List Part} {cs : List Call} {left : List Left}
      → Receives d bytes reply packet result reply₁ packet₁ → Feeds result.display (cut (drop result.taken bytes) ∷ parts) cs left d₁
      → Feeds d (cut bytes ∷ parts) (piece bytes reply packet ∷ cs) (took result.taken result.answer reply₁ packet₁ ∷ left) d₁
  paused : {d d₁ d₂ : Display} {parts : List Part} {cs : List Call} {left : List Left} → Ticks d d₁ → Feeds d₁ parts cs left d₂
      → Feeds d (pause ∷ parts) (tick ∷ cs) (ticked ∷ left) d₂
  offered_send : {d d₁ : Display} {payload output output₁ : List ℕ} {result : Outgoing} {parts : List Part} {cs : List Call} {left : List Left}
      → Sends d payload output result output₁ → Feeds result.display parts cs left d₁
      → Feeds d (part.send payload output ∷ parts) (send payload output ∷ cs) (outgoing result.answer output₁ ∷ left) d₁
  offered_timeout : {d d₁ : Display} {output output₁ : List ℕ} {result : Outgoing} {parts : List Part} {cs : List Call} {left : List Left}
      → TimesOut d output result output₁ → Feeds result.display parts cs left d₁
      → Feeds d (part.timeout output ∷ parts) (timeout output ∷ cs) (outgoing result.answer output₁ ∷ left) d₁

pub fed_chain : {d d₁ : Display} {parts : List Part} {cs : List Call} {left : List Left} → Feeds d parts cs left d₁ → Chain d cs left d₁
fed_chain fed = done
fed_chain (all_taken rest) = fed_chain rest
fed_chain (offered r rest) = receives r (fed_chain rest)
fed_chain (paused t rest) = ticks t (fed_chain rest)
fed_chain (offered_send s rest) = sends s (fed_chain rest)
fed_chain (offered_timeout t rest) = times_out t (fed_chain rest)

-- the history that a stream makes, event by event: what is refused is no part of it
unfoldable pub accepted_from : Ledger → List Offer → List Event
accepted_from l [] = []
accepted_from l (of_byte b ∷ os) = event.byte b ∷ accepted_from (happens l (event.byte b)).ledger os
accepted_from l (of_minute ∷ os) = event.minute ∷ accepted_from (happens l event.minute).ledger os
accepted_from l (of_send payload output ∷ os) =
    let s = send_step l.sender payload (length output) in
    unless_refused (as_sending s.answer) (event.send payload) ++ accepted_from (with_sender l s.sender) os
accepted_from l (of_timeout output ∷ os) =
    let s = timeout_step l.sender (length output) in
    unless_refused (as_sending s.answer) event.timeout ++ accepted_from (with_sender l s.sender) os

bytes_accepted : (bytes : List ℕ) (l : Ledger) (os : List Offer)
    → accepted_from l (map of_byte bytes ++ os) ≡ map event.byte bytes ++ accepted_from (after_history l (map event.byte bytes)) os
unfolding accepted_from after_history
bytes_accepted [] l os = refl
bytes_accepted (b ∷ bs) l os = ap (λ (es : List Event). event.byte b ∷ es) (bytes_accepted bs (happens l (event.byte b)).ledger os)

-- the bytes taken and those offered again are the piece
rejoined : (n : ℕ) (bytes : List ℕ) (os : List Offer) → map of_byte bytes ++ os ≡ map of_byte (take n bytes) ++ (map of_byte (drop n bytes) ++ os)
rejoined n bytes os =
    ap (λ (bs : List ℕ). map of_byte bs ++ os) (sym (take-append-drop n bytes))
    ∙ ap (λ (xs : List Offer). xs ++ os) (map-append of_byte (take n bytes) (drop n bytes))
    ∙ append_assoc (map of_byte (take n bytes)) (map of_byte (drop n bytes)) os

told_answer : {answer answer₁ : sender_answer.Answer} {output output₁ : List ℕ} → outgoing answer output ≡ outgoing answer₁ output₁ → answer ≡ answer₁
told_answer e = cc

-- the history of calls that are fed a stream, from a display that agrees with the ledger
module _ {count : ℕ} (names : List (List ℕ)) (fit : Fits names) where
  fed_accepted : {d d₁ : Display} {parts : List Part} {cs : List Call} {left : List Left} → Feeds d parts cs left d₁ → (l : Ledger) → Agrees count names l d
      → history cs left ≡ accepted_from l (offers_in parts)
  unfolding history offers_in accepted_from step
  fed_accepted fed l a = refl
  fed_accepted (all_taken rest) l a = fed_accepted rest l a
  fed_accepted (offered {d = d} {bytes = bytes} {reply = reply} {packet = packet} {result = result} {parts = parts} r rest) l a =
      let first = piece_agrees names fit l d a bytes reply packet _ _ _ (received r) in
      let next = (step l (piece bytes reply packet)).ledger in
      let taken = map event.byte (take result.taken bytes) in
      let behind : next ≡ after_history l taken =
      (step_same names l (piece bytes reply packet)).ledger ∙ ap (λ (x : Left). after_history l (events_of (piece bytes reply packet) x)) (sym first.gives) in
      let others = map of_byte (drop result.taken bytes) ++ offers_in parts in
      ap (λ (es : List Event). taken ++ es)
      (fed_accepted rest next first.agrees ∙ ap (λ (m : Ledger). accepted_from m others) behind)
      ∙ sym (bytes_accepted (take result.taken bytes) l others)
      ∙ ap (accepted_from l) (sym (rejoined result.taken bytes (offers_in parts)))
  fed_accepted (paused {d = d} t rest) l a =
      let first = tick_agrees names l d a in
      ap (λ (es : List Event). event.minute ∷ es) (fed_accepted rest (happens l event.minute).ledger (rw t first.agrees))
  fed_accepted (offered_send {d = d} {payload = payload} {output = output} s rest) l a =
      let first = send_agrees names l d a payload output _ _ (sent s) in
      let told = told_answer first.gives in
      ap₂ (λ (x : sender_answer.Answer) (es : List Event). unless_refused x (event.send payload) ++ es) told
      (fed_accepted rest (with_sender l (send_step l.sender payload (length output)).sender) first.agrees)
  fed_accepted (offered_timeout {d = d} {output = output} t rest) l a =
      let first = timeout_agrees names l d a output _ _ (timed_out t) in
      let told = told_answer first.gives in
      ap₂ (λ (x : sender_answer.Answer) (es : List Event). unless_refused x event.timeout ++ es) told
      (fed_accepted rest (with_sender l (timeout_step l.sender (length output)).sender) first.agrees)

-- THEOREM. The history of such calls from a fresh start is the stream, without its refused events.
pub fed_history : (names : List (List ℕ)) (w : WatchList) → names_in w ≡ some names → (d : Display) → Begins w d → {d₁ : Display} {parts : List Part} {cs : List Call} {left : List Left}
    → Feeds d parts cs left d₁ → history cs left ≡ accepted_from (start names) (offers_in parts)
unfolding after
fed_history names w listed d begins feeds =
    let none_yet = agreeing listed begins done in
    fed_accepted names none_yet.fit feeds (start names) none_yet.all.agrees
