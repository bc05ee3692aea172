-- Every frame that a session sends is one that C-11's reader takes, with the counters that C-21 says: its payload is within C-11's limit, and
-- its event leaves the ledger with these counters.
use mathlib.Core.Path.{◌≡◌, ap}
use mathlib.Core.List.{List, [], ◌∷◌}
use Prim.Native.Nat.{ℕ, ◌≤◌}
use lib.ListN.{length, take}
use Rattle.std.specs.Prelude.{Result, Ok}
use Rattle.refusals.specs.declared.Refusal.{Refusal}
use Rattle.slices.specs.Put.{put_at}
use Rattle.slices.proofs.PutLaws.{put_first}
use Rattle.ash.specs.Stuffing.{payload_max, stuff}
use Rattle.ash.specs.Answers.{frame_read}
use Rattle.ash.specs.declared.reader.Frame.{Frame}
use Rattle.ash.proofs.FrameTheorems.{frame_read_back}
use Rattle.ash.proofs.Calls.{Reads}
use Rattle.ash.proofs.FrameCalls.{call_reads}
use Rattle.session.specs.Counters.{of_ours, of_peers}
use Rattle.session.specs.Control.{control_of}
use Rattle.session.proofs.ControlLaws.{control_back}
use Rattle.session.specs.declared.state.Session.{Session}
use Rattle.conversation.specs.Ledger.{start, on_line}
use Rattle.conversation.specs.Events as events
use Rattle.conversation.specs.Events.{Event, Sent, frames_in, handed_in, control_on, frame_on, line_of}
use Rattle.conversation.specs.Steps.{step, after}
use Rattle.conversation.specs.Shown.{Left, output_lent, leaves, given}
use Rattle.conversation.proofs.NumberLaws.{three_bits}
use Rattle.conversation.proofs.Agreement.{Agrees}
use Rattle.conversation.proofs.Chain.{Starts, Chain}
use Rattle.conversation.proofs.EveryList.{chain_agrees, from_start}
use Rattle.conversation.proofs.RightFrames.{Among, Right, step_sends, right_of}
use Rattle.conversation.proofs.LineSize.{right_short, line_fits, payload_fits}

-- What C-11's reader makes of a frame: the type, the two counters as they are on the line, and the payload.
pub record ReadAs (f : Sent) : Type 0 where
  pub control : control_of (control_on f) ≡ record { kind = f.kind; number = of_peers (on_line f.ofc); acknowledged = of_ours (on_line f.afc) }
  pub reads : (before : List ℕ) (answer : Result Frame Refusal) (after : List ℕ) → payload_max ≤ length before → Reads (frame_on f) before answer after
      → (answer ≡ Ok (frame_read (control_on f) (length f.payload))) × (after ≡ put_at before 0 f.payload)

read_as : (f : Sent) → length (stuff f.payload) ≤ payload_max → ReadAs f
read_as f short =
    record {
      control = control_back f.kind (on_line f.ofc) (on_line f.afc) (three_bits f.ofc) (three_bits f.afc);
      reads = λ before answer after asked r.
          call_reads (frame_on f) (control_on f) f.payload before answer after (frame_read_back (control_on f) f.payload (length before) asked short) r;
    }

-- what the next event sends
pub record SentRight (es : List Event) (e : Event) (more : Left) : Type 0 where
  -- its frames stand whole at the start of the output, one behind the other
  pub output : more.output ≡ put_at (output_lent e) 0 (line_of (frames_in (step (after start es) e).says))
  pub whole : take (length (line_of (frames_in (step (after start es) e).says))) more.output ≡ line_of (frames_in (step (after start es) e).says)
  pub counters : (f : Sent) → Among f (frames_in (step (after start es) e).says) → Right (step (after start es) e).ledger f
  pub taken : (f : Sent) → Among f (frames_in (step (after start es) e).says) → ReadAs f

-- the next event, by the ledger that those before it left
record Next (es : List Event) (e : Event) (more : Left) (end : Session) : Type 0 where
  is : more ≡ leaves e (step (after start es) e).says
  agrees : Agrees (step (after start es) e).ledger end

next_event : {s end end₁ : Session} {es : List Event} {left : List Left} {e : Event} {more : Left} → Starts s → Chain s es left end
    → Chain end (e ∷ []) (more ∷ []) end₁ → Next es e more end₁
unfolding given after
next_event {es = es} {e = e} {more = more} begins chain next =
    let one = chain_agrees (after start es) next (from_start begins chain).agrees in
    let given_is = one.gives in
    record { is = let same : more ≡ leaves e (step (after start es) e).says = cc in same; agrees = one.agrees }

-- THEOREM. After every list of events from a fresh session, each frame that the next event sends stands whole in the output and is one that
-- C-11's reader takes, with the counters that C-21 says.
pub every_frame : (s : Session) → Starts s → (es : List Event) (left : List Left) (end : Session) → Chain s es left end
    → (e : Event) (more : Left) (end₁ : Session) → Chain end (e ∷ []) (more ∷ []) end₁ → SentRight es e more
every_frame s begins es left end chain e more end₁ next =
    let l = after start es in
    let n = next_event begins chain next in
    let line = line_of (frames_in (step l e).says) in
    let sends = step_sends l e in
    record {
      output = ap (λ (x : Left). x.output) n.is;
      whole = rw n.is (put_first (output_lent e) line (line_fits l e end₁ n.agrees));
      counters = λ f is. right_of _ _ f sends is;
      taken = λ f is. read_as f (right_short _ end₁ f n.agrees (right_of _ _ f sends is));
    }

-- THEOREM. And where the next event is a frame of the peer's, the payload that is handed up stands whole in its buffer.
pub every_payload : (s : Session) → Starts s → (es : List Event) (left : List Left) (end : Session) → Chain s es left end
    → (frame output buffer : List ℕ) (more : Left) (end₁ : Session) → Chain end (events.receive frame output buffer ∷ []) (more ∷ []) end₁
    → take (length (handed_in (step (after start es) (events.receive frame output buffer)).says)) more.handed
    ≡ handed_in (step (after start es) (events.receive frame output buffer)).says
every_payload s begins es left end chain frame output buffer more end₁ next =
    let n = next_event begins chain next in
    rw n.is (put_first buffer _ (payload_fits (after start es) frame output buffer))
