-- DEMAND 1 of the display, a bad frame: it is off the line and counted, and buffers, board, last sequence and sender are as they were, since a frame
-- that is refused hands nothing out.
use mathlib.Core.Path.{◌≡◌, sym, ap, ◌∙◌}
use mathlib.Core.Bool.{Bool, true, false, cond}
use mathlib.Core.List.{List, [], ◌∷◌, map}
use mathlib.Core.Option.{Option, some, none}
use Prim.Native.Nat.{ℕ, ◌≤◌}
use lib.ListN.{length, take}
use Rattle.refusals.specs.Numbers.{number_of}
use Rattle.refusals.specs.declared.Refusal.{Refusal}
use Rattle.slices.proofs.Impossible.{impossible}
use Rattle.slices.specs.Put.{put_at}
use Rattle.frame.specs.Answers.{fault_at}
use Rattle.frame.specs.declared.content.Fault.{Fault}
use Rattle.rows.specs.Entries.{board_showing}
use Rattle.rows.specs.Rows.{row_count}
use Rattle.link.specs.Counts.{count_of}
use Rattle.link.specs.declared.counts.Event.TheVariants as event
use Rattle.display.specs.declared.Answer.TheVariants.{Refused}
use Rattle.display.specs.declared.Display.{Display}
use Rattle.ledger.specs.Ledger.{Ledger, start, plus_refused}
use Rattle.ledger.specs.Frames as frames
use Rattle.ledger.specs.Frames.{Frame, Taken, taken, frame_of}
use Rattle.ledger.specs.Answers.{WatchList, names_in, Call, piece}
use Rattle.ledger.specs.Calls as calls
use Rattle.ledger.specs.Calls.{Effect, repeated, closed, effect_of, with_run, piece_step, step, after, reply_room, packet_room}
use Rattle.ledger.specs.Shown.{as_counts, as_sender, as_entry, as_answer, Left, took, as_left}
use Rattle.ledger.specs.History.{Event, byte, history}
use Rattle.ledger.specs.ClosedFrames.{Closes}
use Rattle.ledger.proofs.CountAgreement.{count_refused}
use Rattle.ledger.proofs.FrameOutcomes.{as_last}
use Rattle.ledger.proofs.FrameLaws.{frame_number}
use Rattle.ledger.proofs.StepAgreement.{Gives}
use Rattle.ledger.proofs.Chain.{Begins, Chain}
use Rattle.ledger.proofs.EveryList.{Agreeing, agreeing, next_call}
use Rattle.ledger.proofs.HistoryLaws.{closed_frames}
use Rattle.ledger.proofs.ClosedCalls.{closes_here, next_gives}
use Rattle.ledger.proofs.RoomLaws.{with_room}

-- an effect that is answered by a refusal
record Kept (l : Ledger) (n : Refusal) (place : ℕ) (frame : Option (List ℕ)) : Type 0 where
  number : (1 ≤ number_of n) × (number_of n ≤ 6)
  closes : closed_frames frame ≡ frames.refused n place ∷ []
  reply : (effect_of l frame).reply ≡ []
  packet : (effect_of l frame).packet ≡ []
  entries : (effect_of l frame).ledger.hives.entries ≡ l.hives.entries
  counts : (effect_of l frame).ledger.line.counts ≡ plus_refused (number_of n) l.line.counts
  sequence : (effect_of l frame).ledger.line.sequence ≡ l.line.sequence
  sender : (effect_of l frame).ledger.sender ≡ l.sender

module _ (names : List (List ℕ)) (n : Refusal) (place : ℕ) (l : Ledger) where
  pub frame_refused : (f : Frame) → as_answer names (closed l f).answer ≡ Refused (fault_at n place) → f ≡ frames.refused n place
  frame_refused (frames.refused k at) e =
      let same : fault_at k at ≡ fault_at n place = cc in
      ap (λ (fault : Fault). frames.refused fault.refusal fault.place) same
  frame_refused (frames.acknowledgement sequence) e = impossible cc
  frame_refused (frames.good sequence payload) e = by_last (repeated l.line.sequence sequence) e
    where
      by_last : (t : Bool) → as_answer names (cond t (calls.repeated_frame l sequence) (calls.new_frame l sequence payload)).answer ≡ Refused (fault_at n place)
          → frames.good sequence payload ≡ frames.refused n place
      by_last true e = impossible cc
      by_last false e = impossible cc

  effect_kept : (frame : Option (List ℕ)) → as_answer names (effect_of l frame).answer ≡ Refused (fault_at n place) → Kept l n place frame
  effect_kept none e = impossible cc
  effect_kept (some run) e =
      let is = frame_refused (frame_of run) e in
      record { number = frame_number run n place is; closes = ap (λ (f : Frame). f ∷ []) is; reply = rw is; packet = rw is; entries = rw is; counts = rw is; sequence = rw is; sender = rw is }

-- a call with room that is answered by a refusal, from 1 to 6: the frame is off the line, one more is counted under its number, and the
-- buffers, the board, the last sequence and the sender are as they were
pub record OffTheLine (n : Refusal) (place : ℕ) (events further : List Event) (reply packet : List ℕ) (before : Display) (reply₁ packet₁ : List ℕ) (behind : Display) : Type 0 where
  pub number : (1 ≤ number_of n) × (number_of n ≤ 6)
  pub closes : Closes events further (frames.refused n place)
  pub reply_kept : reply₁ ≡ reply
  pub packet_kept : packet₁ ≡ packet
  pub board_kept : behind.board ≡ before.board
  pub last_kept : behind.link.last ≡ before.link.last
  pub sender_kept : behind.sender ≡ before.sender
  pub counts : behind.link.counts ≡ count_of (event.Refused (number_of n)) before.link.counts

module _ (names : List (List ℕ)) (cs : List Call) (left : List Left) (end : Display) (a : Agreeing names cs left end)
    (bytes reply packet : List ℕ) (r : reply_room ≤ length reply) (p : packet_room ≤ length packet) (n : Refusal) (place count : ℕ) (reply₁ packet₁ : List ℕ) (end₁ : Display)
    (next : Chain end (piece bytes reply packet ∷ []) (took count (Refused (fault_at n place)) reply₁ packet₁ ∷ []) end₁) where
  abbrev l : Ledger
  l = after (start names) cs

  abbrev t : Taken
  t = taken l.line.run bytes 0

  abbrev effect : Effect
  effect = effect_of (with_run l t.run) t.frame

  one : Gives row_count names (step l (piece bytes reply packet)) (took count (Refused (fault_at n place)) reply₁ packet₁) end₁
  one = next_call a next

  ledger_is : (step l (piece bytes reply packet)).ledger ≡ effect.ledger
  ledger_is = ap (λ (s : calls.Step). s.ledger) (with_room l bytes reply packet r p)

  gave : took count (Refused (fault_at n place)) reply₁ packet₁ ≡ as_left names (piece_step l t reply packet).given
  gave = next_gives a next r p

  kept : Kept (with_run l t.run) n place t.frame
  kept = let said = gave in effect_kept names n place (with_run l t.run) t.frame (let same : as_answer names effect.answer ≡ Refused (fault_at n place) = cc in same)

  closed_here : Closes (history cs left) (map byte (take count bytes)) (frames.refused n place)
  closed_here =
      let said = gave in
      let all : count ≡ t.count = cc in
      closes_here names cs left end a bytes count (frames.refused n place) all kept.closes

  off_the_line : OffTheLine n place (history cs left) (map byte (take count bytes)) reply packet end reply₁ packet₁ end₁
  off_the_line =
      let said = gave in
      let replied : reply₁ ≡ put_at reply 0 effect.reply = cc in
      let handed : packet₁ ≡ put_at packet 0 effect.packet = cc in
      record {
        number = kept.number;
        closes = closed_here;
        reply_kept = replied ∙ ap (put_at reply 0) kept.reply;
        packet_kept = handed ∙ ap (put_at packet 0) kept.packet;
        board_kept =
            one.agrees.shows.showing
            ∙ ap (λ (m : Ledger). board_showing row_count (map as_entry m.hives.entries)) ledger_is
            ∙ rw kept.entries (sym a.all.agrees.shows.showing);
        last_kept =
            one.agrees.last_is
            ∙ ap (λ (m : Ledger). as_last m.line.sequence) ledger_is
            ∙ rw kept.sequence (sym a.all.agrees.last_is);
        sender_kept =
            one.agrees.sender_is
            ∙ ap (λ (m : Ledger). as_sender m.sender) ledger_is
            ∙ rw kept.sender (sym a.all.agrees.sender_is);
        counts =
            one.agrees.counts_are
            ∙ ap (λ (m : Ledger). as_counts m.line.counts) ledger_is
            ∙ rw kept.counts (sym (ap (count_of (event.Refused (number_of n))) a.all.agrees.counts_are ∙ count_refused l.line.counts (number_of n)));
      }

-- THEOREM. After every list of calls: where the next call has room and is answered by a refusal, it is a frame's, from 1 to 6. The frame is off
-- the line and counted under that number, and the buffers, the board and the last sequence are as they were.
pub refused_frame : (names : List (List ℕ)) (w : WatchList) → names_in w ≡ some names → (d : Display) → Begins w d
    → (cs : List Call) (left : List Left) (end : Display) → Chain d cs left end
    → (bytes reply packet : List ℕ) → reply_room ≤ length reply → packet_room ≤ length packet → (n : Refusal) (place count : ℕ) (reply₁ packet₁ : List ℕ) (end₁ : Display)
    → Chain end (piece bytes reply packet ∷ []) (took count (Refused (fault_at n place)) reply₁ packet₁ ∷ []) end₁
    → OffTheLine n place (history cs left) (map byte (take count bytes)) reply packet end reply₁ packet₁ end₁
refused_frame names w listed d begins cs left end chain bytes reply packet r p n place count reply₁ packet₁ end₁ next =
    off_the_line names cs left end (agreeing listed begins chain) bytes reply packet r p n place count reply₁ packet₁ end₁ next
