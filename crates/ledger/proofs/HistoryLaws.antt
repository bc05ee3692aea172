-- The calls' ledger is the history's: a piece is its bytes that were taken, one after the other.
use mathlib.Core.Path.{◌≡◌, refl, sym, ap, ap₂, ◌∙◌}
use mathlib.Core.List.{List, [], ◌∷◌, ◌++◌, map, append-nil}
use mathlib.Core.Option.{Option, some, none}
use Prim.Native.Nat.{ℕ, suc, ◌-◌, ◌≤◌}
use native.Mathlib.Omega.{arith}
use lib.ListN.{length, take}
use lib.Seq.{take-nil}
use Rattle.ledger.specs.Ledger.{Ledger}
use Rattle.ledger.specs.Frames.{Turn, goes_on, closes, turn, Taken, after_turn, taken, Frame, frame_of}
use Rattle.ledger.specs.Answers as answers
use Rattle.ledger.specs.Calls as calls
use Rattle.ledger.specs.Answers.{Call, Given}
use Rattle.ledger.specs.Sending.{SenderStep, times_out}
use Rattle.ledger.specs.Calls.{effect_of, with_run, sender_step, step, given, after}
use Rattle.ledger.specs.Shown.{as_sending, as_left}
use Rattle.ledger.specs.History.{Event, byte, timeout, unless_refused, events_of, history}
use Rattle.ledger.specs.ClosedFrames.{behind_turn, marks_from, frames_of}
use Rattle.ledger.proofs.ByEvents.{Told, from_sender, told_by, sending_told, at_turn, after_history, told_in_history, history_append, told_append}
use Rattle.ledger.proofs.RoomLaws.{by_room}
use Rattle.ledger.proofs.SenderLaws.{by_send, by_waiting, by_timeout}

-- the frames that a piece closed
abbrev pub closed_frames : Option (List ℕ) → List Frame
closed_frames none = []
closed_frames (some run) = frame_of run ∷ []

-- one byte, by what it does to the run
module _ (l : Ledger) (b : ℕ) (rest : List Event) (t : Turn) (e : turn l.line.run b ≡ t) where
  byte_ledger : after_history l (byte b ∷ rest) ≡ after_history (at_turn l t).ledger rest
  unfolding after_history
  byte_ledger = ap (λ (x : Turn). after_history (at_turn l x).ledger rest) e

  byte_told : told_in_history l (byte b ∷ rest) ≡ (at_turn l t).told ++ told_in_history (at_turn l t).ledger rest
  unfolding told_in_history
  byte_told = ap (λ (x : Turn). (at_turn l x).told ++ told_in_history (at_turn l x).ledger rest) e

  byte_frames : frames_of (marks_from l.line.run (byte b ∷ rest)) ≡ frames_of (behind_turn t (λ run. marks_from run rest))
  unfolding marks_from
  byte_frames = ap (λ (x : Turn). frames_of (behind_turn x (λ run. marks_from run rest))) e

-- the bytes of a piece that were taken
pub record Same (l : Ledger) (bytes : List ℕ) (t : Taken) (n : ℕ) : Type 0 where
  pub more : n ≤ t.count
  pub ledger : after_history l (map byte (take (t.count - n) bytes)) ≡ (effect_of (with_run l t.run) t.frame).ledger
  pub told : told_in_history l (map byte (take (t.count - n) bytes)) ≡ told_by (effect_of (with_run l t.run) t.frame).answer
  pub frames : frames_of (marks_from l.line.run (map byte (take (t.count - n) bytes))) ≡ closed_frames t.frame

pub piece_same : (bytes : List ℕ) (l : Ledger) (n : ℕ) → Same l bytes (taken l.line.run bytes n) n
unfolding taken after_history told_in_history marks_from frames_of
piece_same [] l n =
    let none_left : take {A = ℕ} (n - n) [] ≡ [] = take-nil (n - n) in
    record { more = omega arith; ledger = rw none_left; told = rw none_left; frames = rw none_left }
piece_same (b ∷ bs) l n = by_turn (turn l.line.run b) refl (λ run. piece_same bs (with_run l run) (suc n))
  where
    by_turn : (t : Turn) → turn l.line.run b ≡ t
        → ((run : Option (List ℕ)) → Same (with_run l run) bs (taken run bs (suc n)) (suc n))
        → Same l (b ∷ bs) (after_turn t (suc n) (λ run₁ n₁. taken run₁ bs n₁)) n
    by_turn (goes_on run) e rest =
        let r = rest run in
        let t = taken run bs (suc n) in
        let one : t.count - n ≡ suc (t.count - suc n) = omega (arith, r.more) in
        let others = map byte (take (t.count - suc n) bs) in
        record {
          more = omega (arith, r.more);
          ledger = rw one (byte_ledger l b others (goes_on run) e ∙ r.ledger);
          told = rw one (byte_told l b others (goes_on run) e ∙ r.told);
          frames = rw one (byte_frames l b others (goes_on run) e ∙ r.frames);
        }
    by_turn (closes run) e rest =
        let one : suc n - n ≡ 1 = omega arith in
        record {
          more = omega arith;
          ledger = rw one (byte_ledger l b [] (closes run) e);
          told = rw one (byte_told l b [] (closes run) e ∙ append-nil (at_turn l (closes run)).told);
          frames = rw one (byte_frames l b [] (closes run) e);
        }

-- what a call tells
abbrev pub told_in : Given → List Told
told_in (answers.took n answer reply packet) = told_by answer
told_in answers.ticked = []
told_in (answers.outgoing answer output) = sending_told answer

-- a timeout that is not refused
record Accepted (s : SenderStep) : Type 0 where
  events : unless_refused (as_sending s.answer) timeout ≡ timeout ∷ []
  tells : sending_told s.answer ≡ from_sender s.answer ∷ []

module _ (names : List (List ℕ)) where
  -- what a call does is what its part of the history does
  pub record SameStep (l : Ledger) (c : Call) (s : calls.Step) : Type 0 where
    pub ledger : s.ledger ≡ after_history l (events_of c (as_left names s.given))
    pub told : told_in s.given ≡ told_in_history l (events_of c (as_left names s.given))

  timed_out_same : (l : Ledger) (output : List ℕ) → SameStep l (answers.timeout output) (sender_step l (times_out l.sender) output)
  unfolding after_history told_in_history
  timed_out_same l output =
      let same =
      by_waiting Accepted l.sender (λ nothing. record { events = refl; tells = refl }) (λ frame e few. record { events = refl; tells = refl })
      (λ frame e many. record { events = refl; tells = refl }) in
      record { ledger = rw same.events; told = rw (same.events, same.tells) }

  pub step_same : (l : Ledger) (c : Call) → SameStep l c (step l c)
  unfolding step after_history told_in_history
  step_same l (answers.piece bytes reply packet) =
      by_room (SameStep l (answers.piece bytes reply packet)) l bytes reply packet
      (λ short. record { ledger = refl; told = refl })
      (λ room_for_reply room_for_packet.
      let same = piece_same bytes l 0 in
      let all : (taken l.line.run bytes 0).count - 0 ≡ (taken l.line.run bytes 0).count = omega arith in
      record { ledger = sym (rw all at same.ledger); told = sym (rw all at same.told) })
  step_same l answers.tick = record { ledger = refl; told = refl }
  step_same l (answers.send payload output) =
      by_send (λ (s : SenderStep). SameStep l (answers.send payload output) (sender_step l s output)) l.sender payload (length output)
      (λ n. record { ledger = refl; told = refl }) (λ free few fits. record { ledger = refl; told = refl })
  step_same l (answers.timeout output) =
      by_timeout (λ (s : SenderStep). SameStep l (answers.timeout output) (sender_step l s output)) l.sender (length output)
      (record { ledger = refl; told = refl })
      (λ fits. timed_out_same l output)

  -- the history of a list of calls, by what the ledger gives
  abbrev pub history_by : Ledger → List Call → List Event
  history_by l cs = history cs (map (as_left names) (given l cs))

  -- the ledger after a list of calls, and all that is told, are settled by the history
  pub after_history_law : (l : Ledger) (cs : List Call) → after l cs ≡ after_history l (history_by l cs)
  unfolding after given history after_history
  after_history_law l [] = refl
  after_history_law l (c ∷ cs) =
      let first = step_same l c in
      after_history_law (step l c).ledger cs
      ∙ ap (λ (m : Ledger). after_history m (history_by (step l c).ledger cs)) first.ledger
      ∙ sym (history_append l (events_of c (as_left names (step l c).given)) (history_by (step l c).ledger cs))

  unfoldable pub told_out : Ledger → List Call → List Told
  told_out l [] = []
  told_out l (c ∷ cs) = told_in (step l c).given ++ told_out (step l c).ledger cs

  pub told_history : (l : Ledger) (cs : List Call) → told_out l cs ≡ told_in_history l (history_by l cs)
  unfolding told_out given history told_in_history
  told_history l [] = refl
  told_history l (c ∷ cs) =
      let first = step_same l c in
      ap₂ (λ (x y : List Told). x ++ y) first.told
      (told_history (step l c).ledger cs
      ∙ ap (λ (m : Ledger). told_in_history m (history_by (step l c).ledger cs)) first.ledger)
      ∙ sym (told_append l (events_of c (as_left names (step l c).given)) (history_by (step l c).ledger cs))
