-- A call that closes a good data frame: what its step is, and by the last sequence whether the frame is repeated at once.
use mathlib.Core.Path.{◌≡◌, refl, sym, ap, ◌∙◌}
use mathlib.Core.List.{List, [], ◌∷◌, ◌++◌, map}
use mathlib.Core.Option.{Option, some, none}
use Prim.Native.Nat.{ℕ, ◌-◌, ◌≤◌}
use native.Mathlib.Omega.{arith}
use lib.ListN.{length, take}
use Rattle.slices.proofs.Impossible.{impossible}
use Rattle.slices.specs.Put.{put_at}
use Rattle.display.specs.declared.Display.{Display}
use Rattle.ledger.specs.Ledger.{Ledger, start}
use Rattle.ledger.specs.Frames as frames
use Rattle.ledger.specs.Frames.{Frame, Taken, taken, frame_of}
use Rattle.ledger.specs.Answers as given
use Rattle.ledger.specs.Answers.{Call, piece}
use Rattle.ledger.specs.Calls as calls
use Rattle.ledger.specs.Calls.{closed, with_run, piece_step, step, after, reply_room, packet_room}
use Rattle.ledger.specs.Shown.{Left, as_left}
use Rattle.ledger.specs.History.{byte, events_of, history}
use Rattle.ledger.specs.ClosedFrames.{marks_from, frames_of, frames_in, Closes}
use Rattle.ledger.proofs.Chain.{Chain}
use Rattle.ledger.proofs.EveryList.{Agreeing, next_call}
use Rattle.ledger.proofs.ByEvents.{frames_append}
use Rattle.ledger.proofs.HistoryLaws.{closed_frames, piece_same}
use Rattle.ledger.proofs.SameHistory.{after_by}
use Rattle.ledger.proofs.RoomLaws.{by_room, with_room}

-- a step that closes a good data frame
pub record ClosedBy (l : Ledger) (reply packet : List ℕ) (sequence : ℕ) (payload : List ℕ) (s : calls.Step) : Type 0 where
  pub run : Option (List ℕ)
  pub count : ℕ
  pub gives :
      s.given
      ≡ given.took count (closed (with_run l run) (frames.good sequence payload)).answer
      (put_at reply 0 (closed (with_run l run) (frames.good sequence payload)).reply)
      (put_at packet 0 (closed (with_run l run) (frames.good sequence payload)).packet)
  pub leaves : s.ledger ≡ (closed (with_run l run) (frames.good sequence payload)).ledger

pub step_closes : (names : List (List ℕ)) (l : Ledger) (bytes reply packet : List ℕ) (sequence : ℕ) (payload : List ℕ)
    → frames_of (marks_from l.line.run (events_of (piece bytes reply packet) (as_left names (step l (piece bytes reply packet)).given))) ≡ frames.good sequence payload ∷ []
    → ClosedBy l reply packet sequence payload (step l (piece bytes reply packet))
unfolding marks_from frames_of
step_closes names l bytes reply packet sequence payload =
    by_room
    (λ (s : calls.Step).
    frames_of (marks_from l.line.run (events_of (piece bytes reply packet) (as_left names s.given))) ≡ frames.good sequence payload ∷ []
    → ClosedBy l reply packet sequence payload s)
    l bytes reply packet
    (λ short e. impossible cc)
    (λ room_for_reply room_for_packet e.
    let t = taken l.line.run bytes 0 in
    let all : t.count - 0 ≡ t.count = omega arith in
    by_frame t t.frame refl (sym (rw all at (piece_same bytes l 0).frames) ∙ e))
  where
    by_frame : (t : Taken) (frame : Option (List ℕ)) → t.frame ≡ frame → closed_frames frame ≡ frames.good sequence payload ∷ []
        → ClosedBy l reply packet sequence payload (piece_step l t reply packet)
    by_frame t none f e = impossible cc
    by_frame t (some run) f e =
        let is : frame_of run ≡ frames.good sequence payload = cc in
        record { run = t.run; count = t.count; gives = rw (f, is); leaves = rw (f, is) }

-- what a call with room closed is what its part of the history closes
pub closes_here : (names : List (List ℕ)) (cs : List Call) (left : List Left) (end : Display) → Agreeing names cs left end
    → (bytes : List ℕ) (count : ℕ) (f : Frame) → count ≡ (taken (after (start names) cs).line.run bytes 0).count
    → closed_frames (taken (after (start names) cs).line.run bytes 0).frame ≡ f ∷ [] → Closes (history cs left) (map byte (take count bytes)) f
closes_here names cs left end a bytes count f counted is =
    let l = after (start names) cs in
    let all : count ≡ (taken l.line.run bytes 0).count - 0 = omega arith in
    let run_is = ap (λ (m : Ledger). m.line.run) (after_by names cs left a.all.gives) in
    let here : frames_of (marks_from l.line.run (map byte (take count bytes))) ≡ f ∷ [] = rw all ((piece_same bytes l 0).frames ∙ is) in
    frames_append (start names) (history cs left) (map byte (take count bytes))
    ∙ ap (λ (fs : List Frame). frames_in (history cs left) ++ fs) (rw run_is at here)

-- the next call with room leaves what the step of its piece gives
pub next_gives : {names : List (List ℕ)} {cs : List Call} {left : List Left} {end : Display} → Agreeing names cs left end
    → {bytes reply packet : List ℕ} {more : Left} {end₁ : Display} → Chain end (piece bytes reply packet ∷ []) (more ∷ []) end₁
    → reply_room ≤ length reply → packet_room ≤ length packet
    → more ≡ as_left names (piece_step (after (start names) cs) (taken (after (start names) cs).line.run bytes 0) reply packet).given
next_gives {names = names} {cs = cs} a {bytes = bytes} {reply = reply} {packet = packet} next r p =
    (next_call a next).gives ∙ ap (λ (s : calls.Step). as_left names s.given) (with_room (after (start names) cs) bytes reply packet r p)
