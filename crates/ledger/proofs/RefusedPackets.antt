-- DEMAND 1 of the display, a packet that the board refuses: the board is as it was, since what it reads is refused before a row is changed,
-- and the packet is counted as new and as unread.
use Rattle.std.specs.Prelude.{Result, Err}
use mathlib.Core.Path.{◌≡◌, refl, ap, ◌∙◌}
use mathlib.Core.Bool.{Bool, true, false}
use mathlib.Core.List.{List, [], ◌∷◌, map}
use mathlib.Core.Option.{Option, some, none}
use Prim.Native.Nat.{ℕ}
use lib.ListN.{take}
use Rattle.slices.proofs.Impossible.{impossible}
use Rattle.slices.specs.Put.{put_at}
use Rattle.rows.specs.Names.{place_of}
use Rattle.rows.specs.Rows.{row_names, watched}
use Rattle.rows.specs.declared.Board.{Board}
use Rattle.board.specs.Reading as reading
use Rattle.board.specs.Reading.{Verdict, reading_of, updated, applied, read_board}
use Rattle.board.specs.declared.reading.Done.{Done}
use Rattle.refusals.specs.declared.Refusal.{Refusal}
use Rattle.link.specs.Counts.{count_of}
use Rattle.link.specs.declared.counts.Event.TheVariants as event
use Rattle.display.specs.declared.Answer.TheVariants.{New}
use Rattle.display.specs.declared.Display.{Display}
use Rattle.ledger.specs.Ledger.{Ledger, start}
use Rattle.ledger.specs.Frames as frames
use Rattle.ledger.specs.Frames.{Frame, Taken, taken, frame_of}
use Rattle.ledger.specs.Answers.{WatchList, names_in, Call, piece}
use Rattle.ledger.specs.Calls.{answer_to, repeated, closed, effect_of, with_run, Step, step, after}
use Rattle.ledger.specs.Shown.{as_answer, Left, took, as_left}
use Rattle.ledger.specs.History.{Event, byte, history}
use Rattle.ledger.specs.ClosedFrames.{Closes}
use Rattle.ledger.proofs.Chain.{Begins, Chain}
use Rattle.ledger.proofs.EveryList.{Agreeing, agreeing, next_call}
use Rattle.ledger.proofs.HistoryLaws.{closed_frames}
use Rattle.ledger.proofs.ClosedCalls.{closes_here}
use Rattle.ledger.proofs.DataCalls.{dropped, read_new}
use Rattle.ledger.proofs.RoomLaws.{by_room}

refused_stays : (board : Board) (v : Verdict) (k : Refusal) → (applied board v).answer ≡ Err k → (applied board v).board ≡ board
unfolding applied updated
refused_stays board (reading.refused m) k e = refl
refused_stays board (reading.end_mark id) k e = refl
refused_stays board (reading.update id name value) k e = by_place (place_of name (row_names board)) e
  where
    by_place : (o : Option ℕ) → (updated board id value o).answer ≡ Err k → (updated board id value o).board ≡ board
    by_place (some place) e = impossible cc
    by_place none e = refl

read_unread : (board : Board) (payload : List ℕ) (k : Refusal) → (read_board board payload).answer ≡ Err k → (read_board board payload).board ≡ board
unfolding read_board
read_unread board payload k e = refused_stays board (reading_of (watched board) payload) k e

-- a call that answered a new frame closed one
record NewFound (l : Ledger) (bytes : List ℕ) (count : ℕ) : Type 0 where
  sequence : ℕ
  payload : List ℕ
  counted : count ≡ (taken l.line.run bytes 0).count
  closes : closed_frames (taken l.line.run bytes 0).frame ≡ frames.good sequence payload ∷ []

module _ (names : List (List ℕ)) (l : Ledger) (bytes reply packet : List ℕ) (count m size : ℕ) (answer : Result Done Refusal) (reply₁ packet₁ : List ℕ) where
  abbrev t : Taken
  t = taken l.line.run bytes 0

  frame_found : (run : List ℕ) → t.frame ≡ some run → count ≡ t.count → (f : Frame) → frame_of run ≡ f
      → New m size answer ≡ as_answer names (closed (with_run l t.run) f).answer → NewFound l bytes count
  frame_found run e counted (frames.refused n place) is said = impossible cc
  frame_found run e counted (frames.acknowledgement sequence) is said = impossible cc
  frame_found run e counted (frames.good sequence payload) is said =
      record { sequence = sequence; payload = payload; counted = counted; closes = ap closed_frames e ∙ ap (λ (f : Frame). f ∷ []) is }

  new_found : took count (New m size answer) reply₁ packet₁ ≡ as_left names (step l (piece bytes reply packet)).given → NewFound l bytes count
  new_found =
      by_room (λ (s : Step). took count (New m size answer) reply₁ packet₁ ≡ as_left names s.given → NewFound l bytes count) l bytes reply packet
      (λ short said. impossible cc)
      (λ room_for_reply room_for_packet said.
      let counted : count ≡ t.count = cc in
      let answered : New m size answer ≡ as_answer names (effect_of (with_run l t.run) t.frame).answer = cc in
      by_frame t.frame refl counted answered)
    where
      by_frame : (frame : Option (List ℕ)) → t.frame ≡ frame → count ≡ t.count
          → New m size answer ≡ as_answer names (effect_of (with_run l t.run) frame).answer → NewFound l bytes count
      by_frame none e counted said = impossible cc
      by_frame (some run) e counted said = frame_found run e counted (frame_of run) refl said

-- a packet that the board refused: its frame is closed and new, acknowledgement and payload are handed out, the board is as it was, and it
-- is counted as new and as unread
pub record Unread (events further : List Event) (reply packet : List ℕ) (before : Display) (reply₁ packet₁ : List ℕ) (behind : Display) : Type 0 where
  pub sequence : ℕ
  pub payload : List ℕ
  pub closes : Closes events further (frames.good sequence payload)
  pub replied : reply₁ ≡ put_at reply 0 (answer_to sequence)
  pub handed_up : packet₁ ≡ put_at packet 0 payload
  pub board_kept : behind.board ≡ before.board
  pub counts : behind.link.counts ≡ count_of event.Unread (count_of event.New before.link.counts)

-- THEOREM. After every list of calls: where the next call is answered by a new packet that the board refused, the board is as it was.
pub refused_packet : (names : List (List ℕ)) (w : WatchList) → names_in w ≡ some names → (d : Display) → Begins w d
    → (cs : List Call) (left : List Left) (end : Display) → Chain d cs left end
    → (bytes reply packet : List ℕ) (count m size : ℕ) (k : Refusal) (reply₁ packet₁ : List ℕ) (end₁ : Display)
    → Chain end (piece bytes reply packet ∷ []) (took count (New m size (Err k)) reply₁ packet₁ ∷ []) end₁
    → Unread (history cs left) (map byte (take count bytes)) reply packet end reply₁ packet₁ end₁
refused_packet names w listed d begins cs left end chain bytes reply packet count m size k reply₁ packet₁ end₁ next =
    by_last (repeated l.line.sequence found.sequence) refl
  where
    l : Ledger
    l = after (start names) cs

    a : Agreeing names cs left end
    a = agreeing listed begins chain

    more : Left
    more = took count (New m size (Err k)) reply₁ packet₁

    found : NewFound l bytes count
    found =
        new_found names l bytes reply packet count m size (Err k) reply₁ packet₁
        (next_call a next).gives

    closes : Closes (history cs left) (map byte (take count bytes)) (frames.good found.sequence found.payload)
    closes = closes_here names cs left end a bytes count (frames.good found.sequence found.payload) found.counted found.closes

    by_last : (t : Bool) → repeated l.line.sequence found.sequence ≡ t → Unread (history cs left) (map byte (take count bytes)) reply packet end reply₁ packet₁ end₁
    by_last true e =
        let said = (dropped names cs left end a bytes reply packet more end₁ next found.sequence found.payload closes e).answers in
        impossible cc
    by_last false e =
        let new = read_new names cs left end a bytes reply packet more end₁ next found.sequence found.payload closes e in
        let said = new.answers in
        let refused : (read_board end.board found.payload).answer ≡ Err k = cc in
        let replied : reply₁ ≡ put_at reply 0 (answer_to found.sequence) = cc in
        let handed : packet₁ ≡ put_at packet 0 found.payload = cc in
        record {
          sequence = found.sequence;
          payload = found.payload;
          closes = closes;
          replied = replied;
          handed_up = handed;
          board_kept = new.board ∙ read_unread end.board found.payload k refused;
          counts = new.counts ∙ rw refused;
        }
