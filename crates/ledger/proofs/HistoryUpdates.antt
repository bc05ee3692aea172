-- What the ledger holds of a name after a history is the value of its last accepted update and the ticks since, read off what went to the
-- board: frame by frame and minute by minute the entries follow what is sent there.
use mathlib.Core.Path.{◌≡◌, refl, sym, ap, ap₂, ◌∙◌}
use mathlib.Core.Bool.{Bool, true, false}
use mathlib.Core.List.{List, [], ◌∷◌, ◌++◌, map}
use mathlib.Core.Option.{Option, some}
use Prim.Native.Nat.{ℕ}
use Rattle.board.specs.Reading.{reading_of}
use Rattle.board.specs.WatchList.{distinct}
use Rattle.ledger.specs.Ledger.{Update, Entry, Ledger, name_of, with_last}
use Rattle.ledger.specs.Frames as frames
use Rattle.ledger.specs.Frames.{Turn, goes_on, closes, turn, Frame, frame_of}
use Rattle.ledger.specs.Calls as calls
use Rattle.ledger.specs.Calls.{repeated, closed, with_run}
use Rattle.ledger.specs.History.{Event, byte, minute, send, timeout}
use Rattle.ledger.specs.ClosedFrames.{behind_turn, marks_from}
use Rattle.ledger.specs.BoardEvents.{BoardEvent, tick, packet, behind_frame, board_events_of}
use Rattle.ledger.proofs.ByEvents.{at_turn, happens, after_history}
use Rattle.ledger.proofs.LineLaws.{run_kept, repeats_last, read_sequence}
use Rattle.ledger.proofs.UpdateLaws.{after_events, last_update, split_last, kept_all, on_reading, read_followed}

module _ (names : List (List ℕ)) where
  followed_on : (xs ys : List BoardEvent) (es : List Entry) → map (after_events names ys) (map (after_events names xs) es) ≡ map (after_events names (xs ++ ys)) es
  followed_on xs ys [] = refl
  followed_on xs ys (e ∷ es) =
      ap₂ (λ (u : Option Update) (l : List Entry). with_last e u ∷ l) (sym (split_last names e.name xs ys e.last))
      (followed_on xs ys es)

  names_followed : (events : List BoardEvent) (es : List Entry) → map name_of (map (after_events names events) es) ≡ map name_of es
  names_followed events [] = refl
  names_followed events (e ∷ es) = ap (λ (l : List (List ℕ)). e.name ∷ l) (names_followed events es)

  -- what one frame or one minute sends to the board, and what that does to the entries
  record Followed (l : Ledger) (next : Ledger) (events : List BoardEvent) : Type 0 where
    entries : next.hives.entries ≡ map (after_events names events) l.hives.entries
    named : map name_of next.hives.entries ≡ names

  followed : (l next : Ledger) (events : List BoardEvent) → map name_of l.hives.entries ≡ names → next.hives.entries ≡ map (after_events names events) l.hives.entries
      → Followed l next events
  followed l next events named is = record { entries = is; named = ap (map name_of) is ∙ names_followed events l.hives.entries ∙ named }

  record FrameFollowed (l : Ledger) (f : Frame) : Type 0 where
    events : List BoardEvent
    sends : (rest : Option ℕ → List BoardEvent) → behind_frame f l.line.sequence rest ≡ events ++ rest (closed l f).ledger.line.sequence
    does : Followed l (closed l f).ledger events

  frame_followed : (l : Ledger) (f : Frame) → map name_of l.hives.entries ≡ names → distinct names ≡ true → FrameFollowed l f
  unfolding last_update
  frame_followed l (frames.refused k place) named once = record { events = []; sends = λ rest. refl; does = followed l _ [] named (sym (kept_all l.hives.entries)) }
  frame_followed l (frames.acknowledgement sequence) named once =
      record { events = []; sends = λ rest. refl; does = followed l _ [] named (sym (kept_all l.hives.entries)) }
  frame_followed l (frames.good sequence payload) named once = by_last (repeated l.line.sequence sequence) refl
    where
      by_last : (t : Bool) → repeated l.line.sequence sequence ≡ t → FrameFollowed l (frames.good sequence payload)
      by_last true e =
          let same = repeats_last l.line.sequence sequence e in
          record {
            events = [];
            sends = λ rest. rw e (ap rest (sym same));
            does = rw e (followed l _ [] named (sym (kept_all l.hives.entries)));
          }
      by_last false e =
          let v = calls.reading_by l payload in
          let read =
          read_followed (calls.after_new l sequence) v (ap distinct named ∙ once)
          ∙ ap (λ (ns : List (List ℕ)). map (on_reading (reading_of ns payload)) l.hives.entries) named in
          record {
            events = packet payload ∷ [];
            sends = λ rest. rw e (ap (λ (o : Option ℕ). packet payload ∷ rest o) (sym (read_sequence l sequence v)));
            does = rw e (followed l _ (packet payload ∷ []) named read);
          }

  -- the entries after a history
  pub history_followed : (l : Ledger) (es : List Event) → map name_of l.hives.entries ≡ names → distinct names ≡ true
      → (after_history l es).hives.entries ≡ map (after_events names (board_events_of l.line.sequence (marks_from l.line.run es))) l.hives.entries
  unfolding after_history marks_from board_events_of last_update
  history_followed l [] named once = sym (kept_all l.hives.entries)
  history_followed l (minute ∷ es) named once =
      let next = (happens l minute).ledger in
      let first = followed l next (tick ∷ []) named refl in
      history_followed next es first.named once ∙ followed_on (tick ∷ []) (board_events_of l.line.sequence (marks_from l.line.run es)) l.hives.entries
  history_followed l (send payload ∷ es) named once = history_followed (happens l (send payload)).ledger es named once
  history_followed l (timeout ∷ es) named once = history_followed (happens l timeout).ledger es named once
  history_followed l (byte b ∷ es) named once = by_turn (turn l.line.run b) (λ m shown. history_followed m es shown once)
    where
      by_turn : (t : Turn)
          → ((m : Ledger) → map name_of m.hives.entries ≡ names → (after_history m es).hives.entries ≡ map (after_events names (board_events_of m.line.sequence (marks_from m.line.run es))) m.hives.entries)
          → (after_history (at_turn l t).ledger es).hives.entries
          ≡ map (after_events names (board_events_of l.line.sequence (behind_turn t (λ run. marks_from run es)))) l.hives.entries
      by_turn (goes_on run) rest = rest (with_run l run) named
      by_turn (closes run) rest =
          let here = with_run l (some []) in
          let m = (closed here (frame_of run)).ledger in
          let f = frame_followed here (frame_of run) named once in
          let empty : m.line.run ≡ some [] = run_kept here (frame_of run) in
          let behind = board_events_of m.line.sequence (marks_from (some []) es) in
          rw empty at (rest m f.does.named)
          ∙ ap (map (after_events names behind)) f.does.entries
          ∙ followed_on f.events behind l.hives.entries
          ∙ ap (λ (bs : List BoardEvent). map (after_events names bs) l.hives.entries) (sym (f.sends (λ last. board_events_of last (marks_from (some []) es))))
