-- A call that closes a good data frame, by the ledger's last sequence: a frame with it, not 0, is answered and dropped, and every other one
-- is new and read by the board.
use Rattle.std.specs.Prelude.{Result, Ok, Err}
use mathlib.Core.Path.{◌≡◌, sym, ap, ◌∙◌}
use mathlib.Core.Bool.{true, false}
use mathlib.Core.List.{List, [], ◌∷◌, map, append_cancel_left}
use mathlib.Core.Option.{Option, some, none}
use Prim.Native.Nat.{ℕ}
use lib.ListN.{length}
use Rattle.slices.specs.Put.{put_at}
use Rattle.rows.specs.Entries.{board_showing}
use Rattle.rows.specs.Names.{place_of}
use Rattle.rows.specs.Rows.{row_count}
use Rattle.board.specs.Reading as reading
use Rattle.board.specs.Reading.{Verdict, read_board}
use Rattle.board.specs.declared.reading.Done.{Done}
use Rattle.refusals.specs.declared.Refusal.{Refusal}
use Rattle.link.specs.Counts.{count_of}
use Rattle.link.specs.declared.counts.Counts.{Counts}
use Rattle.link.specs.declared.counts.Event.TheVariants as event
use Rattle.link.specs.Walk.{walk_of}
use Rattle.display.specs.declared.Answer.TheVariants.{Again, New}
use Rattle.display.specs.declared.Display.{Display}
use Rattle.ledger.specs.Ledger.{Ledger, start}
use Rattle.ledger.specs.Frames as frames
use Rattle.ledger.specs.Answers as given
use Rattle.ledger.specs.Answers.{Call, piece}
use Rattle.ledger.specs.Calls as calls
use Rattle.ledger.specs.Calls.{Effect, answer_to, repeated, closed, with_run, step, after}
use Rattle.ledger.specs.Shown.{as_counts, as_entry, as_updated, as_reading, Left, took, as_left}
use Rattle.ledger.specs.History.{events_of, history}
use Rattle.ledger.specs.ClosedFrames.{marks_from, frames_of, frames_in, Closes}
use Rattle.ledger.proofs.CountAgreement.{count_new, count_again, count_unread}
use Rattle.ledger.proofs.PacketAgreement.{read_shown, read_answered}
use Rattle.ledger.proofs.Chain.{Chain}
use Rattle.ledger.proofs.EveryList.{Agreeing, next_call}
use Rattle.ledger.proofs.ByEvents.{after_history, frames_append}
use Rattle.ledger.proofs.ClosedCalls.{ClosedBy, step_closes}
use Rattle.ledger.proofs.SameHistory.{after_by}
use Rattle.ledger.proofs.StepAgreement.{Gives}

-- a call that answered a data frame and dropped it: again plus 1, the packet buffer and the board are as they were
pub record Dropped (sequence : ℕ) (reply packet : List ℕ) (before : Display) (more : Left) (behind : Display) : Type 0 where
  pub taken : ℕ
  pub answers : more ≡ took taken (Again (length (answer_to sequence))) (put_at reply 0 (answer_to sequence)) packet
  pub counts : behind.link.counts ≡ count_of event.Again before.link.counts
  pub board : behind.board ≡ before.board

-- new plus 1, and for a packet that the board refused unread plus 1
abbrev pub count_read : Result Done Refusal → Counts → Counts
count_read (Err n) counts = count_of event.Unread (count_of event.New counts)
count_read (Ok done) counts = count_of event.New counts

-- a call that answered it as new: its payload is handed up, and the board has read it
pub record ReadAsNew (sequence : ℕ) (payload reply packet : List ℕ) (before : Display) (more : Left) (behind : Display) : Type 0 where
  pub taken : ℕ
  pub answers :
      more
      ≡ took taken (New (length (answer_to sequence)) (length payload) (read_board before.board payload).answer) (put_at reply 0 (answer_to sequence))
      (put_at packet 0 payload)
  pub counts : behind.link.counts ≡ count_read (read_board before.board payload).answer before.link.counts
  pub board : behind.board ≡ (read_board before.board payload).board

-- the ledger's counts after a packet was read
read_counts : (names : List (List ℕ)) (l : Ledger) (sequence : ℕ) (v : Verdict)
    → count_read (as_reading names v) (as_counts l.line.counts) ≡ as_counts (calls.after_reading (calls.after_new l sequence) v).line.counts
read_counts names l sequence (reading.refused n) = ap (count_of event.Unread) (count_new l.line.counts) ∙ count_unread (calls.after_new l sequence).line.counts
read_counts names l sequence (reading.end_mark id) = count_new l.line.counts
read_counts names l sequence (reading.update id name value) = by_place (place_of name names)
  where
    by_place : (o : Option ℕ) → count_read (Ok (as_updated id o)) (as_counts l.line.counts) ≡ as_counts (calls.after_new l sequence).line.counts
    by_place (some place) = count_new l.line.counts
    by_place none = count_new l.line.counts

module _ (names : List (List ℕ)) (cs : List Call) (left : List Left) (end : Display) (a : Agreeing names cs left end)
    (bytes reply packet : List ℕ) (more : Left) (end₁ : Display) (next : Chain end (piece bytes reply packet ∷ []) (more ∷ []) end₁)
    (sequence : ℕ) (payload : List ℕ)
    (closes : Closes (history cs left) (events_of (piece bytes reply packet) more) (frames.good sequence payload)) where
  abbrev l : Ledger
  l = after (start names) cs

  abbrev c : Call
  c = piece bytes reply packet

  one_call : Gives row_count names (step l c) more end₁
  one_call = next_call a next

  ledger_is : l ≡ after_history (start names) (history cs left)
  ledger_is = after_by names cs left a.all.gives

  step_is : ClosedBy l reply packet sequence payload (step l c)
  step_is =
      let here : frames_of (marks_from (after_history (start names) (history cs left)).line.run (events_of c more)) ≡ frames.good sequence payload ∷ [] =
      append_cancel_left (frames_in (history cs left)) _ _ (sym (frames_append (start names) (history cs left) (events_of c more)) ∙ closes) in
      step_closes names l bytes reply packet sequence payload (rw (← ledger_is, one_call.gives) at here)

  -- by what the frame comes to
  module _ (e : Effect) (is : closed (with_run l step_is.run) (frames.good sequence payload) ≡ e) where
    left_is : more ≡ as_left names (given.took step_is.count e.answer (put_at reply 0 e.reply) (put_at packet 0 e.packet))
    left_is =
        one_call.gives
        ∙ ap (as_left names) step_is.gives
        ∙ ap (λ (x : Effect). as_left names (given.took step_is.count x.answer (put_at reply 0 x.reply) (put_at packet 0 x.packet))) is

    shown_is : end₁.board ≡ board_showing row_count (map as_entry e.ledger.hives.entries)
    shown_is = one_call.agrees.shows.showing ∙ ap (λ (m : Ledger). board_showing row_count (map as_entry m.hives.entries)) (step_is.leaves ∙ ap (λ (x : Effect). x.ledger) is)

    counted_is : end₁.link.counts ≡ as_counts e.ledger.line.counts
    counted_is = one_call.agrees.counts_are ∙ ap (λ (m : Ledger). as_counts m.line.counts) (step_is.leaves ∙ ap (λ (x : Effect). x.ledger) is)

  pub dropped : repeated l.line.sequence sequence ≡ true → Dropped sequence reply packet end more end₁
  dropped again =
      let run = with_run l step_is.run in
      let is : closed run (frames.good sequence payload) ≡ calls.repeated_frame run sequence = rw again in
      record {
        taken = step_is.count;
        answers = left_is (calls.repeated_frame run sequence) is;
        counts =
            counted_is (calls.repeated_frame run sequence) is
            ∙ sym (ap (count_of event.Again) a.all.agrees.counts_are ∙ count_again l.line.counts);
        board = shown_is (calls.repeated_frame run sequence) is ∙ sym a.all.agrees.shows.showing;
      }

  pub read_new : repeated l.line.sequence sequence ≡ false → ReadAsNew sequence payload reply packet end more end₁
  read_new fresh =
      let run = with_run l step_is.run in
      let is : closed run (frames.good sequence payload) ≡ calls.new_frame run sequence payload = rw fresh in
      let walk = walk_of [] end.link.content end.link.reader 0 in
      let shows = a.all.agrees.shows in
      let answered = read_answered names a.fit walk run end.board shows sequence payload in
      let shown = read_shown names a.fit walk run end.board shows sequence payload in
      record {
        taken = step_is.count;
        answers = rw answered (left_is (calls.new_frame run sequence payload) is);
        counts =
            counted_is (calls.new_frame run sequence payload) is
            ∙ sym
            (rw answered (ap (count_read (as_reading names (calls.reading_by run payload))) a.all.agrees.counts_are
            ∙ read_counts names run sequence (calls.reading_by run payload)));
        board = shown_is (calls.new_frame run sequence payload) is ∙ sym shown;
      }
