-- A new packet does to link and board what it does to the ledger: the board watches the ledger's names, so it reads the same in it, and the
-- row of an update is its name's place among them.
use Rattle.std.specs.Prelude.{Ok, Err}
use mathlib.Core.Path.{◌≡◌, refl, sym, ap, ◌∙◌}
use mathlib.Core.List.{List, [], ◌++◌, map}
use mathlib.Core.Option.{Option, some}
use Prim.Native.Nat.{ℕ, ◌-◌}
use lib.IntN.{ℤ}
use lib.ListN.{length, replicate}
use Rattle.rows.specs.Entries.{entry_name, board_showing}
use Rattle.rows.specs.Names.{place_of}
use Rattle.rows.specs.Rows.{row_names, watched, update_board}
use Rattle.rows.specs.declared.Board.{Board}
use Rattle.rows.proofs.EntryLaws.{Named, showing_names, update_showing}
use Rattle.board.specs.Reading as reading
use Rattle.board.specs.Reading.{Verdict, reading_of, read_board}
use Rattle.board.specs.declared.reading.Reading as declared_reading
use Rattle.board.specs.declared.reading.Done.TheVariants as board_says
use Rattle.refusals.specs.declared.Refusal.{Refusal}
use Rattle.board.proofs.NameLaws.{Fits}
use Rattle.board.proofs.EntryLaws.{There, rows_named, showing_watched, read_refused, read_end, read_update_law, update_there}
use Rattle.link.specs.Closing.{Outcome, acknowledgement, new_frame}
use Rattle.link.specs.Receiving.{call_of, with_unread_packet}
use Rattle.link.specs.declared.receiver.Link.{Link}
use Rattle.link.specs.Walk.{Walk}
use Rattle.link.specs.Counts.{count_of}
use Rattle.link.specs.declared.counts.Event.TheVariants as event
use Rattle.display.specs.Display.{count_reading, received, take_reading}
use Rattle.ledger.specs.Ledger.{Ledger, name_of}
use Rattle.ledger.specs.Answers as answers
use Rattle.ledger.specs.Calls as calls
use Rattle.ledger.specs.Calls.{Effect, after_new, after_reading}
use Rattle.ledger.specs.Shown.{as_counts, as_sender, as_entry, as_updated, as_reading}
use Rattle.ledger.proofs.CountAgreement.{count_new, count_unread}
use Rattle.ledger.proofs.RowAgreement.{entries_updated, names_updated, names_shown, place_listed}
use Rattle.ledger.proofs.FrameOutcomes.{as_last, Shows, Effects, EffectsOf}

module _ {count : ℕ} (names : List (List ℕ)) (fit : Fits names) (w : Walk) (l : Ledger) (board : Board) (shows₀ : Shows count names l.hives.entries board) where
  -- the names that the board watches are the ledger's
  shown_are : map entry_name (map as_entry l.hives.entries) ≡ names
  shown_are = names_shown l.hives.entries ∙ shows₀.named

  rows_have : Named (map as_entry l.hives.entries)
  rows_have = rows_named (map as_entry l.hives.entries) (rw shown_are fit)

  watched_is : watched board ≡ map name_of l.hives.entries
  watched_is = ap watched shows₀.showing ∙ showing_watched count (map as_entry l.hives.entries) (rw shown_are fit) ∙ names_shown l.hives.entries

  module _ (sequence : ℕ) (payload : List ℕ) where
    abbrev fresh : Outcome
    fresh = new_frame sequence payload (as_counts l.line.counts)

    abbrev effect_by : Verdict → Effect
    effect_by v =
        record {
          ledger = after_reading (after_new l sequence) v;
          answer = answers.new sequence payload v;
          reply = calls.answer_to sequence;
          packet = payload;
        }

    abbrev AgreedBy : declared_reading.Reading → Verdict → Type 0
    AgreedBy r v =
        Effects count names w (take_reading (received (call_of w fresh)) (as_sender l.sender) (length (acknowledgement sequence)) (length payload) r) (acknowledgement sequence) payload (effect_by v)

    -- one that has been read, by the link's state that it leaves
    read_agrees : (r : declared_reading.Reading) (v : Verdict) (state : Link) → count_reading (call_of w fresh).link r.answer ≡ state
        → r.answer ≡ as_reading names v → state.content ≡ w.content → state.reader ≡ w.reader
        → state.last ≡ as_last (effect_by v).ledger.line.sequence → state.counts ≡ as_counts (effect_by v).ledger.line.counts
        → (effect_by v).ledger.sender ≡ l.sender → Shows count names (effect_by v).ledger.hives.entries r.board → AgreedBy r v
    unfolding acknowledgement
    read_agrees r v state leaves answer of-content of_reader of-last of-counts of_sender shows₁ =
        rw (leaves, answer)
        (record {
          answers = refl;
          replied = refl;
          handed = refl;
          counted = refl;
          content_is = of-content;
          reader_is = of_reader;
          last_is = of-last;
          counts_are = of-counts;
          sender_is = ap as_sender (sym of_sender);
          shows = shows₁;
        })

    unread_agrees : (n : Refusal) → AgreedBy (record { board = board; answer = Err n }) (reading.refused n)
    unread_agrees n =
        read_agrees _ (reading.refused n) (with_unread_packet (call_of w fresh).link) refl refl refl refl refl
        (ap (count_of event.Unread) (count_new l.line.counts) ∙ count_unread (after_new l sequence).line.counts) refl shows₀

    end_agrees : (id : ℕ) → AgreedBy (record { board = board; answer = Ok (board_says.EndMark id) }) (reading.end_mark id)
    end_agrees id = read_agrees _ (reading.end_mark id) (call_of w fresh).link refl refl refl refl refl (count_new l.line.counts) refl shows₀

    -- the row of an update is its name's place in the watch list
    place_is : (name : List ℕ) → (t : There board name) → place_of name names ≡ some t.place
    place_is name t =
        let es = map as_entry l.hives.entries in
        let in_rows : row_names board ≡ names ++ replicate (count - length es) [] =
        ap row_names shows₀.showing ∙ showing_names count es rows_have ∙ ap (λ (ns : List (List ℕ)). ns ++ replicate (count - length es) []) shown_are in
        sym (place_listed name names (count - length es) 0 t.named) ∙ ap (place_of name) (sym in_rows) ∙ t.stands

    update_agrees : (id : ℕ) (name : List ℕ) (value : ℤ) (t : There board name)
        → AgreedBy (record { board = update_board t.place value board; answer = Ok (board_says.Updated t.place id) }) (reading.update id name value)
    update_agrees id name value t =
        let here = ap (λ (o : Option ℕ). Ok (as_updated id o)) (place_is name t) in
        let stands = ap (λ (b : Board). place_of name (row_names b)) (sym shows₀.showing) ∙ t.stands in
        read_agrees _ (reading.update id name value) (call_of w fresh).link refl (sym here) refl refl refl (count_new l.line.counts) refl
        (record {
          showing =
              ap (update_board t.place value) shows₀.showing
              ∙ update_showing count (map as_entry l.hives.entries) name t.place value rows_have t.named stands
              ∙ ap (board_showing count) (entries_updated name value l.hives.entries);
          named = names_updated name value l.hives.entries ∙ shows₀.named;
        })

    pub new_agrees : EffectsOf count names (as_sender l.sender) board w fresh (calls.new_frame l sequence payload)
    new_agrees = by_verdict (reading_of (map name_of l.hives.entries) payload) refl
      where
        by_row : (id : ℕ) (name : List ℕ) (value : ℤ) (t : There board name) → reading_of (watched board) payload ≡ reading.update id name value
            → reading_of (map name_of l.hives.entries) payload ≡ reading.update id name value → EffectsOf count names (as_sender l.sender) board w fresh (calls.new_frame l sequence payload)
        by_row id name value t watching e =
            rw (read_update_law board payload id name value t.place watching t.stands, e) (update_agrees id name value t)

        by_verdict : (v : Verdict) → reading_of (map name_of l.hives.entries) payload ≡ v → EffectsOf count names (as_sender l.sender) board w fresh (calls.new_frame l sequence payload)
        by_verdict (reading.refused n) e =
            let watching = ap (λ (ns : List (List ℕ)). reading_of ns payload) watched_is ∙ e in
            rw (read_refused board payload n watching, e) (unread_agrees n)
        by_verdict (reading.end_mark id) e =
            let watching = ap (λ (ns : List (List ℕ)). reading_of ns payload) watched_is ∙ e in
            rw (read_end board payload id watching, e) (end_agrees id)
        by_verdict (reading.update id name value) e =
            let watching = ap (λ (ns : List (List ℕ)). reading_of ns payload) watched_is ∙ e in
            by_row id name value (update_there board payload id name value watching) watching e

    -- so what the board makes of the packet is what the ledger makes of it
    pub read_shown : (read_board board payload).board ≡ board_showing count (map as_entry (calls.new_frame l sequence payload).ledger.hives.entries)
    read_shown = new_agrees.shows.showing

    pub read_answered : (read_board board payload).answer ≡ as_reading names (calls.reading_by l payload)
    read_answered = let same = new_agrees.answers in cc
