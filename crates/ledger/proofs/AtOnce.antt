-- DEMAND 3, a frame repeated at once: the ledger's last sequence is that of the last data frame in the history, whatever came between, so a
-- good data frame with it, not 0, is dropped, and every other one is new and read.
use mathlib.Core.Path.{◌≡◌, sym, ap, ◌∙◌}
use mathlib.Core.Bool.{true, false}
use mathlib.Core.List.{List, [], ◌∷◌}
use mathlib.Core.Option.{Option, some}
use Prim.Native.Nat.{ℕ}
use Rattle.display.specs.declared.Display.{Display}
use Rattle.ledger.specs.Ledger.{Ledger, start}
use Rattle.ledger.specs.Frames as frames
use Rattle.ledger.specs.Answers.{WatchList, names_in, Call, piece}
use Rattle.ledger.specs.Calls.{repeated, after}
use Rattle.ledger.specs.Shown.{Left}
use Rattle.ledger.specs.History.{events_of, history}
use Rattle.ledger.specs.ClosedFrames.{Closes, last_sequence}
use Rattle.ledger.proofs.Chain.{Begins, Chain}
use Rattle.ledger.proofs.EveryList.{Agreeing, agreeing}
use Rattle.ledger.proofs.ByEvents.{history_sequence}
use Rattle.ledger.proofs.SameHistory.{after_by}
use Rattle.ledger.proofs.LineLaws.{repeats, zero_new, other_new}
use Rattle.ledger.proofs.DataCalls.{Dropped, ReadAsNew, dropped, read_new}

-- by the sequence of the last data frame, if there was one
pub record AtOnce (last : Option ℕ) (sequence : ℕ) (payload reply packet : List ℕ) (before : Display) (more : Left) (behind : Display) : Type 0 where
  pub repeated : last ≡ some sequence → (sequence ≡ 0 → ⊥) → Dropped sequence reply packet before more behind
  pub zero : sequence ≡ 0 → ReadAsNew sequence payload reply packet before more behind
  pub other : (last ≡ some sequence → ⊥) → ReadAsNew sequence payload reply packet before more behind

module _ (names : List (List ℕ)) (cs : List Call) (left : List Left) (end : Display) (a : Agreeing names cs left end)
    (bytes reply packet : List ℕ) (more : Left) (end₁ : Display) (next : Chain end (piece bytes reply packet ∷ []) (more ∷ []) end₁)
    (sequence : ℕ) (payload : List ℕ)
    (closes : Closes (history cs left) (events_of (piece bytes reply packet) more) (frames.good sequence payload)) where
  abbrev last : Option ℕ
  last = (after (start names) cs).line.sequence

  last_is : last_sequence (history cs left) ≡ last
  last_is =
      sym (ap (λ (m : Ledger). m.line.sequence) (after_by names cs left a.all.gives) ∙ history_sequence (start names) (history cs left))

  drops : repeated last sequence ≡ true → Dropped sequence reply packet end more end₁
  drops = dropped names cs left end a bytes reply packet more end₁ next sequence payload closes

  reads : repeated last sequence ≡ false → ReadAsNew sequence payload reply packet end more end₁
  reads = read_new names cs left end a bytes reply packet more end₁ next sequence payload closes

  by_last : AtOnce (last_sequence (history cs left)) sequence payload reply packet end more end₁
  by_last =
      record {
        repeated = λ same some_sequence. drops (repeats last sequence (sym last_is ∙ same) some_sequence);
        zero = λ none. reads (zero_new last sequence none);
        other = λ differs. reads (other_new last sequence (λ same. differs (last_is ∙ same)));
      }

-- THEOREM. After every list of calls: where the next call closes a good data frame that has the sequence of the last data frame, not 0,
-- the frame is answered and dropped, and the board is as it was, whatever came between the two that was no data frame. With sequence 0, or
-- with another sequence than the last, it is new, and the board has read it.
pub repeated_at_once : (names : List (List ℕ)) (w : WatchList) → names_in w ≡ some names → (d : Display) → Begins w d
    → (cs : List Call) (left : List Left) (end : Display) → Chain d cs left end
    → (bytes reply packet : List ℕ) (more : Left) (end₁ : Display) → Chain end (piece bytes reply packet ∷ []) (more ∷ []) end₁
    → (sequence : ℕ) (payload : List ℕ) → Closes (history cs left) (events_of (piece bytes reply packet) more) (frames.good sequence payload)
    → AtOnce (last_sequence (history cs left)) sequence payload reply packet end more end₁
repeated_at_once names w listed d begins cs left end chain bytes reply packet more end₁ next sequence payload closes =
    by_last names cs left end (agreeing listed begins chain) bytes reply packet more end₁ next sequence payload closes
