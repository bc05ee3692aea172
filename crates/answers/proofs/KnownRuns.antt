-- 01, Known answers, run and compared: the frame of case 6 with sequence 01 sent twice, with a tick between. The theorems over every list of
-- calls apply here, since their premises compute: every display that is given these calls drops the second frame, and shows 3450 with age 1.
use mathlib.Core.Path.{◌≡◌, refl, ap, ◌∙◌}
use mathlib.Core.List.{List, [], ◌∷◌, map}
use mathlib.Core.Option.{some}
use Prim.Native.Nat.{ℕ}
use native.Mathlib.Omega.{arith}
use lib.IntN.{pos}
use lib.ListN.{replicate}
use Rattle.slices.specs.Same.{same_bytes}
use Rattle.frame.specs.Writing as writing
use Rattle.rows.specs.Entries.{board_showing}
use Rattle.rows.specs.Names.{place_from}
use Rattle.rows.specs.Rows.{row_count}
use Rattle.rows.specs.declared.Board.{Board}
use Rattle.rows.specs.declared.State.TheVariants.{Current}
use Rattle.link.specs.declared.counts.Counts.{Counts}
use Rattle.display.specs.declared.Display.{Display}
use Rattle.ledger.specs.Ledger.{start}
use Rattle.ledger.specs.Frames.{good}
use Rattle.ledger.specs.Answers.{one_by_one, Call, piece, tick}
use Rattle.ledger.specs.Calls.{step, given, after}
use Rattle.ledger.specs.Shown.{as_counts, as_entry, Left, as_left, row_at}
use Rattle.ledger.specs.History.{events_of, history}
use Rattle.ledger.specs.ClosedFrames.{marks_from, frames_of, Closes, data_sequences, last_from, last_sequence}
use Rattle.ledger.specs.BoardEvents.{board_events_in}
use Rattle.ledger.specs.LastAccepted.{LastAccepted}
use Rattle.ledger.proofs.Chain.{Begins, Chain}
use Rattle.ledger.proofs.EveryList.{agreeing, next_call}
use Rattle.ledger.proofs.AtOnce.{repeated_at_once}
use Rattle.ledger.proofs.DataCalls.{Dropped}
use Rattle.ledger.proofs.CurrentWhen.{current_exactly_when}
use Rattle.answers.proofs.Steps.{packet_steps, frame_steps, ledger_steps}

abbrev h1 : List ℕ
h1 = 0x68 ∷ 0x31 ∷ []

abbrev names : List (List ℕ)
names = h1 ∷ []

abbrev payload : List ℕ
payload = 0x01 ∷ 0x03 ∷ 0x00 ∷ 0x00 ∷ 0x01 ∷ 0x02 ∷ 0x68 ∷ 0x31 ∷ 0x16 ∷ 0x04 ∷ 0x00 ∷ 0x00 ∷ 0x0d ∷ 0x7a ∷ []

abbrev sent : Call
sent = piece (writing.frame_of 0x01 0x01 payload) (replicate 9 0) (replicate 383 0)

abbrev cs : List Call
cs = sent ∷ tick ∷ []

abbrev all : List Call
all = sent ∷ tick ∷ sent ∷ []

-- what the ledger says of the first two calls, and of the third
abbrev left : List Left
left = map (as_left names) (given (start names) cs)

abbrev more : Left
more = as_left names (step (after (start names) cs) sent).given

-- all that the ledger says of them is computed
record Computed : Type 0 where
  last : last_sequence (history cs left) ≡ some 0x01
  closes : Closes (history cs left) (events_of sent more) (good 0x01 payload)
  state : (row_at (board_showing row_count (map as_entry (after (start names) all).hives.entries)) 0).state ≡ Current (pos 3450) 1
  new : (as_counts (after (start names) all).line.counts).new ≡ 1
  again : (as_counts (after (start names) all).line.counts).again ≡ 1

computed : Computed
unfolding packet_steps frame_steps ledger_steps given history marks_from frames_of data_sequences last_from
computed = record { last = refl; closes = refl; state = refl; new = refl; again = refl }

-- THEOREM. Every display that is given these calls drops the second frame: it is answered again, and the board is as it was.
pub second_is_dropped : (d end end₁ : Display) (left₁ : List Left) (more₁ : Left) → Begins (one_by_one names) d → Chain d cs left₁ end
    → Chain end (sent ∷ []) (more₁ ∷ []) end₁ → Dropped 0x01 (replicate 9 0) (replicate 383 0) end more₁ end₁
second_is_dropped d end end₁ left₁ more₁ begins chain next =
    let a = agreeing refl begins chain in
    let gives : left₁ ≡ left = a.all.gives in
    let given_next : more₁ ≡ more = (next_call a next).gives in
    (repeated_at_once names (one_by_one names) refl d begins cs left₁ end chain (writing.frame_of 0x01 0x01 payload) (replicate 9 0) (replicate 383 0) more₁ end₁ next
    0x01 payload (rw (gives, given_next) computed.closes)
    ).repeated (rw gives computed.last) (λ zero. omega arith)

-- what a display shows and has counted
pub record Shows (end : Display) : Type 0 where
  pub state : (row_at end.board 0).state ≡ Current (pos 3450) 1
  pub new : end.link.counts.new ≡ 1
  pub again : end.link.counts.again ≡ 1

-- THEOREM. Every display that is given these calls then shows 3450 with age 1, and has counted new 1 and again 1.
pub value_is_shown : (d end : Display) (left₁ : List Left) → Begins (one_by_one names) d → Chain d all left₁ end → Shows end
value_is_shown d end left₁ begins chain =
    let agrees = (agreeing refl begins chain).all.agrees in
    record {
      state = ap (λ (b : Board). (row_at b 0).state) agrees.shows.showing ∙ computed.state;
      new = ap (λ (c : Counts). c.new) agrees.counts_are ∙ computed.new;
      again = ap (λ (c : Counts). c.again) agrees.counts_are ∙ computed.again;
    }

-- THEOREM. So the last update accepted for h1 had 3450 and closed one tick ago: the repeated frame was none.
pub last_accepted : (d end : Display) (left₁ : List Left) → Begins (one_by_one names) d → Chain d all left₁ end
    → LastAccepted names h1 (pos 3450) 1 (board_events_in (history all left₁))
unfolding place_from same_bytes
last_accepted d end left₁ begins chain =
    ((current_exactly_when names (one_by_one names) refl d begins all left₁ end chain h1 0 refl (pos 3450) 1).0 (value_is_shown d end left₁ begins chain).state).0
