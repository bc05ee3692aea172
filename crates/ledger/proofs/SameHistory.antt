-- DEMAND 3, cuts of the byte stream do not matter: what the calls took, the ticks, the sends and the timeouts settle the ledger, so lists of
-- calls with the same history are alike in all that they answered and handed out, in counts, board and sender, and in all that comes
-- behind.
use mathlib.Core.Path.{◌≡◌, sym, ap, ◌∙◌}
use mathlib.Core.List.{List, map}
use mathlib.Core.Option.{some}
use Prim.Native.Nat.{ℕ}
use Rattle.rows.specs.Entries.{board_showing}
use Rattle.rows.specs.Rows.{row_count}
use Rattle.display.specs.declared.Display.{Display}
use Rattle.ledger.specs.Ledger.{Ledger, start}
use Rattle.ledger.specs.Answers.{WatchList, names_in, Call}
use Rattle.ledger.specs.Calls.{given, after}
use Rattle.ledger.specs.Shown.{as_counts, as_sender, as_entry, Left, as_left}
use Rattle.ledger.specs.History.{Event, history, all_handed, all_answers}
use Rattle.ledger.proofs.Chain.{Begins, Chain}
use Rattle.ledger.proofs.EveryList.{chain_agrees, Agreeing, agreeing}
use Rattle.ledger.proofs.ByEvents.{Told, after_history, told_in_history}
use Rattle.ledger.proofs.HistoryLaws.{after_history_law, told_out, told_history}
use Rattle.ledger.proofs.ToldLaws.{handed_with, as_told, all_handed_law, all_told}

-- what further calls left of each
pub record SameNext (more more₁ : List Left) (then then₁ : Display) : Type 0 where
  pub answered : more ≡ more₁
  pub counts : then.link.counts ≡ then₁.link.counts
  pub board : then.board ≡ then₁.board
  pub sender : then.sender ≡ then₁.sender

-- two displays after a list of calls each: what the calls left, and what further calls leave
pub record Alike (left left₁ : List Left) (end end₁ : Display) : Type 0 where
  -- all answers in order: of pieces all but "nothing" and refusal 7, of sends and timeouts all but refusals
  pub answers : all_answers left ≡ all_answers left₁
  -- replies, frames of our own and packets in order, as they stand in the buffers
  pub handed : all_handed left ≡ all_handed left₁
  pub counts : end.link.counts ≡ end₁.link.counts
  pub board : end.board ≡ end₁.board
  pub sender : end.sender ≡ end₁.sender
  -- the same further calls are answered alike, one by one, refused or not, leave the same in their buffers, and then counts, board and
  -- sender are alike again
  pub next : (ds : List Call) (more more₁ : List Left) (then then₁ : Display) → Chain end ds more then → Chain end₁ ds more₁ then₁
      → SameNext more more₁ then then₁

module _ (names : List (List ℕ)) where
  -- what a list of calls told, by its history
  pub told_by_law : (cs : List Call) (left : List Left) → left ≡ map (as_left names) (given (start names) cs)
      → told_out names (start names) cs ≡ told_in_history (start names) (history cs left)
  told_by_law cs left gives = rw gives (told_history names (start names) cs)

  pub after_by : (cs : List Call) (left : List Left) → left ≡ map (as_left names) (given (start names) cs)
      → after (start names) cs ≡ after_history (start names) (history cs left)
  after_by cs left gives = rw gives (after_history_law names (start names) cs)

  module _ (cs cs₁ : List Call) (left left₁ : List Left) (end end₁ : Display)
      (one : Agreeing names cs left end) (two : Agreeing names cs₁ left₁ end₁) (same : history cs left ≡ history cs₁ left₁) where
    same_ledger : after (start names) cs ≡ after (start names) cs₁
    same_ledger =
        after_by cs left one.all.gives
        ∙ ap (λ (h : List Event). after_history (start names) h) same
        ∙ sym (after_by cs₁ left₁ two.all.gives)

    same_told : told_out names (start names) cs ≡ told_out names (start names) cs₁
    same_told =
        told_by_law cs left one.all.gives
        ∙ ap (λ (h : List Event). told_in_history (start names) h) same
        ∙ sym (told_by_law cs₁ left₁ two.all.gives)

    alike : Alike left left₁ end end₁
    alike =
        record {
          answers =
              ap all_answers one.all.gives
              ∙ all_told names (start names) cs
              ∙ ap (λ (all : List Told). map (as_told names) all) same_told
              ∙ sym (ap all_answers two.all.gives ∙ all_told names (start names) cs₁);
          handed =
              ap all_handed one.all.gives
              ∙ all_handed_law names (start names) cs
              ∙ ap handed_with same_told
              ∙ sym (ap all_handed two.all.gives ∙ all_handed_law names (start names) cs₁);
          counts =
              one.all.agrees.counts_are
              ∙ ap (λ (m : Ledger). as_counts m.line.counts) same_ledger
              ∙ sym two.all.agrees.counts_are;
          board =
              one.all.agrees.shows.showing
              ∙ ap (λ (m : Ledger). board_showing row_count (map as_entry m.hives.entries)) same_ledger
              ∙ sym two.all.agrees.shows.showing;
          sender =
              one.all.agrees.sender_is
              ∙ ap (λ (m : Ledger). as_sender m.sender) same_ledger
              ∙ sym two.all.agrees.sender_is;
          next =
              λ ds more more₁ then then₁ calls calls₁.
              let here = chain_agrees names one.fit (after (start names) cs) calls one.all.agrees in
              let there = chain_agrees names two.fit (after (start names) cs₁) calls₁ two.all.agrees in
              record {
                answered = here.gives ∙ ap (λ (m : Ledger). map (as_left names) (given m ds)) same_ledger ∙ sym there.gives;
                counts =
                    here.agrees.counts_are
                    ∙ ap (λ (m : Ledger). as_counts (after m ds).line.counts) same_ledger
                    ∙ sym there.agrees.counts_are;
                board =
                    here.agrees.shows.showing
                    ∙ ap (λ (m : Ledger). board_showing row_count (map as_entry (after m ds).hives.entries)) same_ledger
                    ∙ sym there.agrees.shows.showing;
                sender =
                    here.agrees.sender_is
                    ∙ ap (λ (m : Ledger). as_sender (after m ds).sender) same_ledger
                    ∙ sym there.agrees.sender_is;
              };
        }

-- THEOREM. Lists of calls from fresh starts with the same names, whose bytes taken, ticks, sends and timeouts are the same in order, are
-- alike, wherever the pieces were cut and whichever calls among them were refused; and so is the next event: whether it is refused, and
-- what it drops and reports.
pub same_history : (names : List (List ℕ)) (w w₁ : WatchList) → names_in w ≡ some names → names_in w₁ ≡ some names
    → (d d₁ : Display) → Begins w d → Begins w₁ d₁ → (cs cs₁ : List Call) (left left₁ : List Left) (end end₁ : Display)
    → Chain d cs left end → Chain d₁ cs₁ left₁ end₁ → history cs left ≡ history cs₁ left₁ → Alike left left₁ end end₁
same_history names w w₁ listed listed₁ d d₁ b b₁ cs cs₁ left left₁ end end₁ c c₁ same =
    alike names cs cs₁ left left₁ end end₁ (agreeing listed b c) (agreeing listed₁ b₁ c₁) same
