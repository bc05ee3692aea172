-- What it means that display and ledger agree, and that a call keeps it; a tick does, since each row is one tick older in both, and a send
-- and a timeout do, since the sender follows the ledger's rules.
use mathlib.Core.Path.{◌≡◌, refl, ap, ◌∙◌}
use mathlib.Core.List.{List, map}
use Prim.Native.Nat.{ℕ}
use lib.ListN.{length}
use Rattle.rows.specs.Entries.{board_showing}
use Rattle.rows.specs.Rows.{tick_board}
use Rattle.rows.proofs.EntryLaws.{tick_showing}
use Rattle.link.specs.Seen.{Ours}
use Rattle.sender.specs.Events.{send_of, timeout_of}
use Rattle.sender.specs.declared.state.Sender.{Sender}
use Rattle.display.specs.Display.{tick_display}
use Rattle.display.specs.Sending.{SendsAs}
use Rattle.display.specs.declared.Display.{Display}
use Rattle.display.specs.declared.sending.Outgoing.{Outgoing}
use Rattle.ledger.specs.Ledger.{Ledger}
use Rattle.ledger.specs.Calls as calls
use Rattle.ledger.specs.Answers.{tick, send, timeout}
use Rattle.ledger.specs.Calls.{sender_step, step}
use Rattle.ledger.specs.Sending.{SenderStep, send_step, timeout_step}
use Rattle.ledger.specs.Shown.{as_counts, as_sender, as_entry, Left, ticked, outgoing, as_left}
use Rattle.ledger.proofs.RunAgreement.{Standing}
use Rattle.ledger.proofs.RowAgreement.{entries_older, names_older}
use Rattle.ledger.proofs.FrameOutcomes.{as_last, Shows}
use Rattle.ledger.proofs.SenderAgreement.{HeldFits, as_given, send_given, timeout_given, send_fits, timeout_fits}

-- a display with so many rows and the ledger agree
pub record Agrees (count : ℕ) (names : List (List ℕ)) (l : Ledger) (d : Display) : Type 0 where
  pub ours : Ours d.link
  pub standing : Standing l.line.run d.link.content d.link.reader
  pub last_is : d.link.last ≡ as_last l.line.sequence
  pub counts_are : d.link.counts ≡ as_counts l.line.counts
  pub sender_is : d.sender ≡ as_sender l.sender
  pub held_fits : HeldFits l.sender
  pub shows : Shows count names l.hives.entries d.board

-- what a call gives, with what it leaves behind
pub record Gives (count : ℕ) (names : List (List ℕ)) (s : calls.Step) (left : Left) (d : Display) : Type 0 where
  pub gives : left ≡ as_left names s.given
  pub agrees : Agrees count names s.ledger d

-- a tick
pub tick_agrees : {count : ℕ} (names : List (List ℕ)) (l : Ledger) (d : Display) → Agrees count names l d → Gives count names (step l tick) ticked (tick_display d)
unfolding step
tick_agrees {count} names l d a =
    record {
      gives = refl;
      agrees =
          record {
            ours = a.ours;
            standing = a.standing;
            last_is = a.last_is;
            counts_are = a.counts_are;
            sender_is = a.sender_is;
            held_fits = a.held_fits;
            shows =
                record {
                  showing = ap tick_board a.shows.showing ∙ tick_showing count (map as_entry l.hives.entries) ∙ ap (board_showing count) (entries_older l.hives.entries);
                  named = names_older l.hives.entries ∙ a.shows.named;
                };
          };
    }

-- a step of the sender, which leaves link and board as they were
sent_agrees : {count : ℕ} (names : List (List ℕ)) (l : Ledger) (d : Display) → Agrees count names l d → (step : SenderStep) → HeldFits step.sender
    → (output : List ℕ) (result : Outgoing) (output₁ : List ℕ) → SendsAs d (as_given step) output result output₁
    → Gives count names (sender_step l step output) (outgoing result.answer output₁) result.display
sent_agrees names l d a step fits output result output₁ does =
    rw (does.answers, does.sends)
    (record {
      gives = refl;
      agrees =
          record {
            ours = a.ours;
            standing = a.standing;
            last_is = a.last_is;
            counts_are = a.counts_are;
            sender_is = refl;
            held_fits = fits;
            shows = a.shows;
          };
    })

pub send_agrees : {count : ℕ} (names : List (List ℕ)) (l : Ledger) (d : Display) → Agrees count names l d → (payload output : List ℕ) (result : Outgoing) (output₁ : List ℕ)
    → SendsAs d (send_of d.sender payload (length output)) output result output₁
    → Gives count names (step l (send payload output)) (outgoing result.answer output₁) result.display
unfolding step
send_agrees names l d a payload output result output₁ does =
    let given = ap (λ (s : Sender). send_of s payload (length output)) a.sender_is ∙ send_given l.sender payload (length output) in
    sent_agrees names l d a (send_step l.sender payload (length output)) (send_fits l.sender payload (length output) a.held_fits) output result output₁
    (rw given at does)

pub timeout_agrees : {count : ℕ} (names : List (List ℕ)) (l : Ledger) (d : Display) → Agrees count names l d → (output : List ℕ) (result : Outgoing) (output₁ : List ℕ)
    → SendsAs d (timeout_of d.sender (length output)) output result output₁
    → Gives count names (step l (timeout output)) (outgoing result.answer output₁) result.display
unfolding step
timeout_agrees names l d a output result output₁ does =
    let given = ap (λ (s : Sender). timeout_of s (length output)) a.sender_is ∙ timeout_given l.sender (length output) a.held_fits in
    sent_agrees names l d a (timeout_step l.sender (length output)) (timeout_fits l.sender (length output) a.held_fits) output result output₁
    (rw given at does)
