-- 02, C-13: with nothing held no frame is sent again and no drop is reported, up to the next frame: nothing but a send makes the ledger's sender hold
-- one.
use mathlib.Core.Path.{◌≡◌, refl, sym, ap, ◌∙◌}
use mathlib.Core.List.{List, [], ◌∷◌, map}
use mathlib.Core.Option.{none}
use Prim.Native.Nat.{ℕ}
use Rattle.slices.proofs.Impossible.{impossible}
use Rattle.ledger.specs.Ledger.{Sender, Ledger}
use Rattle.ledger.specs.Answers.{Call}
use Rattle.ledger.specs.Sending.{held_behind}
use Rattle.ledger.specs.Calls.{step, given}
use Rattle.ledger.specs.Shown.{Left, as_left}
use Rattle.ledger.specs.SentFrames.{repeats_sent, drops_reported}
use Rattle.ledger.proofs.SenderSteps.{step_case}

-- with nothing held, up to the next frame
pub record Quiet (left : List Left) : Type 0 where
  pub no_repeat : repeats_sent left ≡ []
  pub no_report : drops_reported left ≡ []

pub held_by : {s₁ s : Sender} → s₁ ≡ s → s₁.held ≡ s.held
held_by same = ap (λ (s : Sender). s.held) same

module _ (names : List (List ℕ)) where
  abbrev pub rest : Ledger → List Call → List Left
  rest l cs = map (as_left names) (given l cs)

  pub idle : (cs : List Call) (l : Ledger) → l.sender.held ≡ none → Quiet (rest l cs)
  unfolding given repeats_sent drops_reported
  idle [] l free = record { no_repeat = refl; no_report = refl }
  idle (c ∷ cs) l free =
      step_case names l (λ left s. (m : Ledger) → m.sender ≡ s → Quiet (left ∷ rest m cs))
      (record {
        quiet =
            λ left q m same.
            let more = idle cs m (held_by same ∙ free) in
            record { no_repeat = q.not_again (rest m cs) ∙ more.no_repeat; no_report = q.not_reported (rest m cs) ∙ more.no_report };
        hears =
            λ n other reply packet m same.
            let more = idle cs m (held_by same ∙ ap (held_behind other) free) in
            record { no_repeat = more.no_repeat; no_report = more.no_report };
        accepts = λ sent output none_held_law m same. record { no_repeat = refl; no_report = refl };
        repeats = λ frame output e young fits m same. let never = sym free ∙ e in impossible cc;
        drops = λ frame output e old m same. let never = sym free ∙ e in impossible cc;
      })
      c (step l c).ledger refl
