-- 02, C-13: the sequences of the frames that are sent go 0, 1 to 255 and 1 again: only an accepted send moves the sequence on.
use mathlib.Core.Path.{◌≡◌, refl, ap, ◌∙◌}
use mathlib.Core.Bool.{Bool, true, false, cond}
use mathlib.Core.List.{List, [], ◌∷◌, map}
use mathlib.Core.Option.{some}
use Prim.Native.Nat.{ℕ, zero, suc}
use native.Mathlib.Omega.{arith}
use lib.Dec.{eqb}
use lib.ListN.{length}
use borrow.Author.Tests.{eqb-true, eqb-false}
use Rattle.display.specs.declared.Display.{Display}
use Rattle.ledger.specs.Ledger.{Sender, Ledger, start}
use Rattle.ledger.specs.Answers.{WatchList, names_in, Call}
use Rattle.ledger.specs.Sending.{next_sequence}
use Rattle.ledger.specs.Calls.{step, given}
use Rattle.ledger.specs.Shown.{Left, as_left}
use Rattle.ledger.specs.SentFrames.{sequences_sent, sequence_at, sequences_from}
use Rattle.ledger.proofs.Chain.{Begins, Chain}
use Rattle.ledger.proofs.EveryList.{agreeing}
use Rattle.ledger.proofs.SenderSteps.{step_case}

next_at : (place : ℕ) → next_sequence (sequence_at place) ≡ sequence_at (suc place)
next_at zero = refl
next_at (suc n) = by_last (eqb (sequence_at (suc n)) 255) refl
  where
    by_last : (t : Bool) → eqb (sequence_at (suc n)) 255 ≡ t → cond t 1 (suc (sequence_at (suc n))) ≡ sequence_at (suc (suc n))
    by_last true e = let last = eqb-true (sequence_at (suc n)) 255 e in omega (arith, last)
    by_last false e = let before = eqb-false (sequence_at (suc n)) 255 e in omega (arith, before)

-- from a sender whose next sequence stands at a place
module _ (names : List (List ℕ)) where
  abbrev InOrder : ℕ → List Left → Type 0
  InOrder place left = sequences_sent left ≡ sequences_from place (length (sequences_sent left))

  given_in_order : (cs : List Call) (l : Ledger) (place : ℕ) → l.sender.next ≡ sequence_at place → InOrder place (map (as_left names) (given l cs))
  unfolding given sequences_sent sequences_from
  given_in_order [] l place at = refl
  given_in_order (c ∷ cs) l place at =
      step_case names l (λ left s. (m : Ledger) → m.sender ≡ s → InOrder place (left ∷ map (as_left names) (given m cs)))
      (record {
        quiet = λ left q m same. rw (q.not_sent (map (as_left names) (given m cs))) (given_in_order cs m place (rw same at));
        hears = λ n sequence reply packet m same. given_in_order cs m place (rw same at);
        accepts =
            λ payload output free m same.
            let next : m.sender.next ≡ sequence_at (suc place) = ap (λ (s : Sender). s.next) same ∙ ap next_sequence at ∙ next_at place in
            rw at (ap (λ (more : List ℕ). sequence_at place ∷ more) (given_in_order cs m (suc place) next));
        repeats = λ frame output e few fits m same. given_in_order cs m place (rw same at);
        drops = λ frame output e many m same. given_in_order cs m place (rw same at);
      })
      c (step l c).ledger refl

-- THEOREM. After every list of calls the sequences of the frames that were sent for the first time, in order, are 0, 1 to 255, 1 to 255 and so
-- on.
pub sequences_in_order : (names : List (List ℕ)) (w : WatchList) → names_in w ≡ some names → (d : Display) → Begins w d
    → (cs : List Call) (left : List Left) (end : Display) → Chain d cs left end → sequences_sent left ≡ sequences_from 0 (length (sequences_sent left))
sequences_in_order names w listed d begins cs left end chain =
    let gives = (agreeing listed begins chain).all.gives in
    rw gives (given_in_order names cs (start names) 0 refl)
