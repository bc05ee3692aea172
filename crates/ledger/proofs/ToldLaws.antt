-- All that a list of calls told, and all that it handed out, is settled by what the ledger tells: call by call.
use mathlib.Core.Path.{◌≡◌, refl, sym, ap, ap₂, ◌∙◌}
use mathlib.Core.Bool.{Bool, true, false, cond}
use mathlib.Core.List.{List, [], ◌∷◌, ◌++◌, map, map-append, append_assoc}
use Prim.Native.Nat.{ℕ}
use lib.Dec.{eqb}
use Rattle.refusals.specs.Numbers.{short_output, number_of}
use Rattle.frame.specs.Answers.{fault_at}
use Rattle.display.specs.declared.Answer.TheVariants.{Refused}
use Rattle.ledger.specs.Ledger.{Ledger}
use Rattle.ledger.specs.Answers as answers
use Rattle.ledger.specs.Answers.{Call, Given, Answer, Sending}
use Rattle.ledger.specs.Calls.{step, given}
use Rattle.ledger.specs.Shown.{as_answer, as_sending, as_left}
use Rattle.ledger.specs.History as software
use Rattle.ledger.specs.History.{Handed, among, all_handed, answers_as, answers_left, all_answers}
use Rattle.ledger.proofs.ByEvents.{Told, by_piece, from_sender, told_by, sending_told}
use Rattle.ledger.proofs.HistoryLaws.{told_in, told_out}
use Rattle.ledger.proofs.HandedLaws.{handed_by, handed_out_now, handed_in, step_handed}

-- with all that is told it is settled what is handed out
abbrev pub handed_told : Told → List Handed
handed_told (by_piece answer) = handed_by answer
handed_told (from_sender answer) = handed_out_now answer

unfoldable pub handed_with : List Told → List Handed
handed_with [] = []
handed_with (told ∷ more) = handed_told told ++ handed_with more

pub handed_append : (xs ys : List Told) → handed_with (xs ++ ys) ≡ handed_with xs ++ handed_with ys
unfolding handed_with
handed_append [] ys = refl
handed_append (x ∷ xs) ys = ap (λ (r : List Handed). handed_told x ++ r) (handed_append xs ys) ∙ sym (append_assoc (handed_told x) (handed_with xs) (handed_with ys))

pub among_append : (sort : Handed → List (List ℕ)) (xs ys : List Handed) → among sort (xs ++ ys) ≡ among sort xs ++ among sort ys
unfolding among
among_append sort [] ys = refl
among_append sort (x ∷ xs) ys = ap (λ (r : List (List ℕ)). sort x ++ r) (among_append sort xs ys) ∙ sym (append_assoc (sort x) (among sort xs) (among sort ys))

pub told_handed : (a : Answer) → handed_by a ≡ handed_with (told_by a)
unfolding handed_with
told_handed answers.nothing = refl
told_handed (answers.refused n place) = by_number (eqb (number_of n) (number_of short_output))
  where
    by_number : (t : Bool) → [] ≡ handed_with (cond t [] (by_piece (answers.refused n place) ∷ []))
    by_number true = refl
    by_number false = refl
told_handed (answers.heard sequence) = refl
told_handed (answers.again sequence) = refl
told_handed (answers.new sequence payload verdict) = refl

sending_handed : (answer : Sending) → handed_out_now answer ≡ handed_with (sending_told answer)
unfolding handed_with
sending_handed answers.idle = refl
sending_handed (answers.refused n) = refl
sending_handed (answers.sent sequence payload) = refl
sending_handed (answers.repeated sequence payload) = refl
sending_handed (answers.dropped frame) = refl

given_handed : (g : Given) → handed_in g ≡ handed_with (told_in g)
unfolding handed_with
given_handed (answers.took n answer reply packet) = told_handed answer
given_handed answers.ticked = refl
given_handed (answers.outgoing answer output) = sending_handed answer

module _ (names : List (List ℕ)) where
  pub all_handed_law : (l : Ledger) (cs : List Call) → all_handed (map (as_left names) (given l cs)) ≡ handed_with (told_out names l cs)
  unfolding all_handed given told_out handed_with
  all_handed_law l [] = refl
  all_handed_law l (c ∷ cs) =
      ap₂ (λ (x y : List Handed). x ++ y) (step_handed names l c ∙ given_handed (step l c).given) (all_handed_law (step l c).ledger cs)
      ∙ sym (handed_append (told_in (step l c).given) (told_out names (step l c).ledger cs))

  -- what the software tells of an answer
  abbrev pub as_told : Told → software.Told
  as_told (by_piece answer) = software.of_piece (as_answer names answer)
  as_told (from_sender answer) = software.of_sender (as_sending answer)

  answer_told : (a : Answer) → map software.of_piece (answers_as (as_answer names a)) ≡ map as_told (told_by a)
  answer_told answers.nothing = refl
  answer_told (answers.refused n place) = by_number (eqb (number_of n) (number_of short_output))
    where
      by_number : (t : Bool) → map software.of_piece (cond t [] (Refused (fault_at n place) ∷ [])) ≡ map as_told (cond t [] (by_piece (answers.refused n place) ∷ []))
      by_number true = refl
      by_number false = refl
  answer_told (answers.heard sequence) = refl
  answer_told (answers.again sequence) = refl
  answer_told (answers.new sequence payload verdict) = refl

  sending_told_law : (answer : Sending) → software.sending_told (as_sending answer) ≡ map as_told (sending_told answer)
  sending_told_law answers.idle = refl
  sending_told_law (answers.refused n) = refl
  sending_told_law (answers.sent sequence payload) = refl
  sending_told_law (answers.repeated sequence payload) = refl
  sending_told_law (answers.dropped frame) = refl

  given_told : (g : Given) → answers_left (as_left names g) ≡ map as_told (told_in g)
  given_told (answers.took n answer reply packet) = answer_told answer
  given_told answers.ticked = refl
  given_told (answers.outgoing answer output) = sending_told_law answer

  pub all_told : (l : Ledger) (cs : List Call) → all_answers (map (as_left names) (given l cs)) ≡ map as_told (told_out names l cs)
  unfolding all_answers given told_out
  all_told l [] = refl
  all_told l (c ∷ cs) =
      ap₂ (λ (x y : List software.Told). x ++ y) (given_told (step l c).given) (all_told (step l c).ledger cs)
      ∙ sym (map-append as_told (told_in (step l c).given) (told_out names (step l c).ledger cs))
