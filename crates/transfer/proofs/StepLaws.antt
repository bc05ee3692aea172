-- What the code's answers say of the definitions: each translation is one to one, so an answer, read back, is what was translated.
use mathlib.Core.Path.{◌≡◌, refl, sym, ap, ◌∙◌}
use mathlib.Core.Option.{Option, none, some}
use Prim.Native.Nat.{ℕ}
use Rattle.std.specs.Prelude.{Some, None, Result, Ok, Err}
use Rattle.std.specs.declared.option.Option as rust
use Rattle.refusals.specs.declared.Refusal.{Refusal}
use Rattle.slices.proofs.Impossible.{impossible}
use Rattle.packet.specs.Answers.{Found}
use Rattle.transfer.specs.Fragment.{Form, good, bad}
use Rattle.transfer.specs.Transfer.{Verdict, accepted, refused}
use Rattle.transfer.specs.Steps.{as_number, as_form, as_verdict}
use Rattle.transfer.specs.declared.fragment.Fragment.{Fragment}
use Rattle.transfer.specs.declared.judging.Accepted as code

-- what an answer reads back as
module _ {A B : Type 0} (translated : A → B) (back : B → A) (same : (a : A) → back (translated a) ≡ a) where
  told_by : (a : A) (b : B) → b ≡ translated a → a ≡ back b
  told_by a b e = sym (ap back e ∙ same a)

abbrev pub number_back : rust.Option ℕ → Option ℕ
number_back (Some n) = some n
number_back None = none

pub number_told : (o : Option ℕ) (answer : rust.Option ℕ) → answer ≡ as_number o → o ≡ number_back answer
number_told = told_by as_number number_back same
  where
    same : (o : Option ℕ) → number_back (as_number o) ≡ o
    same (some n) = refl
    same none = refl

abbrev pub form_back : rust.Option Fragment → Form
form_back (Some fragment) = good fragment.offset fragment.declared fragment.last
form_back None = bad

pub form_told : (f : Form) (answer : rust.Option Fragment) → answer ≡ as_form f → f ≡ form_back answer
form_told = told_by as_form form_back same
  where
    same : (f : Form) → form_back (as_form f) ≡ f
    same (good offset declared last) = refl
    same bad = refl

abbrev pub verdict_back : Result code.Accepted Refusal → Verdict
verdict_back (Ok a) = accepted a.offset a.next a.declared a.last
verdict_back (Err n) = refused n

pub verdict_told : (binary : Found) (v : Verdict) (answer : Result code.Accepted Refusal) → answer ≡ as_verdict binary v → v ≡ verdict_back answer
verdict_told binary = told_by (as_verdict binary) verdict_back same
  where
    same : (v : Verdict) → verdict_back (as_verdict binary v) ≡ v
    same (accepted offset next declared last) = refl
    same (refused n) = refl

-- and the place of an accepted fragment's Binary
pub binary_told : (binary : Found) (v : Verdict) (a : code.Accepted) → Ok a ≡ as_verdict binary v → a.binary ≡ binary
binary_told binary (accepted offset next declared last) a e = let is : a ≡ record { binary = binary; offset = offset; next = next; declared = declared; last = last } = cc in rw is
binary_told binary (refused n) a e = impossible cc
