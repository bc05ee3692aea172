-- A payload that was unstuffed stands in the array, and was sent as just the bytes that were read: so it is what is checked.
use mathlib.Core.Path.{◌≡◌, refl, ap}
use mathlib.Core.List.{List}
use Prim.Native.Nat.{ℕ, ◌≤◌}
use native.Mathlib.Omega.{arith}
use lib.ListN.{length, take}
use Rattle.std.specs.Prelude.{Some, None, Result, Err}
use Rattle.slices.proofs.Impossible.{impossible}
use Rattle.slices.proofs.PutLaws.{put_first}
use Rattle.ash.specs.Stuffing.{Unstuffed, payload, broken, unstuff}
use Rattle.ash.specs.ReaderSteps.{unstuff_answer, UnstuffsAs}
use Rattle.refusals.specs.Numbers.{bad_stuffing}
use Rattle.refusals.specs.declared.Refusal.{Refusal}
use Rattle.ash.specs.Check.{check_over}
use Rattle.ash.specs.Reading.{compared, checked}
use Rattle.ash.specs.Answers.{ReadsAs}
use Rattle.ash.specs.declared.reader.Frame.{Frame}
use Rattle.ash.proofs.StuffTheorems.{stuff_unstuff}

checked_found : (control : ℕ) (check sent array exit : List ℕ) (n : ℕ) → n ≤ length array → UnstuffsAs (unstuff sent) array (Some n) exit
    → checked control check (unstuff sent) ≡ compared control check (check_over control (length sent) (take n exit)) (take n exit)
checked_found control check sent array exit n room u = cases (unstuff sent) refl u.answers
  where
    cases : (found : Unstuffed) → unstuff sent ≡ found → Some n ≡ unstuff_answer found
        → checked control check found ≡ compared control check (check_over control (length sent) (take n exit)) (take n exit)
    cases broken is g = impossible cc
    cases (payload p) is g =
        let size : n ≡ length p = cc in
        let bytes : take n exit ≡ p = rw (u.array_filled p is, size) (put_first array p (omega arith)) in
        rw (bytes, ap length (stuff_unstuff sent p is))

-- what was unstuffed and answered is checked
pub checked_payload : (control : ℕ) (check sent array exit out out₁ : List ℕ) (n : ℕ) (answer : Result Frame Refusal) → length sent ≤ length array → n ≤ length sent
    → UnstuffsAs (unstuff sent) array (Some n) exit
    → ReadsAs (compared control check (check_over control (length sent) (take n exit)) (take n exit)) out answer out₁
    → ReadsAs (checked control check (unstuff sent)) out answer out₁
checked_payload control check sent array exit out out₁ n answer room few u r = rw (checked_found control check sent array exit n (omega arith) u) r

-- and what breaks a rule is refused
pub checked_broken : (control : ℕ) (check sent array exit out : List ℕ) → UnstuffsAs (unstuff sent) array None exit
    → ReadsAs (checked control check (unstuff sent)) out (Err bad_stuffing) out
checked_broken control check sent array exit out u = cases (unstuff sent) u.answers
  where
    cases : (found : Unstuffed) → None ≡ unstuff_answer found → ReadsAs (checked control check found) out (Err bad_stuffing) out
    cases broken g = record { answers = refl; output = refl }
    cases (payload p) g = impossible cc
