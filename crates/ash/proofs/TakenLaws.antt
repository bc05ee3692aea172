-- What a frame that was taken passed: each test of the reader from its answer backwards, since a frame is answered only where all of them
-- were met.
use mathlib.Core.Path.{◌≡◌, refl, ap, ap₂, ◌∙◌}
use mathlib.Core.Bool.{Bool, true, false, cond, ◌&&◌}
use mathlib.Core.List.{List}
use Prim.Native.Nat.{ℕ, ◌+◌, ◌≤◌}
use lib.Dec.{eqb, ltb, leb}
use lib.ListN.{length, take, drop}
use borrow.Author.Tests.{eqb-true, leb-true, ltb-false}
use Rattle.refusals.specs.Numbers.{short_output, bad_header, bad_length, other_check}
use Rattle.slices.proofs.Impossible.{impossible}
use Rattle.slices.specs.Same.{same_bytes}
use Rattle.slices.proofs.SameLaws.{same_equal}
use Rattle.slices.proofs.TestLaws.{both}
use Rattle.ash.specs.Stuffing.{payload_max, Unstuffed, payload, broken, unstuff}
use Rattle.ash.specs.Check.{check_bytes}
use Rattle.ash.specs.Reading.{Read, frame, refused, checked, read_by_length, read_by_header, flag_first, read_frame}

-- what a payload and its check bytes were taken as
pub record Checked (control : ℕ) (check : List ℕ) (found : Unstuffed) (control₁ : ℕ) (p : List ℕ) : Type 0 where
  pub same_control : control ≡ control₁
  pub unstuffed : found ≡ payload p
  pub same_bytes_law : check ≡ check_bytes control₁ p

checked_frame : (control : ℕ) (check : List ℕ) (found : Unstuffed) (control₁ : ℕ) (p : List ℕ) → checked control check found ≡ frame control₁ p
    → Checked control check found control₁ p
checked_frame control check broken control₁ p e = impossible cc
checked_frame control check (payload q) control₁ p e = cases (same_bytes check (check_bytes control q)) refl e
  where
    cases : (t : Bool) → same_bytes check (check_bytes control q) ≡ t → cond t (frame control q) (refused other_check) ≡ frame control₁ p
        → Checked control check (payload q) control₁ p
    cases false f e = impossible cc
    cases true f e =
        let c : control ≡ control₁ = cc in
        let is : q ≡ p = cc in
        record { same_control = c; unstuffed = ap payload is; same_bytes_law = same_equal check (check_bytes control q) f ∙ ap₂ check_bytes c is }

-- what a length was taken for
pub record Sized (control size : ℕ) (bytes : List ℕ) (control₁ : ℕ) (p : List ℕ) : Type 0 where
  pub small : size ≤ payload_max
  pub whole : length bytes ≡ size + 7
  pub parts : Checked control (drop (size + 4) bytes) (unstuff (take size (drop 4 bytes))) control₁ p

pub sized_frame : (control size : ℕ) (bytes : List ℕ) (control₁ : ℕ) (p : List ℕ) → read_by_length control size bytes ≡ frame control₁ p
    → Sized control size bytes control₁ p
unfolding read_by_length
sized_frame control size bytes control₁ p e = cases (leb size payload_max && eqb (length bytes) (size + 7)) refl e
  where
    found : Read
    found = checked control (drop (size + 4) bytes) (unstuff (take size (drop 4 bytes)))

    cases : (t : Bool) → (leb size payload_max && eqb (length bytes) (size + 7)) ≡ t → cond t found (refused bad_length) ≡ frame control₁ p
        → Sized control size bytes control₁ p
    cases false f e = impossible cc
    cases true f e =
        let two = both (leb size payload_max) (eqb (length bytes) (size + 7)) f in
        record {
          small = leb-true size payload_max two.first;
          whole = eqb-true (length bytes) (size + 7) two.second;
          parts = checked_frame control (drop (size + 4) bytes) (unstuff (take size (drop 4 bytes))) control₁ p e;
        }

-- a frame that was taken had an output of 57 bytes, a flag first and seven bytes
pub record Opened (room : ℕ) (bytes : List ℕ) (found : Read) : Type 0 where
  pub asked : payload_max ≤ room
  pub flag : flag_first bytes ≡ true
  pub long : 7 ≤ length bytes
  pub whole : read_by_header bytes ≡ found

pub opened : (room : ℕ) (bytes : List ℕ) (control : ℕ) (p : List ℕ) → read_frame room bytes ≡ frame control p → Opened room bytes (frame control p)
unfolding read_frame
opened room bytes control p e = cases (ltb room payload_max) (flag_first bytes) (ltb (length bytes) 7) refl refl refl e
  where
    cases : (t u v : Bool) → ltb room payload_max ≡ t → flag_first bytes ≡ u → ltb (length bytes) 7 ≡ v
        → cond t (refused short_output) (cond u (cond v (refused bad_length) (read_by_header bytes)) (refused bad_header)) ≡ frame control p
        → Opened room bytes (frame control p)
    cases true u v d f g e = impossible cc
    cases false false v d f g e = impossible cc
    cases false true true d f g e = impossible cc
    cases false true false d f g e = record { asked = ltb-false room payload_max d; flag = f; long = ltb-false (length bytes) 7 g; whole = e }
