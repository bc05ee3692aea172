-- What the reader goes on with where a test of its is met.
use mathlib.Core.Path.{◌≡◌, sym, ap, ◌∙◌}
use mathlib.Core.Bool.{true}
use mathlib.Core.List.{List, ◌∷◌}
use Prim.Native.Nat.{ℕ, ◌+◌, ◌≤◌}
use native.Mathlib.Omega.{arith}
use lib.ListN.{length, take, drop, get_or}
use lib.Seq.{drop-drop}
use borrow.Author.Tests.{eq-eqb, le-ltb, le-leb}
use Rattle.slices.specs.Same.{same_bytes}
use Rattle.ash.specs.Reserved.{flag_byte, unescaped}
use Rattle.ash.specs.Stuffing.{payload_max, unstuff}
use Rattle.ash.specs.Header.{control_escaped, length_escaped, good_header}
use Rattle.ash.specs.Reading.{frame, compared, checked, read_by_length, read_by_header, flag_first, read_frame}

module _ (control : ℕ) (check writers p : List ℕ) where
  pub same_check : same_bytes check writers ≡ true → compared control check writers p ≡ frame control p
  same_check e = rw e

module _ (control size : ℕ) (bytes : List ℕ) where
  pub length_right : size ≤ payload_max → length bytes ≡ size + 7
      → read_by_length control size bytes ≡ checked control (drop (size + 4) bytes) (unstuff (take size (drop 4 bytes)))
  unfolding read_by_length
  length_right h e = rw (le-leb size payload_max h, eq-eqb (length bytes) (size + 7) e)

module _ (bytes : List ℕ) where
  pub header_good : good_header (get_or bytes 1 0) (get_or bytes 2 0) (get_or bytes 3 0) ≡ true
      → read_by_header bytes
      ≡ read_by_length (unescaped (control_escaped (get_or bytes 1 0)) (get_or bytes 2 0)) (unescaped (length_escaped (get_or bytes 1 0)) (get_or bytes 3 0)) bytes
  unfolding read_by_header
  header_good e = rw e

-- and what stands behind the header is the payload as sent and the check
module _ (escape control size : ℕ) (behind : List ℕ) where
  pub header_taken : (n meant : ℕ) → good_header escape control size ≡ true → n ≡ unescaped (length_escaped escape) size
      → meant ≡ unescaped (control_escaped escape) control → n ≤ payload_max → length behind ≡ n + 3
      → read_by_header (flag_byte ∷ escape ∷ control ∷ size ∷ behind) ≡ checked meant (drop n behind) (unstuff (take n behind))
  header_taken n meant good size_is meant_is few present =
      header_good whole good ∙ rw (← size_is, ← meant_is) (length_right meant n whole few (omega (arith, present)))
      ∙ ap (λ (rest : List ℕ). checked meant rest (unstuff (take n behind))) dropped
    where
      whole : List ℕ
      whole = flag_byte ∷ escape ∷ control ∷ size ∷ behind

      dropped : drop (n + 4) (flag_byte ∷ escape ∷ control ∷ size ∷ behind) ≡ drop n behind
      dropped =
          let turned : n + 4 ≡ 4 + n = omega arith in
          rw turned (sym (drop-drop n 4 whole))

module _ (room : ℕ) (bytes : List ℕ) where
  pub long_enough : payload_max ≤ room → flag_first bytes ≡ true → 7 ≤ length bytes → read_frame room bytes ≡ read_by_header bytes
  unfolding read_frame
  long_enough h e s = rw (le-ltb room payload_max h, e, le-ltb (length bytes) 7 s)
