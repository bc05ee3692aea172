-- How long a frame is by its header; and a frame that is taken is just so long, since the reader makes the same tests.
use mathlib.Core.Path.{◌≡◌, refl, sym, ap, ◌∙◌}
use mathlib.Core.Bool.{Bool, true, false, cond}
use mathlib.Core.List.{List}
use Prim.Native.Nat.{ℕ, ◌+◌, ◌≤◌}
use native.Mathlib.Omega.{arith}
use lib.Dec.{leb}
use lib.ListN.{length, get_or}
use borrow.Author.Tests.{le-leb, leb-true}
use Rattle.std.specs.Prelude.{Some, None}
use Rattle.refusals.specs.Numbers.{bad_header}
use Rattle.slices.proofs.Impossible.{impossible}
use Rattle.ash.specs.Reserved.{unescaped}
use Rattle.ash.specs.Stuffing.{payload_max}
use Rattle.ash.specs.Header.{frame_min, control_escaped, length_escaped, good_header}
use Rattle.ash.specs.Size.{frame_max, frame_size}
use Rattle.ash.specs.Reading.{frame, refused, read_by_length, read_by_header, read_frame}
use Rattle.ash.proofs.TakenLaws.{sized_frame, opened}

module _ (escape control size : ℕ) where
  abbrev meant : ℕ
  meant = unescaped (length_escaped escape) size

  pub good_size : good_header escape control size ≡ true → meant ≤ payload_max → frame_size escape control size ≡ Some (meant + frame_min)
  unfolding frame_size
  good_size e h = rw (e, le-leb meant payload_max h)

-- a frame has 7 to 64 bytes
pub record Sizes (n : ℕ) : Type 0 where
  pub least : frame_min ≤ n
  pub most : n ≤ frame_max

pub size_bounds : (escape control size n : ℕ) → frame_size escape control size ≡ Some n → Sizes n
unfolding frame_size
size_bounds escape control size n = by_tests (good_header escape control size) (leb (meant escape control size) payload_max) refl
  where
    by_tests : (t u : Bool) → leb (meant escape control size) payload_max ≡ u
        → cond t (cond u (Some (meant escape control size + frame_min)) None) None ≡ Some n → Sizes n
    by_tests false u small e = impossible cc
    by_tests true false small e = impossible cc
    by_tests true true small e =
        let is : meant escape control size + frame_min ≡ n = cc in
        let most = leb-true (meant escape control size) payload_max small in
        record { least = omega arith; most = omega arith }

-- THEOREM. A frame that the reader takes has as many bytes as its header says.
module _ (room : ℕ) (bytes : List ℕ) (control : ℕ) (p : List ℕ) (e : read_frame room bytes ≡ frame control p) where
  pub taken_size : frame_size (get_or bytes 1 0) (get_or bytes 2 0) (get_or bytes 3 0) ≡ Some (length bytes)
  unfolding read_by_header
  taken_size = by_header (good_header escape first second) refl (opened room bytes control p e).whole
    where
      escape : ℕ
      escape = get_or bytes 1 0

      first : ℕ
      first = get_or bytes 2 0

      second : ℕ
      second = get_or bytes 3 0

      by_header : (t : Bool) → good_header escape first second ≡ t
          → cond t (read_by_length (unescaped (control_escaped escape) first) (meant escape first second) bytes) (refused bad_header) ≡ frame control p
          → frame_size escape first second ≡ Some (length bytes)
      by_header false f e = impossible cc
      by_header true f e =
          let s = sized_frame (unescaped (control_escaped escape) first) (meant escape first second) bytes control p e in
          good_size escape first second f s.small ∙ ap Some (sym s.whole)
