-- What the cutter hands on, and what the reader of C-11 refuses of it: whatever it takes has seven bytes and is as long as its header says.
use mathlib.Core.Path.{◌≡◌, refl, sym, ◌∙◌}
use mathlib.Core.Bool.{true}
use mathlib.Core.List.{List, ◌++◌}
use mathlib.Core.Logic.{◌⊎◌}
use Prim.Native.Nat.{ℕ, ◌≤◌, ◌<◌}
use native.Mathlib.Omega.{arith}
use lib.ListN.{length, get_or, get_or-append}
use Rattle.std.specs.Prelude.{Option, Some}
use Rattle.refusals.specs.declared.Refusal.{Refusal}
use Rattle.ash.specs.Header.{frame_min}
use Rattle.ash.specs.Size.{frame_size}
use Rattle.ash.specs.Reading as reading
use Rattle.ash.specs.Reading.{Read, flag_first, read_frame}
use Rattle.ash.proofs.SizeLaws.{taken_size}
use Rattle.ash.proofs.TakenLaws.{opened}
use Rattle.ash.specs.Size.{frame_max}

-- how long a frame is, by its header
abbrev pub size_in : List ℕ → Option ℕ
size_in bytes = frame_size (get_or bytes 1 0) (get_or bytes 2 0) (get_or bytes 3 0)

-- the header says it, whatever follows
pub size_append : (bytes rest : List ℕ) → 4 ≤ length bytes → size_in (bytes ++ rest) ≡ size_in bytes
size_append bytes rest long =
    rw (get_or-append bytes rest 0 1 (omega arith), get_or-append bytes rest 0 2 (omega arith), get_or-append bytes rest 0 3 (omega arith))

-- a whole frame: a flag first, and as long as its header says
pub record Whole (frame : List ℕ) : Type 0 where
  pub flag : flag_first frame ≡ true
  pub size : size_in frame ≡ Some (length frame)

-- the reader refuses it
pub record ReaderRefuses (room : ℕ) (frame : List ℕ) : Type 0 where
  pub reason : Refusal
  pub is : read_frame room frame ≡ reading.refused reason

-- what is known of each frame that is handed on
pub record Handed (frame : List ℕ) : Type 0 where
  pub some : 1 ≤ length frame
  pub most : length frame ≤ frame_max
  pub sort : Whole frame ⊎ ((room : ℕ) → ReaderRefuses room frame)

-- what the reader cannot take it refuses
refused_unless : (room : ℕ) (bytes : List ℕ) → ((control : ℕ) (p : List ℕ) → read_frame room bytes ≡ reading.frame control p → ⊥) → ReaderRefuses room bytes
refused_unless room bytes untaken = by_result (read_frame room bytes) refl
  where
    by_result : (found : Read) → read_frame room bytes ≡ found → ReaderRefuses room bytes
    by_result (reading.frame control p) e = absurd (untaken control p e)
    by_result (reading.refused n) e = record { reason = n; is = e }

-- fewer than seven bytes, a bad header, and fewer bytes than the header says
pub short_refused : (bytes : List ℕ) → length bytes < frame_min → (room : ℕ) → ReaderRefuses room bytes
short_refused bytes few room = refused_unless room bytes (λ control p e. omega (arith, (opened room bytes control p e).long))

pub other_size : (bytes : List ℕ) (size : Option ℕ) → size_in bytes ≡ size → (size ≡ Some (length bytes) → ⊥) → (room : ℕ) → ReaderRefuses room bytes
other_size bytes size is other room =
    refused_unless room bytes (λ control p e. other (sym is ∙ taken_size room bytes control p e))
