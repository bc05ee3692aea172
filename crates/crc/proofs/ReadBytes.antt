-- The parts of so many bytes each that a string has, one after the other; and some of its bytes, from a place on, as a number.
use mathlib.Core.Path.{◌≡◌, refl, sym, ap, ap₂, ◌∙◌}
use mathlib.Core.List.{List, [], ◌∷◌}
use Prim.Native.Nat.{ℕ, zero, suc, ◌+◌, ◌*◌, ◌≤◌, ◌<◌}
use native.Mathlib.Omega.{arith}
use lib.ListN.{length, take, drop, get_or, length-drop}
use lib.Seq.{drop-drop, get_or-drop, get_or-take, length-take-le}
use Rattle.std.specs.Simd.{first_chunks}
use Rattle.std.proofs.lemmas.Slice.Eq.{text_from_reads}
use Rattle.slices.specs.Bits.{Bytes}
use Rattle.slices.specs.HighFirst.{word_of, high_first}
use Rattle.slices.proofs.HighFirstLaws.{bytes_back}
use Rattle.crc.specs.Crc.{crc_of}
use Rattle.crc.proofs.CrcLaws.{part_added}

-- a part of a string is as many of its bytes, from its place on
part_at : (size : ℕ) (count : ℕ) (s : List ℕ) (i : ℕ) → i < count → get_or (first_chunks size count s) i [] ≡ take size (drop (i * size) s)
part_at size zero s i h = absurd (omega arith)
part_at size (suc count) s zero h = let none : zero * size ≡ 0 = omega arith in rw none
part_at size (suc count) s (suc i) h =
    let next : suc i * size ≡ size + i * size = omega arith in
    part_at size count (drop size s) i (omega arith) ∙ rw (next, drop-drop (i * size) size s)

-- one part less to add
pub part_read : (size count : ℕ) (s : List ℕ) (i r next : ℕ) → i < count → next ≡ crc_of r (get_or (first_chunks size count s) i [])
    → crc_of next (drop ((i + 1) * size) s) ≡ crc_of r (drop (i * size) s)
part_read size count s i r next h e =
    let behind : (i + 1) * size ≡ i * size + size = omega arith in
    rw (e, part_at size count s i h, behind) (part_added s (i * size) size r)

-- one pair of bytes less to add
pub pair_read : (count : ℕ) (s : List ℕ) (i r next : ℕ) → i < count → count * 2 ≤ length s
    → next ≡ crc_of r (get_or (get_or (first_chunks 2 count s) i []) 0 0 ∷ get_or (get_or (first_chunks 2 count s) i []) 1 0 ∷ [])
    → crc_of next (drop ((i + 1) * 2) s) ≡ crc_of r (drop (i * 2) s)
pair_read count s i r next h fits e = part_read 2 count s i r next h (e ∙ ap (crc_of r) (sym spelled))
  where
    pair : List ℕ
    pair = get_or (first_chunks 2 count s) i []

    size : length (get_or (first_chunks 2 count s) i []) ≡ 2
    size = ap length (part_at 2 count s i h) ∙ length-take-le 2 (drop (i * 2) s) (rw length-drop (omega arith))

    spelled : get_or (first_chunks 2 count s) i [] ≡ get_or (get_or (first_chunks 2 count s) i []) 0 0 ∷ get_or (get_or (first_chunks 2 count s) i []) 1 0 ∷ []
    spelled = text_from_reads pair _ size (refl, (refl, tt))

-- the number of some bytes, from a place on, has them as its bytes
module _ (s : List ℕ) (i : ℕ) where
  pub read_bytes : (more number : ℕ) → Bytes s → i + suc more ≤ length s → number ≡ word_of (take (suc more) (drop i s))
      → high_first (suc more) number ≡ take (suc more) (drop i s)
  read_bytes more number small h e =
      ap₂ high_first (sym size) e
      ∙ bytes_back part (λ k below. rw (get_or-take (suc more) (drop i s) k 0 (omega (arith, size)), get_or-drop i s k 0) (small (i + k))) (omega (arith, size))
    where
      part : List ℕ
      part = take (suc more) (drop i s)

      size : length (take (suc more) (drop i s)) ≡ suc more
      size = length-take-le (suc more) (drop i s) (rw length-drop (omega arith))
