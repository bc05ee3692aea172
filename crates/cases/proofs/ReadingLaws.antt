-- What is left of a line's bytes, put behind those that are in the buffer, gives what all of them give at its start. So the
-- buffer is right once none is left, and also once it is full, since nothing is put behind its end.
use mathlib.Core.Path.{◌≡◌, sym, ◌∙◌}
use mathlib.Core.List.{List, [], ◌∷◌}
use Prim.Native.Nat.{ℕ, ◌+◌, ◌≤◌, ◌<◌, min}
use native.Mathlib.Numerals.{add-one}
use native.Mathlib.Omega.{arith}
use lib.ListN.{length, set, length-set}
use Rattle.slices.specs.Put.{put_at}
use Rattle.slices.proofs.PutLaws.{put_out}

pub record Left (whole start left buffer : List ℕ) (count : ℕ) : Type 0 where
  pub size : length buffer ≡ length start
  pub puts : put_at buffer count left ≡ put_at start 0 whole
  pub counts : count + length left ≡ length whole

module _ {whole start left buffer : List ℕ} {count : ℕ} (so_far : Left whole start left buffer count) where
  -- the next one is stored
  pub next_stored : (byte : ℕ) (rest : List ℕ) → left ≡ byte ∷ rest → count < length buffer → Left whole start rest (set buffer count byte) (count + 1)
  next_stored byte rest e h =
      let before = rw e at so_far.puts in
      let all = rw e at so_far.counts in
      record { size = omega (arith, length-set buffer count byte, so_far.size); puts = rw add-one before; counts = omega (arith, all) }

  -- none is left
  pub none_left : left ≡ [] → count < length buffer → (buffer ≡ put_at start 0 whole) × (count ≡ min (length whole) (length start))
  none_left e h = (rw e at so_far.puts, omega (arith, rw e at so_far.counts, so_far.size))

  -- the buffer is full
  pub full : length buffer ≤ count → (buffer ≡ put_at start 0 whole) × (length buffer ≡ min (length whole) (length start))
  full h = (sym (put_out buffer count left h) ∙ so_far.puts, omega (arith, so_far.counts, so_far.size))
