-- A payload as it is sent has no reserved byte but its escape bytes: a reserved byte goes out with bit 5 flipped and is then not reserved.
use mathlib.Core.Path.{◌≡◌, refl}
use mathlib.Core.Bool.{Bool, true, false}
use mathlib.Core.List.{List, [], ◌∷◌, ◌++◌}
use Prim.Native.Nat.{ℕ, zero, suc, ◌+◌, ◌<◌}
use native.Mathlib.Omega.{arith}
use lib.ListN.{length, get_or, length-append, get_or-append}
use lib.Seq.{get_or-append-add}
use Rattle.slices.proofs.Impossible.{impossible}
use Rattle.slices.specs.Each.{each}
use Rattle.ash.specs.Reserved.{escape_byte, reserved, flipped}
use Rattle.ash.specs.Stuffing.{stuff_byte, stuff}
use Rattle.ash.proofs.ReservedLaws.{without_bit_4, flipped_twice, flipped_free}
use Rattle.ash.proofs.StuffLaws.{byte_escaped, byte_plain}

-- an escape byte with a byte behind it that stands, with bit 5 flipped, for a reserved one
pub record EscapeAt (s : List ℕ) (i : ℕ) : Type 0 where
  pub escape : get_or s i 0 ≡ escape_byte
  pub inside : suc i < length s
  pub behind : reserved (flipped (get_or s (suc i) 0)) ≡ true

-- the same in front of other bytes, and behind them
pub earlier : (s ys : List ℕ) (i : ℕ) → EscapeAt s i → EscapeAt (s ++ ys) i
earlier s ys i e =
    let before : i < length s = omega (arith, e.inside) in
    record {
      escape = rw (get_or-append s ys 0 i before) e.escape;
      inside = rw length-append (omega (arith, e.inside));
      behind = rw (get_or-append s ys 0 (suc i) e.inside) e.behind;
    }

pub later : (xs s : List ℕ) (i n : ℕ) → n ≡ length xs + i → EscapeAt s i → EscapeAt (xs ++ s) n
later xs s i n place e =
    let next : suc n ≡ length xs + suc i = omega arith in
    record {
      escape = rw (place, get_or-append-add xs s i 0) e.escape;
      inside = rw length-append (omega (arith, e.inside));
      behind = rw (next, get_or-append-add xs s (suc i) 0) e.behind;
    }

-- one byte of payload more, if the others are so
module _ (b : ℕ) (rest : List ℕ) (others : (i : ℕ) → reserved (get_or rest i 0) ≡ true → EscapeAt rest i) where
  pair_free : reserved b ≡ true → (i : ℕ) → reserved (get_or (escape_byte ∷ flipped b ∷ rest) i 0) ≡ true → EscapeAt (escape_byte ∷ flipped b ∷ rest) i
  pair_free e zero h = record { escape = refl; inside = omega arith; behind = rw (flipped_twice b) e }
  pair_free e (suc zero) h =
      let no = flipped_free b e in
      impossible cc
  pair_free e (suc (suc i)) h = later (escape_byte ∷ flipped b ∷ []) rest i (suc (suc i)) (omega arith) (others i h)

  byte_free : reserved b ≡ false → (i : ℕ) → reserved (get_or (b ∷ rest) i 0) ≡ true → EscapeAt (b ∷ rest) i
  byte_free e zero h = impossible cc
  byte_free e (suc i) h = later (b ∷ []) rest i (suc i) (omega arith) (others i h)

  stuffed_more : (i : ℕ) → reserved (get_or (stuff_byte b ++ rest) i 0) ≡ true → EscapeAt (stuff_byte b ++ rest) i
  stuffed_more i = cases (reserved b) refl
    where
      cases : (t : Bool) → reserved b ≡ t → reserved (get_or (stuff_byte b ++ rest) i 0) ≡ true → EscapeAt (stuff_byte b ++ rest) i
      cases true e = rw (byte_escaped b e) (pair_free e i)
      cases false e = rw (byte_plain b e) (byte_free e i)

-- a reserved byte of a stuffed payload is an escape byte of it
pub stuffed_free : (p : List ℕ) (i : ℕ) → reserved (get_or (stuff p) i 0) ≡ true → EscapeAt (stuff p) i
unfolding each
stuffed_free [] i h =
    let no : reserved 0 ≡ false = without_bit_4 0 refl in
    impossible cc
stuffed_free (b ∷ bs) i h = stuffed_more b (stuff bs) (stuffed_free bs) i h
