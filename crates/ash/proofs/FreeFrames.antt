-- A sent frame has no reserved byte but its flag and the escape bytes of its payload: header bytes are escaped where they are reserved,
-- so are those of the payload, and each reserved byte has bit 4 set, which no check byte has.
use mathlib.Core.Path.{◌≡◌, refl}
use mathlib.Core.Bool.{Bool, true, false}
use mathlib.Core.List.{List, ◌++◌}
use mathlib.Core.Logic.{◌⊎◌, inl, inr}
use Prim.Native.Nat.{ℕ, zero, suc, ◌+◌, ◌-◌, ◌*◌, ◌/◌, ◌%◌, ◌≤◌, ◌<◌}
use native.Mathlib.Omega.{arith}
use lib.Dec.{ltb}
use lib.ListN.{length, get_or, get_or-append}
use lib.Seq.{get_or-append-add}
use borrow.Author.Tests.{ltb-true, ltb-false}
use Rattle.slices.proofs.Impossible.{impossible}
use Rattle.ash.specs.Reserved.{flag_byte, reserved}
use Rattle.ash.specs.Stuffing.{stuff}
use Rattle.ash.specs.Header.{escape_bits, sent_byte, sent_header}
use Rattle.ash.specs.Check.{bit4, without_bit4, spread, check_over, check_bytes}
use Rattle.ash.specs.Writing.{frame_of}
use Rattle.ash.proofs.ReservedLaws.{without_bit_4, flipped_free}
use Rattle.ash.proofs.WriteLaws.{frame_length}
use Rattle.ash.proofs.FreePayload.{EscapeAt, earlier, later, stuffed_free}

-- no check byte is reserved, nor is what stands for no byte
check_free : (crc i : ℕ) → reserved (get_or (spread crc) i 0) ≡ false
unfolding spread
check_free crc zero = without_bit_4 (without_bit4 (crc / 0x100)) (omega arith)
check_free crc (suc zero) = without_bit_4 (without_bit4 (crc % 0x100)) (omega arith)
check_free crc (suc (suc zero)) = without_bit_4 (bit4 (crc / 0x100) * 0x80 + bit4 (crc % 0x100) * 0x40) (omega arith)
check_free crc (suc (suc (suc i))) = without_bit_4 0 refl

escape_free : (t u : Bool) → reserved (escape_bits t u) ≡ false
unfolding reserved
escape_free true true = refl
escape_free true false = refl
escape_free false true = refl
escape_free false false = refl

sent_free : (b : ℕ) → reserved (sent_byte b) ≡ false
sent_free b = cases (reserved b) refl
  where
    cases : (t : Bool) → reserved b ≡ t → reserved (sent_byte b) ≡ false
    cases true e = rw e (flipped_free b e)
    cases false e = rw e e

behind_free : (xs ys : List ℕ) (i : ℕ) → length xs ≤ i → ((j : ℕ) → reserved (get_or ys j 0) ≡ false) → reserved (get_or (xs ++ ys) i 0) ≡ false
behind_free xs ys i past free =
    let place : i ≡ length xs + (i - length xs) = omega arith in
    rw (place, get_or-append-add xs ys (i - length xs) 0) (free (i - length xs))

-- an escape byte of the payload among the bytes of a frame: it stands behind the four bytes of the header, and the byte that it escapes before
-- the three check bytes
pub record PayloadEscape (bytes : List ℕ) (i : ℕ) : Type 0 where
  pub behind_header : 4 ≤ i
  pub before_check : suc i + 3 < length bytes
  pub escapes : EscapeAt bytes i

module _ (control : ℕ) (p : List ℕ) where
  checks_free : (i : ℕ) → reserved (get_or (check_bytes control p) i 0) ≡ false
  unfolding check_over
  checks_free i = check_free _ i

  -- a reserved byte of payload and check bytes is an escape byte of the payload
  rest_free : (i : ℕ) → reserved (get_or (stuff p ++ check_bytes control p) i 0) ≡ true → EscapeAt (stuff p) i
  rest_free i h = cases (ltb i (length (stuff p))) refl
    where
      cases : (t : Bool) → ltb i (length (stuff p)) ≡ t → EscapeAt (stuff p) i
      cases true e =
          let here = get_or-append (stuff p) (check_bytes control p) 0 i (ltb-true i (length (stuff p)) e) in
          stuffed_free p i (rw here at h)
      cases false e =
          let no = behind_free (stuff p) (check_bytes control p) i (ltb-false i (length (stuff p)) e) checks_free in
          impossible cc

  -- and that stands so in the frame
  payload_escape : (i : ℕ) → EscapeAt (stuff p) i → PayloadEscape (frame_of control p) (suc (suc (suc (suc i))))
  unfolding frame_of sent_header
  payload_escape i e =
      let rest = earlier (stuff p) (check_bytes control p) i e in
      record {
        behind_header = omega arith;
        before_check = omega (arith, frame_length control p, e.inside);
        escapes = later (sent_header control (length (stuff p))) (stuff p ++ check_bytes control p) i (suc (suc (suc (suc i)))) (omega arith) rest;
      }

  -- THEOREM. A reserved byte of a sent frame is its first byte, the flag, or an escape byte of its payload.
  pub only_flag_and_escapes : (i : ℕ) → reserved (get_or (frame_of control p) i 0) ≡ true
      → ((i ≡ 0) × (get_or (frame_of control p) i 0 ≡ flag_byte)) ⊎ PayloadEscape (frame_of control p) i
  unfolding frame_of sent_header
  only_flag_and_escapes zero h = inl (refl, refl)
  only_flag_and_escapes (suc zero) h =
      let no = escape_free (reserved control) (reserved (length (stuff p))) in
      impossible cc
  only_flag_and_escapes (suc (suc zero)) h =
      let no = sent_free control in
      impossible cc
  only_flag_and_escapes (suc (suc (suc zero))) h =
      let no = sent_free (length (stuff p)) in
      impossible cc
  only_flag_and_escapes (suc (suc (suc (suc i)))) h = inr (payload_escape i (rest_free i h))
