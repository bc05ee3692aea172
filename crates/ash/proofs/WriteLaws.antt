-- A frame is put in three parts, one behind the other; and what the writer answers, by the room and the payload.
use mathlib.Core.Path.{◌≡◌, refl, ◌∙◌}
use mathlib.Core.List.{List, [], ◌∷◌, ◌++◌}
use Prim.Native.Nat.{ℕ, ◌+◌, ◌≤◌, ◌<◌}
use native.Mathlib.Omega.{arith}
use lib.ListN.{length, length-append}
use borrow.Author.Tests.{lt-ltb, le-ltb}
use Rattle.refusals.specs.Numbers.{bad_length}
use Rattle.slices.specs.Put.{put_at}
use Rattle.slices.specs.Written.{written, refused}
use Rattle.slices.proofs.PutLaws.{put_append}
use Rattle.slices.proofs.WrittenLaws as writing
use Rattle.ash.specs.Reserved.{flag_byte}
use Rattle.ash.specs.Stuffing.{payload_max, stuff}
use Rattle.ash.specs.Header.{header_escape, sent_byte, sent_header}
use Rattle.ash.specs.Check.{spread, check_over, check_bytes}
use Rattle.ash.specs.Writing.{frame_of, write_frame}

three_parts : (out a b c : List ℕ) (n : ℕ) → length a ≡ n → put_at (put_at (put_at out 0 a) n b) (n + length b) c ≡ put_at out 0 (a ++ b ++ c)
three_parts out a b c n e =
    let second : n ≡ 0 + length a = omega arith in
    let third : n + length b ≡ 0 + length (a ++ b) = rw length-append (omega arith) in
    rw (third, second, put_append) (put_append out 0 (a ++ b) c)

pub put_together : (out sent payload : List ℕ) (control escape first second : ℕ) (check : List ℕ)
    → escape ≡ header_escape control (length sent) → first ≡ sent_byte control → second ≡ sent_byte (length sent)
    → check ≡ check_over control (length sent) payload
    → (one two three : List ℕ) → one ≡ put_at out 0 (flag_byte ∷ escape ∷ first ∷ second ∷ []) → two ≡ put_at one 4 sent
    → three ≡ put_at two (4 + length sent) check
    → three ≡ put_at out 0 (sent_header control (length sent) ++ sent ++ check_over control (length sent) payload)
unfolding sent_header
put_together out sent payload control escape first second check e f s k one two three p q r =
    rw (r, q, p, e, f, s, k) (three_parts out (sent_header control (length sent)) sent (check_over control (length sent) payload) 4 refl)

length_spread : (crc : ℕ) → length (spread crc) ≡ 3
unfolding spread
length_spread crc = refl

-- header and check bytes beside the payload as sent
pub frame_length : (control : ℕ) (payload : List ℕ) → length (frame_of control payload) ≡ 7 + length (stuff payload)
unfolding frame_of sent_header check_over
frame_length control payload =
    let header = sent_header control (length (stuff payload)) in
    let check = check_bytes control payload in
    let size : length check ≡ 3 = length_spread _ in
    length-append (header ++ stuff payload) check ∙ omega (arith, length-append header (stuff payload), size)

-- what is put, where the bytes sent are the stuffed payload
pub frame_parts : (control : ℕ) (payload sent : List ℕ) → sent ≡ stuff payload
    → sent_header control (length sent) ++ sent ++ check_over control (length sent) payload ≡ frame_of control payload
unfolding frame_of
frame_parts control payload sent e = rw e

module _ (room control : ℕ) (payload : List ℕ) where
  pub payload_over : payload_max < length (stuff payload) → write_frame room control payload ≡ refused bad_length
  unfolding write_frame
  payload_over h = rw (lt-ltb payload_max (length (stuff payload)) h)

  pub room_enough : length (stuff payload) ≤ payload_max → 7 + length (stuff payload) ≤ room
      → write_frame room control payload ≡ written (frame_of control payload)
  unfolding write_frame
  room_enough h s =
      rw (le-ltb payload_max (length (stuff payload)) h) (writing.room_enough room (frame_of control payload) _ (frame_length control payload) s)
