-- Every written frame is read back: header and payload are escaped exactly where they are reserved, the length says how many bytes of
-- payload were sent, and the check bytes are computed anew.
use mathlib.Core.Path.{◌≡◌, refl, sym, ap, ap₂, ◌∙◌}
use mathlib.Core.Bool.{Bool, true, false}
use mathlib.Core.List.{List, ◌++◌}
use Prim.Native.Nat.{ℕ, ◌+◌, ◌≤◌}
use native.Mathlib.Omega.{arith}
use lib.ListN.{length, take, drop, length-append}
use lib.Seq.{take_at, drop_at}
use Rattle.refusals.specs.Numbers.{bad_length}
use Rattle.slices.specs.Written.{written}
use Rattle.slices.proofs.WrittenLaws.{Wrote, wrote}
use Rattle.slices.proofs.SameLaws.{same_refl}
use Rattle.ash.specs.Reserved.{reserved, unescaped, rightly_escaped}
use Rattle.ash.specs.Stuffing.{payload_max, stuff}
use Rattle.ash.specs.Header.{escape_bits, header_escape, sent_byte, sent_header, control_escaped, length_escaped, no_reserved_bit, good_header}
use Rattle.ash.specs.Check.{check_bytes}
use Rattle.ash.specs.Writing.{frame_of, write_frame}
use Rattle.ash.specs.Reading.{frame, read_by_length, read_by_header, flag_first, read_frame}
use Rattle.ash.proofs.ReservedLaws.{flipped_twice}
use Rattle.ash.proofs.HeaderLaws.{length_decides}
use Rattle.ash.proofs.ReadLaws.{same_check, length_right, header_good, long_enough}
use Rattle.ash.proofs.WriteLaws.{frame_length, room_enough}
use Rattle.ash.proofs.StuffTheorems.{unstuff_stuff}

-- the two bits of a header escape byte, and no others
record Bits (escape : ℕ) (t u : Bool) : Type 0 where
  no_others : no_reserved_bit escape ≡ true
  control : control_escaped escape ≡ t
  size : length_escaped escape ≡ u

bits : (t u : Bool) → Bits (escape_bits t u) t u
bits true true = record { no_others = refl; control = refl; size = refl }
bits true false = record { no_others = refl; control = refl; size = refl }
bits false true = record { no_others = refl; control = refl; size = refl }
bits false false = record { no_others = refl; control = refl; size = refl }

-- a byte of the header as it is sent is rightly escaped, and stands for itself
record Sent (b : ℕ) : Type 0 where
  right : rightly_escaped (reserved b) (sent_byte b) ≡ true
  stands : unescaped (reserved b) (sent_byte b) ≡ b

sent_right : (b : ℕ) → Sent b
sent_right b = cases (reserved b) refl
  where
    cases : (t : Bool) → reserved b ≡ t → Sent b
    cases true e = record { right = rw (e, flipped_twice b) e; stands = rw (e, flipped_twice b) }
    cases false e = record { right = rw (e, e); stands = rw e }

header_read : (control size : ℕ) → good_header (header_escape control size) (sent_byte control) (sent_byte size) ≡ true
header_read control size =
    let b = bits (reserved control) (reserved size) in
    length_decides (header_escape control size) (sent_byte control) (sent_byte size) b.no_others (rw b.control (sent_right control).right)
    ∙ rw b.size (sent_right size).right

-- the parts of a frame
module _ (control : ℕ) (p : List ℕ) where
  abbrev size : ℕ
  size = length (stuff p)

  frame_payload : take size (drop 4 (frame_of control p)) ≡ stuff p
  unfolding frame_of sent_header
  frame_payload = take_at (stuff p) (check_bytes control p) size refl

  frame_check : drop (size + 4) (frame_of control p) ≡ check_bytes control p
  unfolding frame_of sent_header
  frame_check =
      let header = sent_header control size in
      let before : length (header ++ stuff p) ≡ size + 4 = length-append header (stuff p) ∙ omega arith in
      drop_at (header ++ stuff p) (check_bytes control p) (size + 4) before

  frame_flag : flag_first (frame_of control p) ≡ true
  unfolding frame_of sent_header
  frame_flag = refl

  frame_header : read_by_header (frame_of control p) ≡ read_by_length control size (frame_of control p)
  unfolding frame_of sent_header
  frame_header =
      let bytes = frame_of control p in
      let b = bits (reserved control) (reserved size) in
      let first : unescaped (control_escaped (header_escape control size)) (sent_byte control) ≡ control = rw b.control (sent_right control).stands in
      let second : unescaped (length_escaped (header_escape control size)) (sent_byte size) ≡ size = rw b.size (sent_right size).stands in
      header_good bytes (header_read control size) ∙ ap₂ (λ (c n : ℕ). read_by_length c n bytes) first second

  -- THEOREM. Every frame of any control byte and a payload of at most 57 bytes as sent is read back as its control byte and payload.
  pub frame_read_back : (room : ℕ) → payload_max ≤ room → size ≤ payload_max → read_frame room (frame_of control p) ≡ frame control p
  frame_read_back room asked short =
      let bytes = frame_of control p in
      let long : 7 ≤ length bytes = omega (arith, frame_length control p) in
      let whole : length bytes ≡ size + 7 = omega (arith, frame_length control p) in
      long_enough room bytes asked frame_flag long
      ∙ frame_header
      ∙ length_right control size bytes short whole
      ∙ rw (frame_check, frame_payload, unstuff_stuff p)
      (same_check control (check_bytes control p) (check_bytes control p) p (same_refl (check_bytes control p)))

-- a frame was written only of a payload of at most 57 bytes as sent and into room enough, and it is the frame of the two
pub wrote_frame : (room control : ℕ) (p sent : List ℕ) → write_frame room control p ≡ written sent
    → Wrote payload_max (length (stuff p)) room (frame_of control p) sent
unfolding write_frame
wrote_frame room control p sent e = wrote payload_max (length (stuff p)) room bad_length (frame_of control p) sent e

-- what was written is written wherever it fits
pub written_wherever : (room control : ℕ) (p sent : List ℕ) (room₁ : ℕ) → write_frame room control p ≡ written sent → length sent ≤ room₁
    → write_frame room₁ control p ≡ written sent
written_wherever room control p sent room₁ e fits =
    let w = wrote_frame room control p sent e in
    room_enough room₁ control p w.short (omega (arith, frame_length control p, ap length w.is)) ∙ ap written (sym w.is)

-- THEOREM. Whatever the writer wrote is read back as its control byte and payload.
pub written_read_back : (room control : ℕ) (p sent : List ℕ) (room₁ : ℕ) → write_frame room control p ≡ written sent → payload_max ≤ room₁
    → read_frame room₁ sent ≡ frame control p
written_read_back room control p sent room₁ e asked =
    let w = wrote_frame room control p sent e in
    rw w.is (frame_read_back control p room₁ asked w.short)
