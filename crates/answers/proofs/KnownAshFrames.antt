-- The definitions compute on concrete bytes: the frames of 002, 4.1 and 4.2, its examples of byte stuffing, and the two lengths whose byte
-- is escaped. What they say of the known frames each call does.
use Rattle.std.specs.Prelude.{Result, Ok}
use mathlib.Core.Path.{◌≡◌, refl, ap, ◌∙◌}
use mathlib.Core.List.{List, [], ◌∷◌}
use Prim.Native.Nat.{ℕ, ◌≤◌}
use lib.ListN.{length}
use Rattle.refusals.specs.declared.Refusal.{Refusal}
use Rattle.slices.specs.Put.{put_at}
use Rattle.slices.specs.Each.{each}
use Rattle.slices.specs.Same.{same_bytes}
use Rattle.crc.specs.Crc.{shift_bit, shift_bits, add_byte, crc_of}
use Rattle.ash.specs.Reserved.{reserved}
use Rattle.ash.specs.Stuffing.{payload_max, stuff, unstuff_from}
use Rattle.ash.specs.Header.{header_of, sent_header, good_header}
use Rattle.ash.specs.Check.{spread, check_over}
use Rattle.slices.specs.Written.{written, fitted}
use Rattle.ash.specs.KnownFrames.{reset_frame, reset_ack_frame}
use Rattle.ash.specs.Writing.{frame_of, write_frame}
use Rattle.ash.specs.Reading.{frame, read_by_length, read_by_header, read_frame}
use Rattle.ash.specs.Answers.{frame_read}
use Rattle.ash.specs.declared.reader.Frame.{Frame}
use Rattle.ash.proofs.FrameTheorems.{written_read_back}
use Rattle.ash.proofs.Calls.{Writes, Reads}
use Rattle.ash.proofs.FrameCalls.{call_reads, call_writes}

pub known_written : (write_frame 7 0x08 [] ≡ written reset_frame) × (write_frame 7 0x49 [] ≡ written reset_ack_frame)
unfolding write_frame fitted frame_of sent_header header_of check_over spread crc_of add_byte shift_bits shift_bit reserved each
known_written = (refl, refl)

pub known_read : (read_frame 57 reset_frame ≡ frame 0x08 []) × (read_frame 57 reset_ack_frame ≡ frame 0x49 [])
unfolding read_frame read_by_header read_by_length good_header unstuff_from same_bytes header_of check_over spread crc_of add_byte shift_bits shift_bit reserved each
known_read = (refl, refl)

-- a frame without payload, sent and read by calls
pub record Known (control : ℕ) (bytes : List ℕ) : Type 0 where
  pub sends : (out : List ℕ) (answer : Result ℕ Refusal) (sent : List ℕ) → Writes control [] out answer sent → 7 ≤ length out
      → (answer ≡ Ok 7) × (sent ≡ put_at out 0 bytes)
  pub reads : (before : List ℕ) (answer : Result Frame Refusal) (after : List ℕ) → Reads bytes before answer after → payload_max ≤ length before
      → (answer ≡ Ok (frame_read control 0)) × (after ≡ before)

known : (control : ℕ) (bytes : List ℕ) → length bytes ≡ 7 → write_frame 7 control [] ≡ written bytes → Known control bytes
known control bytes size e =
    record {
      sends = λ out answer sent w fits.
          let told = call_writes control [] bytes 7 out answer sent e w (rw size fits) in
          (told.0 ∙ ap Ok size, told.1);
      reads = λ before answer after r asked.
          call_reads bytes control [] before answer after (written_read_back 7 control [] bytes (length before) e asked) r;
    }

-- THEOREM. Calls send RESET and RESET ACK as these bytes, and read them back.
pub known_calls : Known 0x08 reset_frame × Known 0x49 reset_ack_frame
known_calls = (known 0x08 reset_frame refl known_written.0, known 0x49 reset_ack_frame refl known_written.1)

-- 002, 3.10: the examples, and a byte that is not special within a frame
stuffing_examples : stuff (0x7e ∷ 0x11 ∷ 0x13 ∷ 0x7d ∷ 0xf8 ∷ 0xff ∷ [])
    ≡ 0x7d ∷ 0x5e ∷ 0x7d ∷ 0x31 ∷ 0x7d ∷ 0x33 ∷ 0x7d ∷ 0x5d ∷ 0x7d ∷ 0xd8 ∷ 0xff ∷ []
unfolding each reserved
stuffing_examples = refl

-- lengths 17 and 19, the latter with a control byte that is escaped too
escaped_lengths : (sent_header 0x08 17 ≡ 0x7e ∷ 0x40 ∷ 0x08 ∷ 0x31 ∷ []) × (sent_header 0x11 19 ≡ 0x7e ∷ 0xc0 ∷ 0x31 ∷ 0x33 ∷ [])
unfolding sent_header reserved
escaped_lengths = (refl, refl)
