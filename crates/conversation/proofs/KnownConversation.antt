-- The definitions compute on known counters and bytes, and each call does what they say. This fixes the places in the control byte, for which
-- the theorems over every list have one definition on both sides.
use mathlib.Core.Path.{◌≡◌, refl, ap, ◌∙◌}
use mathlib.Core.List.{List, [], ◌∷◌}
use Prim.Native.Nat.{ℕ, ◌≤◌}
use lib.ListN.{length}
use Rattle.slices.specs.Put.{put_at}
use Rattle.slices.specs.Each.{each}
use Rattle.slices.specs.Same.{same_bytes}
use Rattle.std.specs.Prelude.{Ok}
use Rattle.slices.specs.Written.{fitted}
use Rattle.crc.specs.Crc.{shift_bit, shift_bits, add_byte, crc_of}
use Rattle.ash.specs.Reserved.{reserved}
use Rattle.ash.specs.Stuffing.{payload_max, unstuff_from}
use Rattle.ash.specs.Header.{header_of, sent_header, good_header}
use Rattle.ash.specs.Check.{spread, check_over}
use Rattle.ash.specs.Writing.{frame_of, write_frame}
use Rattle.ash.specs.KnownFrames.{reset_frame, reset_ack_frame}
use Rattle.ash.specs.Reading.{read_by_length, read_by_header, read_frame}
use Rattle.session.specs.Counters.{of_ours, of_peers}
use Rattle.session.specs.Control.{control_byte, control_of}
use Rattle.session.specs.State.{output_room, fresh_session}
use Rattle.session.specs.Frames.{frame_bytes, bytes_of}
use Rattle.session.specs.Results.{gave, Given, given, SendsAs, HandsAs}
use Rattle.session.specs.Events.{reset_given}
use Rattle.session.specs.Receiving.{reset_heard, reset_taken, nacked, heard}
use Rattle.session.specs.declared.control.Kind.{Kind}
use Rattle.session.specs.declared.control.Kind.TheVariants.{Reset, ResetAck, Ack, Nack}
use Rattle.session.specs.declared.state.Held.TheVariants.{Nothing}
use Rattle.session.specs.declared.state.Outcome.{Outcome}
use Rattle.session.specs.declared.state.Session.{Session}
use Rattle.session.proofs.EventLaws.{reset_goes, receive_goes}
use Rattle.conversation.proofs.Chain.{Starts, Resets, Receives, was_reset, was_received}

-- 002, 3.8: the control byte of a frame of ours with this type and these counters, and of a frame of the peer's
pub record KnownControl (kind : Kind) (ofc afc byte : ℕ) : Type 0 where
  pub sent : control_byte kind (of_ours ofc) (of_peers afc) ≡ byte
  pub read : control_of byte ≡ record { kind = kind; number = of_peers ofc; acknowledged = of_ours afc }

-- THEOREM. RESET 1/0 is 08 and RESET ACK 1/1 is 49 (002, 4.1, 4.2 and 3.4), ACK 1/2 (5.2) is 8a and NACK 1/0 is c8 (table 3.1).
pub known_control_bytes : KnownControl Reset 1 0 0x08 × KnownControl ResetAck 1 1 0x49 × KnownControl Ack 1 2 0x8a × KnownControl Nack 1 0 0xc8
unfolding control_byte control_of
known_control_bytes =
    (record { sent = refl; read = refl }, record { sent = refl; read = refl }, record { sent = refl; read = refl }, record { sent = refl; read = refl })

-- NACK 1/0 by 002, 3.8 to 3.11: the check of 7e 00 c8 00 is 7fd2, which is spread to 6f c2 c0
abbrev pub nack_frame : List ℕ
nack_frame = 0x7e ∷ 0x00 ∷ 0xc8 ∷ 0x00 ∷ 0x6f ∷ 0xc2 ∷ 0xc0 ∷ []

-- by the definitions: what is sent, and what is made of the bytes received
known_sent : (s : Session)
    → (bytes_of (reset_given s).frames ≡ reset_frame) × (bytes_of (reset_heard s).frames ≡ reset_ack_frame) × (bytes_of (nacked fresh_session).frames ≡ nack_frame)
unfolding bytes_of frame_bytes control_byte fresh_session write_frame fitted frame_of sent_header header_of check_over spread crc_of add_byte shift_bits shift_bit reserved each
known_sent s = (refl, refl, refl)

known_heard : (s : Session) → (heard s (read_frame payload_max reset_frame) ≡ reset_heard s) × (heard s (read_frame payload_max []) ≡ nacked s)
unfolding control_of reset_taken read_frame read_by_header read_by_length good_header unstuff_from same_bytes header_of check_over spread crc_of add_byte shift_bits shift_bit reserved each
known_heard s = (refl, refl)

-- by the contracts: the bytes of the frames that an event gives are counted and put, and its payload is handed up
module _ (s : Session) (g : Given) (bytes : List ℕ) (is : bytes_of g.frames ≡ bytes) where
  sent_alone : (output : List ℕ) (outcome : Outcome) (output₁ : List ℕ) → SendsAs s (given g) output outcome output₁
      → (outcome.answer ≡ Ok (gave (length bytes) (length g.handed) g.dropped)) × (output₁ ≡ put_at output 0 bytes)
  sent_alone output outcome output₁ did =
      (ap (λ (o : Outcome). o.answer) did.answers ∙ ap (λ (l : List ℕ). Ok (gave (length l) (length g.handed) g.dropped)) is, did.sends ∙ ap (put_at output 0) is)

  sent_and_handed : (output buffer : List ℕ) (outcome : Outcome) (output₁ buffer₁ : List ℕ) → HandsAs s (given g) output buffer outcome output₁ buffer₁
      → (outcome.answer ≡ Ok (gave (length bytes) (length g.handed) g.dropped)) × (output₁ ≡ put_at output 0 bytes) × (buffer₁ ≡ put_at buffer 0 g.handed)
  sent_and_handed output buffer outcome output₁ buffer₁ did =
      let told = sent_alone output outcome output₁ (record { answers = did.answers; sends = did.sends }) in
      (told.0, told.1, did.hands_up)

-- THEOREM. A call of `reset`, whatever the session, puts RESET at the start of the output, hands up nothing and reports the held frames.
pub known_reset : (s : Session) (output : List ℕ) (outcome : Outcome) (output₁ : List ℕ) → Resets s output outcome output₁ → output_room ≤ length output
    → (outcome.answer ≡ Ok (gave 7 0 s.held)) × (output₁ ≡ put_at output 0 reset_frame)
known_reset s output outcome output₁ call enough =
    sent_alone s (reset_given s) reset_frame (known_sent s).0 output outcome output₁ (rw (reset_goes s (length output) enough) at (was_reset call))

module _ (s : Session) (output buffer : List ℕ) (outcome : Outcome) (output₁ buffer₁ : List ℕ) (enough : output_room ≤ length output)
    (all : payload_max ≤ length buffer) where
  -- THEOREM. A call of `receive` that is lent RESET, whatever the session, answers it with RESET ACK, hands up nothing and reports the held frames.
  pub known_reset_heard : Receives s reset_frame output buffer outcome output₁ buffer₁
      → (outcome.answer ≡ Ok (gave 7 0 s.held)) × (output₁ ≡ put_at output 0 reset_ack_frame) × (buffer₁ ≡ buffer)
  known_reset_heard call =
      let goes = receive_goes s (length output) reset_frame (length buffer) enough all ∙ ap given (known_heard s).0 in
      sent_and_handed s (reset_heard s) reset_ack_frame (known_sent s).1 output buffer outcome output₁ buffer₁ (rw goes at (was_received call))

  -- THEOREM. A call of `receive` in a fresh session that is lent no bytes answers them with NACK 1/0, and hands up and reports nothing.
  pub known_nack : Starts s → Receives s [] output buffer outcome output₁ buffer₁
      → (outcome.answer ≡ Ok (gave 7 0 Nothing)) × (output₁ ≡ put_at output 0 nack_frame) × (buffer₁ ≡ buffer)
  known_nack begins call =
      let goes = receive_goes s (length output) [] (length buffer) enough all ∙ ap given (known_heard s).1 in
      sent_and_handed s (nacked s) nack_frame (rw begins (known_sent s).2) output buffer outcome output₁ buffer₁ (rw goes at (was_received call))
