-- What an event goes on with where its tests are met; and data that is sent.
use mathlib.Core.Path.{◌≡◌, refl, sym, ap, ◌∙◌}
use mathlib.Core.Bool.{Bool, true, false, cond}
use mathlib.Core.List.{List}
use Prim.Native.Nat.{ℕ, ◌≤◌}
use native.Mathlib.Omega.{arith}
use lib.Dec.{ltb}
use lib.ListN.{length}
use borrow.Author.Tests.{le-ltb, ltb-true, ltb-false}
use Rattle.refusals.specs.Numbers.{bad_length}
use Rattle.slices.specs.Put.{put_at}
use Rattle.slices.specs.Written.{WritesAs}
use Rattle.std.specs.Prelude.{Result, Ok, Err}
use Rattle.refusals.specs.declared.Refusal.{Refusal}
use Rattle.slices.proofs.Impossible.{impossible}
use Rattle.slices.proofs.WrittenLaws.{told, refusal_keeps}
use Rattle.ash.specs.Stuffing.{payload_max, stuff}
use Rattle.ash.specs.Writing.{write_frame}
use Rattle.ash.specs.Reading.{read_frame}
use Rattle.ash.proofs.WriteLaws.{payload_over, room_enough}
use Rattle.ash.proofs.FrameTheorems.{wrote_frame}
use Rattle.session.specs.Counters.{next_of_ours}
use Rattle.session.specs.Control.{control_byte}
use Rattle.session.specs.State.{output_room}
use Rattle.session.specs.Frames.{data_frame, frame_bytes, sent_bytes}
use Rattle.session.specs.Results.{refused, given, PutsAs}
use Rattle.session.specs.Events.{reset_given, reset_of, send_given, send_data}
use Rattle.session.specs.Receiving.{heard, receive_of}
use Rattle.session.specs.declared.control.Kind.TheVariants.{Ack}
use Rattle.session.specs.declared.state.Session.{Session}
use Rattle.session.proofs.FrameLaws.{frame_taken, put_one}

module _ (s : Session) (room : ℕ) where
  pub reset_goes : output_room ≤ room → reset_of s room ≡ given (reset_given s)
  unfolding reset_of
  reset_goes enough = rw (le-ltb room output_room enough)

  pub receive_goes : (bytes : List ℕ) (payload_room : ℕ) → output_room ≤ room → payload_max ≤ payload_room
      → receive_of s bytes room payload_room ≡ given (heard s (read_frame payload_max bytes))
  unfolding receive_of
  receive_goes bytes payload_room enough all = rw (le-ltb room output_room enough, le-ltb payload_room payload_max all)

-- Data that is sent: the writer, which has room enough, refuses it just where the definition does.
module _ (s : Session) (payload output : List ℕ) (enough : output_room ≤ length output) (control : ℕ) (result : Result ℕ Refusal) (after : List ℕ)
    (did : WritesAs (write_frame (length output) control payload) output result after) where
  pub data_refused : (n : Refusal) → result ≡ Err n → (send_data s payload ≡ refused n) × (after ≡ output)
  unfolding send_data
  data_refused n is = (by_length (ltb payload_max (length (stuff payload))) refl, refusal_keeps _ output n after (rw is at did))
    where
      by_length : (t : Bool) → ltb payload_max (length (stuff payload)) ≡ t → cond t (refused bad_length) (given (send_given s payload)) ≡ refused n
      by_length true e =
          let over = payload_over (length output) control payload (ltb-true payload_max (length (stuff payload)) e) in
          let told = sym is ∙ rw over at did.answers in
          let same : bad_length ≡ n = cc in
          ap refused same
      by_length false e =
          let short = ltb-false payload_max (length (stuff payload)) e in
          let fits = room_enough (length output) control payload short (omega (arith, short, enough)) in
          let told = sym is ∙ rw fits at did.answers in
          impossible cc

  pub data_sent : (n : ℕ) → result ≡ Ok n → control ≡ control_byte Ack (next_of_ours s.counter) s.good
      → (send_data s payload ≡ given (send_given s payload)) × PutsAs (send_given s payload).frames output 0 n after
  unfolding send_data
  data_sent n is control-is =
      let t = told (write_frame (length output) control payload) output n after (rw is at did) in
      let w = wrote_frame (length output) control payload t.bytes t.is in
      let bytes_are : frame_bytes control payload ≡ t.bytes = frame_taken control payload w.short ∙ sym w.is in
      let sent : sent_bytes (data_frame (next_of_ours s.counter) s.good payload) ≡ t.bytes = rw (← control-is) bytes_are in (
        rw (le-ltb payload_max (length (stuff payload)) w.short),
        put_one (data_frame (next_of_ours s.counter) s.good payload) output 0 n after (t.size ∙ ap length (sym sent)) (t.put ∙ ap (put_at output 0) (sym sent)),
      )
