-- A frame has at most 64 bytes, and goes out as the writer of C-11 writes it: behind the frames before it, one after the other.
use mathlib.Core.Path.{◌≡◌, refl, sym, ap, ◌∙◌}
use mathlib.Core.Bool.{Bool, true, false}
use mathlib.Core.List.{List, [], ◌∷◌, ◌++◌, append-nil, append_assoc}
use Prim.Native.Nat.{ℕ, ◌+◌, ◌≤◌}
use native.Mathlib.Omega.{arith}
use lib.ListN.{length, take, length-append}
use Rattle.slices.specs.Put.{put_at}
use Rattle.slices.specs.Written.{Output, written, refused, written_bytes, WritesAs}
use Rattle.std.specs.Prelude.{Result, Ok}
use Rattle.refusals.specs.declared.Refusal.{Refusal}
use Rattle.slices.proofs.PutLaws.{put_append, put_told}
use Rattle.slices.proofs.WrittenLaws.{told}
use Rattle.ash.specs.Stuffing.{payload_max, stuff}
use Rattle.ash.specs.Writing.{frame_of, write_frame}
use Rattle.ash.proofs.WriteLaws.{room_enough}
use Rattle.ash.proofs.FrameTheorems.{wrote_frame}
use Rattle.ash.specs.Size.{frame_max}
use Rattle.session.specs.State.{kept}
use Rattle.session.specs.Frames.{Sent, data_frame, frame_bytes, sent_bytes, bytes_of, repeats_if, held_frames}
use Rattle.session.specs.Results.{PutsAs}
use Rattle.session.specs.Steps.{RepeatsAs}
use Rattle.session.specs.declared.state.Held.{Held}
use Rattle.session.specs.declared.state.Held.TheVariants.{Nothing, One, Two}
use Rattle.session.specs.declared.state.Session.{Session}

module _ (control : ℕ) (payload : List ℕ) where
  -- a payload that C-11 takes is sent in its frame
  pub frame_taken : length (stuff payload) ≤ payload_max → frame_bytes control payload ≡ frame_of control payload
  unfolding frame_bytes
  frame_taken short = ap written_bytes (room_enough frame_max control payload short (omega (arith, short)))

  pub frame_short : length (frame_bytes control payload) ≤ frame_max
  unfolding frame_bytes
  frame_short = by_output (write_frame frame_max control payload) refl
    where
      by_output : (o : Output) → write_frame frame_max control payload ≡ o → length (written_bytes o) ≤ frame_max
      by_output (written bytes) e = (wrote_frame frame_max control payload bytes e).fits
      by_output (refused n) e = omega arith

  -- what the writer answered of an array that the longest frame fits
  pub array_written : (array after : List ℕ) (n : ℕ) (result : Result ℕ Refusal) → length array ≡ frame_max → result ≡ Ok n
      → WritesAs (write_frame (length array) control payload) array result after
      → (n ≡ length (frame_bytes control payload)) × (take n after ≡ frame_bytes control payload)
  unfolding frame_bytes
  array_written array after n result size is did =
      let t = told (write_frame (length array) control payload) array n after (rw is at did) in
      let bytes_are : written_bytes (write_frame frame_max control payload) ≡ t.bytes = rw (← size) (ap written_bytes t.is) in
      let fits = (wrote_frame (length array) control payload t.bytes t.is).fits in
      (rw bytes_are t.size, rw bytes_are (put_told array after t.bytes n t.put t.size fits))

-- one frame, and two, one behind the other
pub put_one : (f : Sent) (output : List ℕ) (at n : ℕ) (output₁ : List ℕ) → n ≡ length (sent_bytes f) → output₁ ≡ put_at output at (sent_bytes f)
    → PutsAs (f ∷ []) output at n output₁
unfolding bytes_of
put_one f output at n output₁ size put =
    record { counts = size ∙ ap length (sym (append-nil (sent_bytes f))); puts = put ∙ ap (put_at output at) (sym (append-nil (sent_bytes f))) }

bytes_append : (fs gs : List Sent) → bytes_of (fs ++ gs) ≡ bytes_of fs ++ bytes_of gs
unfolding bytes_of
bytes_append [] gs = refl
bytes_append (f ∷ fs) gs = ap (λ (l : List ℕ). sent_bytes f ++ l) (bytes_append fs gs) ∙ sym (append_assoc (sent_bytes f) (bytes_of fs) (bytes_of gs))

-- frames behind frames
pub put_behind : (fs gs : List Sent) (output : List ℕ) (m n : ℕ) (output₁ output₂ : List ℕ) → PutsAs fs output 0 m output₁ → PutsAs gs output₁ m n output₂
    → PutsAs (fs ++ gs) output 0 (m + n) output₂
put_behind fs gs output m n output₁ output₂ first second =
    let joined = bytes_append fs gs in
    let start : 0 + length (bytes_of fs) ≡ length (bytes_of fs) = omega arith in
    record {
      counts = rw (joined, first.counts, second.counts) (sym (length-append (bytes_of fs) (bytes_of gs)));
      puts = rw (joined, second.puts, first.puts, first.counts, ← start) (put_append output 0 (bytes_of fs) (bytes_of gs));
    }

-- at most two frames are sent again
pub one_short : (f : Sent) → length (bytes_of (f ∷ [])) ≤ frame_max
unfolding bytes_of
one_short f = rw (append-nil (sent_bytes f)) (frame_short _ f.payload)

pub one_counted : {f : Sent} {output : List ℕ} {at n : ℕ} {output₁ : List ℕ} → PutsAs (f ∷ []) output at n output₁ → n ≤ frame_max
one_counted {f} did = rw did.counts (one_short f)

repeats_short : (again : Bool) (s : Session) → length (bytes_of (repeats_if again s)) ≤ frame_max + frame_max
unfolding bytes_of
repeats_short false s = omega arith
repeats_short true s = by_held s.held
  where
    by_held : (held : Held) → length (bytes_of (held_frames held s)) ≤ frame_max + frame_max
    by_held Nothing = omega arith
    by_held (One older) = omega (arith, one_short (data_frame older s.good (kept s.older)))
    by_held (Two older newer) =
        let f = data_frame older s.good (kept s.older) in
        let g = data_frame newer s.good (kept s.newer) in
        rw (bytes_append (f ∷ []) (g ∷ [])) (rw (length-append (bytes_of (f ∷ [])) (bytes_of (g ∷ []))) (omega (arith, one_short f, one_short g)))

pub repeats_counted : {again : Bool} {s : Session} {output : List ℕ} {n : ℕ} {output₁ : List ℕ} → RepeatsAs again s output n output₁ → n ≤ frame_max + frame_max
repeats_counted {again} {s} did = rw did.puts.counts (repeats_short again s)
