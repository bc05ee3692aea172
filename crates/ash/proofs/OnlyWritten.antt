-- A frame is taken only if the writer writes it: the header's bits say exactly what is escaped, what was unstuffed is stuffed to just the
-- bytes sent, and the check bytes are compared.
use mathlib.Core.Path.{◌≡◌, refl, sym, ap, ap₂, ◌∙◌}
use mathlib.Core.Bool.{Bool, true, false, cond, ◌&&◌}
use mathlib.Core.List.{List, [], ◌∷◌, ◌++◌, append_assoc}
use Prim.Native.Nat.{ℕ, suc, ◌+◌, ◌≤◌}
use native.Mathlib.Omega.{arith}
use lib.ListN.{length, take, drop, take-append-drop}
use lib.Seq.{length-take-le}
use borrow.Author.Tests.{eqb-true, not-true}
use Rattle.refusals.specs.Numbers.{bad_header}
use Rattle.slices.proofs.Impossible.{impossible}
use Rattle.slices.specs.Written.{written}
use Rattle.slices.proofs.TestLaws.{both}
use Rattle.ash.specs.Reserved.{flag_byte, reserved, unescaped, rightly_escaped}
use Rattle.ash.specs.Stuffing.{payload_max, stuff, payload, unstuff}
use Rattle.ash.specs.Header.{escape_bits, sent_byte, sent_header, control_escaped, length_escaped, no_reserved_bit, good_header}
use Rattle.ash.specs.Check.{check_bytes}
use Rattle.ash.specs.Writing.{frame_of, write_frame}
use Rattle.ash.specs.Reading.{frame, refused, read_by_length, read_by_header, read_frame}
use Rattle.ash.proofs.ReservedLaws.{flipped_twice}
use Rattle.ash.proofs.WriteLaws.{frame_length, room_enough}
use Rattle.ash.proofs.StuffLaws.{stuff_least}
use Rattle.ash.proofs.StuffTheorems.{stuff_unstuff}
use Rattle.ash.proofs.TakenLaws.{sized_frame, Opened, opened}

-- a header byte that is rightly escaped is sent so by the writer
rightly_sent : (t : Bool) (s : ℕ) → rightly_escaped t s ≡ true → (reserved (unescaped t s) ≡ t) × (sent_byte (unescaped t s) ≡ s)
rightly_sent true s e = (e, rw e (flipped_twice s))
rightly_sent false s e =
    let free = not-true (reserved s) e in
    (free, rw free)

-- what a good header stands for is sent by the writer as that header
good_sent : (escape control size : ℕ) → good_header escape control size ≡ true
    → sent_header (unescaped (control_escaped escape) control) (unescaped (length_escaped escape) size) ≡ flag_byte ∷ escape ∷ control ∷ size ∷ []
unfolding good_header sent_header
good_sent escape control size e =
    let first = both (no_reserved_bit escape) (rightly_escaped (control_escaped escape) control && rightly_escaped (length_escaped escape) size) e in
    let others = both (rightly_escaped (control_escaped escape) control) (rightly_escaped (length_escaped escape) size) first.second in
    let c = rightly_sent (control_escaped escape) control others.first in
    let n = rightly_sent (length_escaped escape) size others.second in
    let held = eqb-true escape (escape_bits (control_escaped escape) (length_escaped escape)) first.first in
    rw (c.1, n.1, c.0, n.0) (ap (λ (x : ℕ). flag_byte ∷ x ∷ control ∷ size ∷ []) (sym held))

-- a frame that was taken is that of its control byte and payload
record Taken (control : ℕ) (p bytes : List ℕ) : Type 0 where
  short : length (stuff p) ≤ payload_max
  is : bytes ≡ frame_of control p

-- what follows header and payload, once all is known of them
module _ (control size : ℕ) (p rest : List ℕ) (header : List ℕ) (unstuffed : unstuff (take size rest) ≡ payload p)
    (enough : size ≤ length rest) (sent : sent_header control size ≡ header) (check : drop size rest ≡ check_bytes control p) where
  sized : length (stuff p) ≡ size
  sized = ap length (stuff_unstuff (take size rest) p unstuffed) ∙ length-take-le size rest enough

  assembled : header ++ rest ≡ frame_of control p
  unfolding frame_of
  assembled =
      let joined = ap₂ (λ (a b : List ℕ). a ++ b) (stuff_unstuff (take size rest) p unstuffed) (sym check) in
      let parts : stuff p ++ check_bytes control p ≡ rest = joined ∙ take-append-drop size rest in
      let front : sent_header control (length (stuff p)) ≡ header = ap (sent_header control) sized ∙ sent in
      let headed = ap (λ (h : List ℕ). h ++ stuff p ++ check_bytes control p) front in
      sym (headed ∙ append_assoc header (stuff p) (check_bytes control p) ∙ ap (λ (l : List ℕ). header ++ l) parts)

-- a whole frame behind its flag
module _ (escape first second : ℕ) (rest : List ℕ) where
  abbrev meant : ℕ
  meant = unescaped (control_escaped escape) first

  abbrev size_meant : ℕ
  size_meant = unescaped (length_escaped escape) second

  abbrev bytes : List ℕ
  bytes = flag_byte ∷ escape ∷ first ∷ second ∷ rest

  behind_header : (n : ℕ) → drop n rest ≡ drop (n + 4) bytes
  behind_header n = let same : n + 4 ≡ suc (suc (suc (suc n))) = omega arith in rw same

  whole_frame : (control : ℕ) (p : List ℕ) → read_by_header bytes ≡ frame control p → Taken control p bytes
  unfolding read_by_header
  whole_frame control p e = cases (good_header escape first second) refl e
    where
      cases : (t : Bool) → good_header escape first second ≡ t → cond t (read_by_length meant size_meant bytes) (refused bad_header) ≡ frame control p
          → Taken control p bytes
      cases false f e = impossible cc
      cases true f e =
          let s = sized_frame meant size_meant bytes control p e in
          let header : sent_header control size_meant ≡ flag_byte ∷ escape ∷ first ∷ second ∷ [] = rw (← s.parts.same_control) (good_sent escape first second f) in
          let enough : size_meant ≤ length rest = omega (arith, s.whole) in
          let check : drop size_meant rest ≡ check_bytes control p = behind_header size_meant ∙ s.parts.same_bytes_law in
          let fits = sized control size_meant p rest (flag_byte ∷ escape ∷ first ∷ second ∷ []) s.parts.unstuffed enough header check in
          record {
            short = omega (arith, fits, s.small);
            is = assembled control size_meant p rest (flag_byte ∷ escape ∷ first ∷ second ∷ []) s.parts.unstuffed enough header check;
          }

frame_taken : (room : ℕ) (bytes : List ℕ) (control : ℕ) (p : List ℕ) → Opened room bytes (frame control p) → Taken control p bytes
frame_taken room [] control p o = absurd (omega (arith, o.long))
frame_taken room (a ∷ []) control p o = absurd (omega (arith, o.long))
frame_taken room (a ∷ b ∷ []) control p o = absurd (omega (arith, o.long))
frame_taken room (a ∷ b ∷ c ∷ []) control p o = absurd (omega (arith, o.long))
frame_taken room (a ∷ b ∷ c ∷ d ∷ rest) control p o =
    let flag : a ≡ flag_byte = eqb-true a flag_byte o.flag in
    let whole : read_by_header (flag_byte ∷ b ∷ c ∷ d ∷ rest) ≡ frame control p = rw flag at o.whole in
    rw flag (whole_frame b c d rest control p whole)

-- THEOREM. A frame is taken only if it is exactly what the writer writes for its control byte and payload.
module _ (room : ℕ) (bytes : List ℕ) (control : ℕ) (p : List ℕ) (e : read_frame room bytes ≡ frame control p) where
  pub only_written : write_frame (length bytes) control p ≡ written bytes
  only_written =
      let t = frame_taken room bytes control p (opened room bytes control p e) in
      let fits : 7 + length (stuff p) ≤ length bytes = omega (arith, frame_length control p, ap length t.is) in
      room_enough (length bytes) control p t.short fits ∙ ap written (sym t.is)

  -- and its payload fits the output
  pub taken_fits : length p ≤ room
  taken_fits =
      let o = opened room bytes control p e in
      let t = frame_taken room bytes control p o in
      omega (arith, o.asked, t.short, stuff_least p)
