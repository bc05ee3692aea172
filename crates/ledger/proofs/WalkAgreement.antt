-- The receiver's walk over a piece and the ledger's agree byte by byte: each byte joins the run or closes the same frame in both.
use Rattle.std.specs.Prelude as code
use mathlib.Core.Path.{◌≡◌, refl, sym, ap, ◌∙◌}
use mathlib.Core.Bool.{Bool, true, false}
use mathlib.Core.List.{List, [], ◌∷◌}
use mathlib.Core.Option.{Option, some, none}
use Prim.Native.Nat.{ℕ, suc, ◌≤◌}
use native.Mathlib.Omega.{arith}
use lib.Dec.{eqb}
use lib.ListN.{length}
use borrow.Author.Tests.{eqb-true, eqb-false, eq-eqb, ne_eqb}
use Rattle.slices.proofs.PutLaws.{length_put}
use Rattle.frame.specs.Stuffing.{flag_byte, content_max}
use Rattle.frame.specs.Reading.{read_run}
use Rattle.link.specs.Reader.{Ended, behind_flag, ended_by, step_of, content_after}
use Rattle.link.specs.Walk as walk
use Rattle.link.specs.Walk.{flag_turn, turn_of, go_on, walk_of}
use Rattle.link.specs.Closing.{Outcome, read_outcome, close_of}
use Rattle.link.specs.Seen.{seen_run}
use Rattle.link.specs.declared.counts.Counts.{Counts}
use Rattle.link.specs.declared.reader.Reader.{Reader}
use Rattle.link.specs.Counts.{no_counts}
use Rattle.link.proofs.WalkLaws.{turn_flag, turn_byte}
use Rattle.link.proofs.SeenLaws.{step_grows}
use Rattle.ledger.specs.Frames.{joined, goes_on, closes, at_flag, turn, after_turn, taken, by_type}
use Rattle.ledger.proofs.FrameOutcomes.{read_by_type, frame_answers}
use Rattle.ledger.proofs.RunAgreement.{Standing, Agreement, byte_standing, run_closes, nothing_ended, before_ended, behind_standing}

-- one turn of both, and then the rest of the piece
module _ (array : List ℕ) (reader : Reader) (run : Option (List ℕ)) (b : ℕ) (bs : List ℕ) (n : ℕ) where
  abbrev Turned : Type 0
  Turned =
      Agreement (after_turn (turn run b) (suc n) (λ run₁ n₁. taken run₁ bs n₁))
      (go_on (turn_of array reader b) array (suc n) (λ array₁ reader₁ n₁. walk_of bs array₁ reader₁ n₁))

  going_on : (run₁ : Option (List ℕ)) (array₁ : List ℕ) (reader₁ : Reader) → turn run b ≡ goes_on run₁
      → turn_of array reader b ≡ walk.goes_on array₁ reader₁ → Agreement (taken run₁ bs (suc n)) (walk_of bs array₁ reader₁ (suc n)) → Turned
  going_on run₁ array₁ reader₁ e f rest = rw (e, f) rest

  closing : (frame : List ℕ) (end : Ended) → turn run b ≡ closes frame → turn_of array reader b ≡ walk.stops end
      → ((previous : code.Option ℕ) (before : Counts) → close_of end array previous before ≡ read_outcome (read_run frame) previous before) → Turned
  closing frame end e f closed = rw (e, f) (record { counted = refl; reached = (behind_standing array, closed) })

turn_at_flag : (run : Option (List ℕ)) (b : ℕ) → b ≡ flag_byte → turn run b ≡ at_flag run
unfolding turn
turn_at_flag run b e = rw (eq-eqb b flag_byte e)

turn_joins : (run : Option (List ℕ)) (b : ℕ) → (b ≡ flag_byte → ⊥) → turn run b ≡ goes_on (joined run b)
unfolding turn
turn_joins run b ne = rw (ne_eqb b flag_byte ne)

abbrev Rest : List ℕ → ℕ → Type 0
Rest bs n =
    (array : List ℕ) (reader : Reader) (run : Option (List ℕ)) → length array ≡ content_max → reader.length ≤ content_max
    → Standing run array reader → Agreement (taken run bs n) (walk_of bs array reader n)

module _ (array : List ℕ) (reader : Reader) (b : ℕ) (bs : List ℕ) (n : ℕ) (whole : length array ≡ content_max) (within : reader.length ≤ content_max)
    (rest : Rest bs (suc n)) where
  starts_anew : (run : Option (List ℕ)) → b ≡ flag_byte → at_flag run ≡ goes_on (some []) → ended_by reader ≡ code.Ok code.None → Turned array reader run b bs n
  starts_anew run flag e none-ended =
      going_on array reader run b bs n (some []) array behind_flag (turn_at_flag run b flag ∙ e)
      (turn_flag array reader b flag ∙ ap (flag_turn array) none-ended)
      (rest array behind_flag (some []) whole (omega arith) (behind_standing array))

  ends_frame : (x : ℕ) (xs : List ℕ) → b ≡ flag_byte → Standing (some (x ∷ xs)) array reader → Turned array reader (some (x ∷ xs)) b bs n
  ends_frame x xs flag standing = by_end (ended_by reader) refl
    where
      stops : (end : Ended) → ended_by reader ≡ end → flag_turn array end ≡ walk.stops end → Turned array reader (some (x ∷ xs)) b bs n
      stops end e f =
          closing array reader (some (x ∷ xs)) b bs n (x ∷ xs) end (turn_at_flag (some (x ∷ xs)) b flag)
          (turn_flag array reader b flag ∙ ap (flag_turn array) e ∙ f)
          (λ previous before.
          ap (λ (end₁ : Ended). close_of end₁ array previous before) (sym e)
          ∙ run_closes array reader whole within x xs standing previous before)

      by_end : (end : Ended) → ended_by reader ≡ end → Turned array reader (some (x ∷ xs)) b bs n
      by_end (code.Ok code.None) e =
          let closed = run_closes array reader whole within x xs standing code.None no_counts in
          let same = ap (λ (end₁ : Ended). close_of end₁ array code.None no_counts) (sym e) ∙ closed ∙ read_by_type (read_run (x ∷ xs)) code.None no_counts in
          absurd (frame_answers (by_type (read_run (x ∷ xs))) code.None no_counts (sym (ap (λ (o : Outcome). o.answer) same)))
      by_end (code.Ok (code.Some k)) e = stops (code.Ok (code.Some k)) e refl
      by_end (code.Err fault) e = stops (code.Err fault) e refl

  flag_turn_law : (run : Option (List ℕ)) → b ≡ flag_byte → Standing run array reader → Turned array reader run b bs n
  unfolding seen_run
  flag_turn_law none flag standing = starts_anew none flag refl (before_ended reader standing)
  flag_turn_law (some []) flag standing = starts_anew (some []) flag refl (nothing_ended array reader whole within standing)
  flag_turn_law (some (x ∷ xs)) flag standing = ends_frame x xs flag standing

  byte_turn : (run : Option (List ℕ)) → (b ≡ flag_byte → ⊥) → Standing run array reader → Turned array reader run b bs n
  byte_turn run ne standing =
      let step = step_of reader b in
      going_on array reader run b bs n (joined run b) (content_after array reader.length step) step.reader (turn_joins run b ne)
      (turn_byte array reader b ne)
      (rest (content_after array reader.length step) step.reader (joined run b)
      (length_put array reader.length step.brings ∙ whole)
      (step_grows array reader whole within b).bounded
      (byte_standing array reader whole within run b standing))

pub agree : (piece : List ℕ) (n : ℕ) → Rest piece n
unfolding taken walk_of
agree [] n array reader run whole within standing = record { counted = refl; reached = (refl, standing) }
agree (b ∷ bs) n array reader run whole within standing =
    by_byte (eqb b flag_byte) refl (agree bs (suc n))
  where
    by_byte : (t : Bool) → eqb b flag_byte ≡ t → Rest bs (suc n) → Turned array reader run b bs n
    by_byte true e rest = flag_turn_law array reader b bs n whole within rest run (eqb-true b flag_byte e) standing
    by_byte false e rest = byte_turn array reader b bs n whole within rest run (eqb-false b flag_byte e) standing
