-- What a closed frame leaves of the line, case by case: the run is as it was, and the last sequence is that of the last data frame, by
-- which the next one is repeated at once or new.
use mathlib.Core.Path.{◌≡◌, refl, sym, ap}
use mathlib.Core.Bool.{Bool, true, false, cond}
use mathlib.Core.Option.{Option, some, none}
use Prim.Native.Nat.{ℕ}
use lib.Dec.{eqb}
use borrow.Author.Tests.{eqb-true, eq-eqb, ne_eqb}
use Rattle.slices.proofs.Impossible.{impossible}
use Rattle.board.specs.Reading as reading
use Rattle.board.specs.Reading.{Verdict}
use Rattle.ledger.specs.Ledger.{Ledger}
use Rattle.ledger.specs.Frames as frames
use Rattle.ledger.specs.Frames.{Frame}
use Rattle.ledger.specs.Calls as calls
use Rattle.ledger.specs.Calls.{repeated, closed}
use Rattle.ledger.specs.OwnFrames.{sender_behind_frame}

-- a frame leaves the run alone
read_run_kept : (l : Ledger) (v : Verdict) → (calls.after_reading l v).line.run ≡ l.line.run
read_run_kept l (reading.refused n) = refl
read_run_kept l (reading.end_mark id) = refl
read_run_kept l (reading.update id name value) = refl

pub run_kept : (l : Ledger) (f : Frame) → (closed l f).ledger.line.run ≡ l.line.run
run_kept l (frames.refused n place) = refl
run_kept l (frames.acknowledgement sequence) = refl
run_kept l (frames.good sequence payload) = cases (calls.repeated l.line.sequence sequence)
  where
    cases : (t : Bool) → (cond t (calls.repeated_frame l sequence) (calls.new_frame l sequence payload)).ledger.line.run ≡ l.line.run
    cases true = refl
    cases false = read_run_kept (calls.after_new l sequence) (calls.reading_by l payload)

-- and only an acknowledgement concerns the sender
read_sender_kept : (l : Ledger) (v : Verdict) → (calls.after_reading l v).sender ≡ l.sender
read_sender_kept l (reading.refused n) = refl
read_sender_kept l (reading.end_mark id) = refl
read_sender_kept l (reading.update id name value) = refl

pub sender_followed : (l : Ledger) (f : Frame) → (closed l f).ledger.sender ≡ sender_behind_frame l.sender f
sender_followed l (frames.refused n place) = refl
sender_followed l (frames.acknowledgement sequence) = refl
sender_followed l (frames.good sequence payload) = cases (calls.repeated l.line.sequence sequence)
  where
    cases : (t : Bool) → (cond t (calls.repeated_frame l sequence) (calls.new_frame l sequence payload)).ledger.sender ≡ l.sender
    cases true = refl
    cases false = read_sender_kept (calls.after_new l sequence) (calls.reading_by l payload)

-- whether a data frame is repeated at once, by the last sequence
pub repeats : (last : Option ℕ) (sequence : ℕ) → last ≡ some sequence → (sequence ≡ 0 → ⊥) → repeated last sequence ≡ true
repeats none sequence e more = impossible cc
repeats (some before) sequence e more = let same : sequence ≡ before = cc in rw (ne_eqb sequence 0 more, eq-eqb sequence before same)

pub zero_new : (last : Option ℕ) (sequence : ℕ) → sequence ≡ 0 → repeated last sequence ≡ false
zero_new none sequence e = refl
zero_new (some before) sequence e = rw e

pub other_new : (last : Option ℕ) (sequence : ℕ) → (last ≡ some sequence → ⊥) → repeated last sequence ≡ false
other_new none sequence other = refl
other_new (some before) sequence other = rw (ne_eqb sequence before (λ e. other (ap some (sym e)))) (never (eqb sequence 0))
  where
    never : (t : Bool) → cond t false false ≡ false
    never true = refl
    never false = refl

pub repeats_last : (last : Option ℕ) (sequence : ℕ) → repeated last sequence ≡ true → last ≡ some sequence
repeats_last none sequence e = impossible cc
repeats_last (some before) sequence e = cases (eqb sequence 0) (eqb sequence before) refl e
  where
    cases : (t u : Bool) → eqb sequence before ≡ u → cond t false u ≡ true → some before ≡ some sequence
    cases true u f e = impossible cc
    cases false true f e = ap some (sym (eqb-true sequence before f))
    cases false false f e = impossible cc

-- the sequence of a new one is the last
pub read_sequence : (l : Ledger) (sequence : ℕ) (v : Verdict) → (calls.after_reading (calls.after_new l sequence) v).line.sequence ≡ some sequence
read_sequence l sequence (reading.refused k) = refl
read_sequence l sequence (reading.end_mark id) = refl
read_sequence l sequence (reading.update id name value) = refl
