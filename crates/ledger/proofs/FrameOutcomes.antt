-- What a closed frame does to the link is settled by what the ledger takes the frame for, since both test the type in the same order; and
-- what it means that a call's result and the ledger's effect agree.
use Rattle.std.specs.Prelude as code
use mathlib.Core.Path.{◌≡◌, refl}
use mathlib.Core.Bool.{Bool, true, false, cond}
use mathlib.Core.List.{List, map}
use mathlib.Core.Option.{Option, some, none}
use Prim.Native.Nat.{ℕ}
use lib.Dec.{eqb}
use lib.ListN.{length}
use Rattle.slices.proofs.Impossible.{impossible}
use Rattle.frame.specs.Content as content
use Rattle.frame.specs.Content.{data_type, acknowledgement_type}
use Rattle.rows.specs.Entries.{board_showing}
use Rattle.rows.specs.declared.Board.{Board}
use Rattle.link.specs.Closing.{Outcome, repeats, acknowledgement_frame, again_frame, new_frame, data_frame, refused_frame, read_outcome}
use Rattle.link.specs.Receiving.{call_of}
use Rattle.link.specs.Walk.{Walk}
use Rattle.link.specs.declared.counts.Counts as link_counts
use Rattle.link.specs.declared.receiver.Answer.TheVariants as link_says
use Rattle.sender.specs.declared.state.Sender.{Sender}
use Rattle.display.specs.Display.{result_of}
use Rattle.display.specs.declared.Received.{Received}
use Rattle.ledger.specs.Ledger.{Entry, name_of}
use Rattle.ledger.specs.Frames as frames
use Rattle.ledger.specs.Frames.{Frame, by_type}
use Rattle.ledger.specs.Calls.{Effect}
use Rattle.ledger.specs.Shown.{as_counts, as_sender, as_entry, as_answer}

-- the link's last sequence
abbrev pub as_last : Option ℕ → code.Option ℕ
as_last none = code.None
as_last (some sequence) = code.Some sequence

-- what a frame does to the link, by what it is
abbrev pub link_outcome : Frame → code.Option ℕ → link_counts.Counts → Outcome
link_outcome (frames.refused n place) previous before = refused_frame n place previous before
link_outcome (frames.acknowledgement sequence) previous before = acknowledgement_frame sequence 0 previous before
link_outcome (frames.good sequence payload) previous before = data_frame sequence payload previous before

pub read_by_type : (found : content.Read) (previous : code.Option ℕ) (before : link_counts.Counts)
    → read_outcome found previous before ≡ link_outcome (by_type found) previous before
read_by_type (content.refused n place) previous before = refl
read_by_type (content.frame kind sequence payload) previous before =
    cases (eqb kind data_type) (eqb kind acknowledgement_type) (eqb (length payload) 0) refl refl refl
  where
    cases : (t u v : Bool) → eqb kind data_type ≡ t → eqb kind acknowledgement_type ≡ u → eqb (length payload) 0 ≡ v
        → read_outcome (content.frame kind sequence payload) previous before ≡ link_outcome (by_type (content.frame kind sequence payload)) previous before
    cases true u v a b c = rw a
    cases false true true a b c = rw (a, b, c)
    cases false true false a b c = rw (a, b, c)
    cases false false v a b c = rw (a, b)

-- each of them is an answer
pub frame_answers : (f : Frame) (previous : code.Option ℕ) (before : link_counts.Counts) → (link_outcome f previous before).answer ≡ link_says.Nothing → ⊥
unfolding data_frame
frame_answers (frames.refused n place) previous before e = impossible cc
frame_answers (frames.acknowledgement sequence) previous before e = impossible cc
frame_answers (frames.good sequence payload) previous before e = by_last (repeats previous sequence) e
  where
    by_last : (t : Bool) → (cond t (again_frame sequence previous before) (new_frame sequence payload before)).answer ≡ link_says.Nothing → ⊥
    by_last true e = impossible cc
    by_last false e = impossible cc

-- a board of so many rows shows what the ledger holds of each name, and the names are those of the watch list
pub record Shows (count : ℕ) (names : List (List ℕ)) (es : List Entry) (board : Board) : Type 0 where
  pub showing : board ≡ board_showing count (map as_entry es)
  pub named : map name_of es ≡ names

-- the result of a call and the ledger's effect agree
pub record Effects (count : ℕ) (names : List (List ℕ)) (w : Walk) (result : Received) (reply packet : List ℕ) (e : Effect) : Type 0 where
  pub answers : result.answer ≡ as_answer names e.answer
  pub replied : reply ≡ e.reply
  pub handed : packet ≡ e.packet
  pub counted : result.taken ≡ w.taken
  pub content_is : result.display.link.content ≡ w.content
  pub reader_is : result.display.link.reader ≡ w.reader
  pub last_is : result.display.link.last ≡ as_last e.ledger.line.sequence
  pub counts_are : result.display.link.counts ≡ as_counts e.ledger.line.counts
  pub sender_is : result.display.sender ≡ as_sender e.ledger.sender
  pub shows : Shows count names e.ledger.hives.entries result.display.board

-- they agree for what an outcome makes of the display
abbrev pub EffectsOf : ℕ → List (List ℕ) → Sender → Board → Walk → Outcome → Effect → Type 0
EffectsOf count names sender board w o e =
    Effects count names w (result_of o.answer sender board (call_of w o)) o.reply o.packet e
