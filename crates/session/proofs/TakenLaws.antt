-- What a frame of the peer's is taken as.
use mathlib.Core.Path.{◌≡◌, refl}
use mathlib.Core.Bool.{Bool, true, false, cond}
use mathlib.Core.List.{List, []}
use Prim.Native.Nat.{ℕ}
use lib.ListN.{length, take}
use Rattle.std.specs.Prelude.{Ok}
use Rattle.ash.specs.Reading.{read_frame}
use Rattle.ash.specs.Answers.{frame_read, ReadsAs}
use Rattle.ash.proofs.Calls.{frame_found}
use Rattle.session.specs.Control.{control_of}
use Rattle.session.specs.State.{in_order}
use Rattle.session.specs.Receiving.{nacked, good_reset, reset_heard, reset_taken, reply_heard, reply_taken, frame_taken, heard}
use Rattle.session.specs.declared.control.Control.{Control}
use Rattle.session.specs.declared.state.Session.{Session}

-- a RESET hands up nothing
pub reset_hands_none : (s : Session) (c : Control) (size : ℕ) → (reset_taken s c size).handed ≡ []
unfolding reset_taken
reset_hands_none s c size = by_form (good_reset c size)
  where
    by_form : (t : Bool) → (cond t (reset_heard s) (nacked s)).handed ≡ []
    by_form true = refl
    by_form false = refl

pub reply_heard_law : (s : Session) (c : Control) (payload : List ℕ) (again : Bool) → s.awaiting ≡ false → in_order s.good c.number (length payload) ≡ true
    → reply_taken s c again payload ≡ reply_heard s c again payload
unfolding reply_taken
reply_heard_law s c payload again idle good = rw (idle, good)

-- by what the reader of C-11 answered
pub read_taken : (s : Session) (bytes array after : List ℕ) (control n : ℕ) → ReadsAs (read_frame (length array) bytes) array (Ok (frame_read control n)) after
    → heard s (read_frame (length array) bytes) ≡ frame_taken s (control_of control) (take n after)
read_taken s bytes array after control n did = rw (frame_found bytes array control n after did)
