-- What holds after every list of events: while RESET ACK is awaited no frame is held, and the numbers of the held frames follow each other and
-- end at our counter. Only a send holds a frame, and no send is accepted in the wait.
use mathlib.Core.Path.{◌≡◌, refl, sym, ◌∙◌}
use mathlib.Core.Bool.{true, false}
use mathlib.Core.List.{List, [], ◌∷◌}
use Prim.Native.Nat.{ℕ, suc}
use Rattle.slices.proofs.Impossible.{impossible}
use Rattle.session.specs.declared.state.Session.{Session}
use Rattle.conversation.specs.Ledger.{Ledger, Entry, start, held}
use Rattle.conversation.specs.Events.{Event, Effect}
use Rattle.conversation.specs.OurEvents.{accept}
use Rattle.conversation.specs.PeerFrames.{hear, reset_ack_good}
use Rattle.conversation.specs.Steps.{step, after}
use Rattle.conversation.specs.Shown.{Left, kept_in}
use Rattle.conversation.proofs.EntryLaws.{held_dropped}
use Rattle.conversation.proofs.Agreement.{Holds, none_held_law, one_held, two_held}
use Rattle.conversation.proofs.StepCases.{replied, Cases, step_case}
use Rattle.conversation.proofs.Chain.{Starts, Chain}
use Rattle.conversation.proofs.EveryList.{every_list, from_start}

-- in the wait no frame is held
abbrev FreeInWait : Ledger → Type 0
FreeInWait l = l.awaiting ≡ true → held l.entries ≡ []

record Leaves (e : Effect) : Type 0 where
  free : FreeInWait e.ledger

-- where none is awaited there is nothing to show
idle : (l : Ledger) → l.awaiting ≡ false → FreeInWait l
idle l is awaiting = impossible cc

cases : (l : Ledger) → FreeInWait l → Cases l Leaves
cases l f =
    record {
      refuses = λ n. record { free = f };
      resets = record { free = λ awaiting. held_dropped l.entries };
      accepts = λ payload is few good. record { free = idle (accept l payload) is };
      times_out = record { free = f };
      ignores = record { free = f };
      nacks = record { free = f };
      hears_reset = record { free = λ awaiting. held_dropped l.entries };
      hears_reset_ack = λ payload short. record { free = idle (hear l (reset_ack_good payload) l.entries) refl };
      hears_reply = λ c nack payload short. record { free = idle (replied l c payload) refl };
    }

always_free : (l : Ledger) (es : List Event) → FreeInWait l → FreeInWait (after l es)
unfolding after
always_free l [] f = f
always_free l (e ∷ es) f = always_free (step l e).ledger es (step_case l Leaves (cases l f) e).free

-- numbers that follow each other and end at the counter
pub data EndsAt (counter : ℕ) : List Entry → Type 0 where
  none : EndsAt counter []
  one : {e : Entry} → e.number ≡ counter → EndsAt counter (e ∷ [])
  two : {e f : Entry} → suc e.number ≡ counter → f.number ≡ counter → EndsAt counter (e ∷ f ∷ [])

ends_at : {s : Session} {counter : ℕ} {es : List Entry} → Holds s counter es → EndsAt counter es
ends_at (none_held_law is) = none
ends_at (one_held is k last) = one last
ends_at (two_held is j k first last) = two first last

pub record Invariant (es : List Event) (end : Session) : Type 0 where
  pub numbers : EndsAt (after start es).counter (held (after start es).entries)
  pub in_wait : end.awaiting ≡ true → kept_in end ≡ []

-- THEOREM. After every list of events from a fresh session: the numbers of the held frames follow each other and end at our counter, and while
-- RESET ACK is awaited none is held.
pub every_list_keeps : (s : Session) → Starts s → (es : List Event) (left : List Left) (end : Session) → Chain s es left end → Invariant es end
unfolding held
every_list_keeps s begins es left end chain =
    let is = every_list s begins es left end chain in
    let free = always_free start es (λ awaiting. refl) in
    record {
      numbers = ends_at (from_start begins chain).agrees.holds;
      in_wait = λ awaiting. is.holds ∙ rw (free (sym is.awaiting ∙ awaiting));
    }
