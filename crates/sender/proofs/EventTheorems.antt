-- A refused event leaves the sender as it was, and sends nothing.
use mathlib.Core.Path.{◌≡◌, refl}
use mathlib.Core.Bool.{Bool, true, false, cond}
use mathlib.Core.List.{List, []}
use Prim.Native.Nat.{ℕ}
use lib.Dec.{ltb}
use Rattle.std.proofs.Common.{Option, Some, None}
use Rattle.refusals.specs.declared.Refusal.{Refusal}
use Rattle.slices.proofs.Impossible.{impossible}
use Rattle.slices.specs.Written as writer
use Rattle.slices.specs.Written.{Output}
use Rattle.frame.specs.Content.{data_type}
use Rattle.frame.specs.Writing.{write_frame}
use Rattle.sender.specs.State.{kept, holding, repeated, freed}
use Rattle.sender.specs.Events.{Given, quiet, goes_out, send_from, send_of, repeats_max, sent_again, timeout_from, timeout_of}
use Rattle.sender.specs.declared.state.Held.{Held}
use Rattle.sender.specs.declared.state.Answer.{Answer}
use Rattle.sender.specs.declared.state.Answer.TheVariants.{Refused, Sent, Repeated, Dropped}
use Rattle.sender.specs.declared.state.Sender.{Sender}

pub record Keeps (s : Sender) (given : Given) : Type 0 where
  pub sender : given.outcome.sender ≡ s
  pub output : given.output ≡ []

refused_keeps : (o : Output) (s behind : Sender) (says : ℕ → Answer) (n : Refusal) → ((k : ℕ) → says k ≡ Refused n → ⊥)
    → (goes_out o s behind says).outcome.answer ≡ Refused n → Keeps s (goes_out o s behind says)
refused_keeps (writer.written bytes) s behind says n never e = absurd (never _ e)
refused_keeps (writer.refused m) s behind says n never e = record { sender = refl; output = refl }

pub refused_send_keeps : (s : Sender) (payload : List ℕ) (room : ℕ) (n : Refusal) → (send_of s payload room).outcome.answer ≡ Refused n → Keeps s (send_of s payload room)
unfolding send_of
refused_send_keeps s payload room n e = by_held s.held e
  where
    by_held : (h : Option Held) → (send_from h s payload room).outcome.answer ≡ Refused n → Keeps s (send_from h s payload room)
    by_held None e =
        refused_keeps (write_frame room data_type s.next payload) s (holding s payload) (Sent s.next) n (λ k f. impossible cc) e
    by_held (Some held) e = record { sender = refl; output = refl }

pub refused_timeout_keeps : (s : Sender) (room : ℕ) (n : Refusal) → (timeout_of s room).outcome.answer ≡ Refused n → Keeps s (timeout_of s room)
unfolding timeout_of
refused_timeout_keeps s room n e = by_held s.held e
  where
    by_repeats : (held : Held) (t : Bool) → (cond t (sent_again s held.sequence held.repeats room) (quiet (freed s) (Dropped held.sequence))).outcome.answer ≡ Refused n
        → Keeps s (cond t (sent_again s held.sequence held.repeats room) (quiet (freed s) (Dropped held.sequence)))
    by_repeats held true e =
        refused_keeps (write_frame room data_type held.sequence (kept s.payload)) s (repeated s held.sequence held.repeats) (Repeated held.sequence) n (λ k f. impossible cc) e
    by_repeats held false e = impossible cc

    by_held : (h : Option Held) → (timeout_from h s room).outcome.answer ≡ Refused n → Keeps s (timeout_from h s room)
    by_held None e = record { sender = refl; output = refl }
    by_held (Some held) e = by_repeats held (ltb held.repeats repeats_max) e
