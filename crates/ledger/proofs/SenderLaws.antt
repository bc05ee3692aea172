-- The sender's rules by cases: what holds of each way through a send or a timeout holds of it.
use mathlib.Core.Path.{◌≡◌, refl}
use mathlib.Core.Bool.{Bool, true, false, cond}
use mathlib.Core.List.{List, []}
use mathlib.Core.Option.{Option, some, none}
use Prim.Native.Nat.{ℕ, ◌≤◌, ◌<◌}
use lib.Dec.{ltb}
use lib.ListN.{length}
use borrow.Author.Tests.{ltb-true, ltb-false}
use Rattle.slices.proofs.Impossible.{impossible}
use Rattle.refusals.specs.Numbers.{short_output}
use Rattle.refusals.specs.declared.Refusal.{Refusal}
use Rattle.frame.specs.Content.{payload_max}
use Rattle.ledger.specs.Ledger.{Held, Sender}
use Rattle.ledger.specs.Answers.{idle}
use Rattle.ledger.specs.Sending.{SenderStep, own_frame, sends, repeats_max, sends_again, drops, times_out_from, times_out, refusing, with_room, waiting, send_step, timeout_step}

free : (held : Option Held) → waiting held ≡ false → held ≡ none
free none e = refl
free (some frame) e = impossible cc

module _ (P : SenderStep → Type 0) (s : Sender) where
  pub by_room : (room : ℕ) (step : SenderStep) → P (refusing s short_output) → (length step.output ≤ room → P step) → P (with_room room s step)
  by_room room step short fits = by_test (ltb room (length step.output)) refl
    where
      by_test : (t : Bool) → ltb room (length step.output) ≡ t → P (cond t (refusing s short_output) step)
      by_test true e = short
      by_test false e = fits (ltb-false room (length step.output) e)

  -- a send: refused, or the frame goes out, since none waits, the payload is within the limit and there is room
  pub by_send : (payload : List ℕ) (room : ℕ) → ((n : Refusal) → P (refusing s n))
      → (s.held ≡ none → length payload ≤ payload_max → length (own_frame s.next payload) ≤ room → P (sends s payload)) → P (send_step s payload room)
  unfolding send_step
  by_send payload room refused goes =
      by_tests (waiting s.held) (ltb payload_max (length payload)) (ltb room (length (own_frame s.next payload))) refl refl refl
    where
      by_tests : (t u v : Bool) → waiting s.held ≡ t → ltb payload_max (length payload) ≡ u → ltb room (length (own_frame s.next payload)) ≡ v
          → P (send_step s payload room)
      by_tests true true v e f g = rw e (refused _)
      by_tests true false v e f g = rw e (refused _)
      by_tests false true v e f g = rw (e, f) (refused _)
      by_tests false false true e f g = rw (e, f, g) (refused _)
      by_tests false false false e f g =
          rw (e, f, g)
          (goes (free s.held e) (ltb-false payload_max (length payload) f) (ltb-false room (length (own_frame s.next payload)) g))

  -- a timeout that is not refused: nothing is held, or the frame is sent again, or it is dropped
  pub by_waiting : (s.held ≡ none → P (record { sender = s; answer = idle; output = [] }))
      → ((frame : Held) → s.held ≡ some frame → frame.repeats < repeats_max → P (sends_again s frame))
      → ((frame : Held) → s.held ≡ some frame → repeats_max ≤ frame.repeats → P (drops s frame)) → P (times_out s)
  by_waiting nothing again third = by_held s.held refl
    where
      by_repeats : (frame : Held) → s.held ≡ some frame → (t : Bool) → ltb frame.repeats repeats_max ≡ t → P (cond t (sends_again s frame) (drops s frame))
      by_repeats frame e true f = again frame e (ltb-true frame.repeats repeats_max f)
      by_repeats frame e false f = third frame e (ltb-false frame.repeats repeats_max f)

      by_held : (held : Option Held) → s.held ≡ held → P (times_out_from held s)
      by_held none e = nothing e
      by_held (some frame) e = by_repeats frame e (ltb frame.repeats repeats_max) refl

  pub by_timeout : (room : ℕ) → P (refusing s short_output) → (length (times_out s).output ≤ room → P (times_out s)) → P (timeout_step s room)
  unfolding timeout_step
  by_timeout room short fits = by_room room (times_out s) short fits
