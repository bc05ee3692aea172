-- What a run is as a frame is within bounds, by the tests of the frame reader and then by its type.
use mathlib.Core.Path.{◌≡◌, refl}
use mathlib.Core.Bool.{Bool, true, false, cond}
use mathlib.Core.List.{List}
use Prim.Native.Nat.{ℕ, ◌≤◌}
use native.Mathlib.Omega.{arith}
use lib.Dec.{eqb}
use lib.ListN.{length}
use Rattle.refusals.specs.Numbers.{unknown_type, loaded_acknowledgement, number_of}
use Rattle.refusals.specs.declared.Refusal.{Refusal}
use Rattle.frame.specs.Content as content
use Rattle.frame.specs.Content.{no_place}
use Rattle.frame.specs.Reading.{read_run}
use Rattle.frame.proofs.RefusalLaws.{run_number}
use Rattle.frame.proofs.FrameTheorems.{run_bounded}
use Rattle.ledger.specs.Frames as frames
use Rattle.ledger.specs.Frames.{Frame, by_type, frame_of}
use Rattle.ledger.specs.Calls.{packet_room}

-- a refusal has a number from 1 to 6, and a good data frame at most 383 bytes of payload
abbrev Bounded : Frame → Type 0
Bounded (frames.refused n place) = (1 ≤ number_of n) × (number_of n ≤ 6)
Bounded (frames.acknowledgement sequence) = Unit {0}
Bounded (frames.good sequence payload) = length payload ≤ packet_room

frame_bounded : (run : List ℕ) → Bounded (frame_of run)
unfolding frame_of
frame_bounded run = by_read (read_run run) refl
  where
    by_read : (found : content.Read) → read_run run ≡ found → Bounded (by_type found)
    by_read (content.refused n place) e = let known = run_number n place run e in (known.0, omega (arith, known.1))
    by_read (content.frame kind sequence payload) e = by_type_law (eqb kind 0x01) (eqb kind 0x02) (eqb (length payload) 0)
      where
        by_type_law : (t u v : Bool)
            → Bounded (cond t (frames.good sequence payload) (cond u (cond v (frames.acknowledgement sequence) (frames.refused loaded_acknowledgement no_place)) (frames.refused unknown_type no_place)))
        by_type_law true u v = run_bounded run kind sequence payload e
        by_type_law false true true = tt
        by_type_law false true false = (omega arith, omega arith)
        by_type_law false false v = (omega arith, omega arith)

pub frame_number : (run : List ℕ) (n : Refusal) (place : ℕ) → frame_of run ≡ frames.refused n place → (1 ≤ number_of n) × (number_of n ≤ 6)
frame_number run n place e = rw e at (frame_bounded run)

pub payload_bounded : (run : List ℕ) (sequence : ℕ) (payload : List ℕ) → frame_of run ≡ frames.good sequence payload → length payload ≤ packet_room
payload_bounded run sequence payload e = rw e at (frame_bounded run)
