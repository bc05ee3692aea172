-- Each test of the whole-frame reader has its law.
use mathlib.Core.Path.{◌≡◌, refl}
use mathlib.Core.Bool.{true, false}
use mathlib.Core.List.{List}
use Prim.Native.Nat.{ℕ, ◌-◌, ◌≤◌, ◌<◌}
use native.Mathlib.Omega.{arith}
use lib.ListN.{length, take, drop}
use borrow.Author.Tests.{lt-ltb, le-ltb}
use Rattle.refusals.specs.Numbers.{bad_framing, short_output}
use Rattle.std.specs.Prelude.{Err}
use Rattle.refusals.specs.declared.Refusal.{Refusal}
use Rattle.frame.specs.Stuffing as stuffing
use Rattle.frame.specs.Stuffing.{flag_byte, unstuff}
use Rattle.frame.specs.Content.{payload_max, Read, refused, no_place, judged}
use Rattle.frame.specs.Reading.{read_run, flagged_bytes, between, read_frame}
use Rattle.frame.specs.Answers.{ReadsAs, fault_at}

-- the reader of one whole frame, one law for each test
module _ (room : ℕ) (bytes : List ℕ) where
  pub frame_no_room : room < payload_max → read_frame room bytes ≡ refused short_output no_place
  unfolding read_frame
  frame_no_room h = rw (lt-ltb room payload_max h)

  pub frame_unflagged : payload_max ≤ room → flagged_bytes bytes ≡ false → read_frame room bytes ≡ refused bad_framing no_place
  unfolding read_frame
  frame_unflagged h e = rw (le-ltb room payload_max h, e)

  pub frame_run : payload_max ≤ room → flagged_bytes bytes ≡ true → read_frame room bytes ≡ read_run (between bytes)
  unfolding read_frame
  frame_run h e = rw (le-ltb room payload_max h, e)

-- and by what unstuffing gives
pub run_refused : (run : List ℕ) (n : Refusal) (place : ℕ) → unstuff run ≡ stuffing.refused n place → read_run run ≡ refused n place
unfolding read_run
run_refused run n place e = rw e

pub run_content : (run c : List ℕ) → unstuff run ≡ stuffing.content c → read_run run ≡ judged c
unfolding read_run
run_content run c e = rw e

-- the bytes between the flags as a part of the slice
pub between_part : (bytes : List ℕ) → take (length bytes - 1 - 1) (drop 1 bytes) ≡ between bytes
between_part bytes = let same : length bytes - 1 - 1 ≡ length bytes - 2 = omega arith in rw same

-- a refusal is answered and leaves the output as it was
pub refuses : (found : Read) (n : Refusal) (place : ℕ) (out : List ℕ) → found ≡ refused n place → ReadsAs found out (Err (fault_at n place)) out
refuses found n place out e = rw e (record { answers = refl; output = refl })
