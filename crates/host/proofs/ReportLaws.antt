-- What the frame functions answer fits its part of a report, and each part of a report can be read off it, since it has digits
-- of its own.
use mathlib.Core.Path.{◌≡◌, refl, ap}
use mathlib.Core.List.{List}
use Prim.Native.Nat.{ℕ, ◌≤◌, ◌<◌}
use native.Mathlib.Omega.{arith}
use lib.ListN.{length}
use Rattle.std.specs.Prelude.{Ok, Err}
use Rattle.refusals.specs.declared.Refusal.{Refusal}
use Rattle.slices.specs.Written as writing
use Rattle.slices.specs.Written.{Output, write_answer, WritesAs}
use Rattle.slices.proofs.Impossible.{impossible}
use Rattle.frame.specs.Content as content
use Rattle.frame.specs.Content.{no_place}
use Rattle.frame.specs.Answers.{read_answer, frame_found, fault_at}
use Rattle.frame.specs.declared.content.Frame.{Frame}
use Rattle.frame.proofs.ContentLaws.{same_fault}
use Rattle.host.specs.Report.{report_of, Parts}

-- a length that was answered is that of a payload that was read, or of a frame that was written
pub read_size : (found : content.Read) (k q n limit : ℕ)
    → ((k₁ q₁ : ℕ) (p : List ℕ) → found ≡ content.frame k₁ q₁ p → length p ≤ limit) → Ok (frame_found k q n) ≡ read_answer found → n ≤ limit
read_size (content.frame k₁ q₁ p) k q n limit bound e =
    let same : frame_found k q n ≡ frame_found k₁ q₁ (length p) = cc in
    rw (ap (λ (f : Frame). f.length) same) (bound k₁ q₁ p refl)
read_size (content.refused m place) k q n limit bound e = impossible cc

-- and a place that was answered is that of a refusal
pub read_place : (found : content.Read) (n : Refusal) (place limit : ℕ)
    → ((n₁ : Refusal) (place₁ : ℕ) → found ≡ content.refused n₁ place₁ → place₁ ≤ limit) → Err (fault_at n place) ≡ read_answer found → place ≤ limit
read_place (content.frame k q p) n place limit bound e = impossible cc
read_place (content.refused n₁ place₁) n place limit bound e =
    rw (same_fault n n₁ place place₁ e).1 (bound n₁ place₁ refl)

pub write_size : (result : Output) (n limit : ℕ)
    → ((sent : List ℕ) → result ≡ writing.written sent → length sent ≤ limit) → Ok n ≡ write_answer result → n ≤ limit
write_size (writing.written sent) n limit bound e =
    let size : n ≡ length sent = cc in
    rw size (bound sent refl)
write_size (writing.refused m) n limit bound e = impossible cc

-- THEOREM. Each part of a report is read off it as it was put in.
pub parts_read : (number kind sequence size place : ℕ) → number < 0x100 → kind < 0x100 → sequence < 0x100 → size < 0x10000
    → Parts (report_of number kind sequence size place) number kind sequence size place
parts_read number kind sequence size place a b c d =
    record {
      of_number = omega arith;
      of_kind = omega arith;
      of_sequence = omega arith;
      of_size = omega arith;
      of_place = omega arith;
    }
