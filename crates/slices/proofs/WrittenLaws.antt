-- A writer's answer, one law for each way: what fits is written, else it is refused; a length is answered only for bytes that were written,
-- and a refusal leaves the output as it was.
use mathlib.Core.Path.{◌≡◌, refl, ap}
use mathlib.Core.Bool.{Bool, true, false, cond}
use mathlib.Core.List.{List}
use Prim.Native.Nat.{ℕ, ◌≤◌, ◌<◌}
use lib.Dec.{ltb}
use lib.ListN.{length}
use borrow.Author.Tests.{lt-ltb, le-ltb, ltb-false}
use Rattle.std.specs.Prelude.{Ok, Err}
use Rattle.refusals.specs.Numbers.{short_output}
use Rattle.refusals.specs.declared.Refusal.{Refusal}
use Rattle.slices.specs.Put.{put_at}
use Rattle.slices.specs.Written.{Output, written, refused, fitted, WritesAs}
use Rattle.slices.proofs.Impossible.{impossible}

module _ (room : ℕ) (bytes : List ℕ) (n : ℕ) (size : length bytes ≡ n) where
  pub too_little_room : room < n → fitted room bytes ≡ refused short_output
  unfolding fitted
  too_little_room h = rw (size, lt-ltb room n h)

  pub room_enough : n ≤ room → fitted room bytes ≡ written bytes
  unfolding fitted
  room_enough h = rw (size, le-ltb room n h)

-- bytes are written only where they fit, and behind a test of a size only where that is within its limit
pub record Wrote (most size room : ℕ) (bytes sent : List ℕ) : Type 0 where
  pub short : size ≤ most
  pub fits : length sent ≤ room
  pub is : sent ≡ bytes

pub wrote : (most size room : ℕ) (refusal : Refusal) (bytes sent : List ℕ) → cond (ltb most size) (refused refusal) (fitted room bytes) ≡ written sent
    → Wrote most size room bytes sent
unfolding fitted
wrote most size room refusal bytes sent e = cases (ltb most size) (ltb room (length bytes)) refl refl e
  where
    cases : (t u : Bool) → ltb most size ≡ t → ltb room (length bytes) ≡ u
        → cond t (refused refusal) (cond u (refused short_output) (written bytes)) ≡ written sent → Wrote most size room bytes sent
    cases true u f g e = impossible cc
    cases false true f g e = impossible cc
    cases false false f g e =
        let same : sent ≡ bytes = cc in
        record { short = ltb-false most size f; fits = rw same (ltb-false room (length bytes) g); is = same }

-- what a writer does of a refusal, and of bytes
pub refuses : (output : Output) (r : Refusal) (before : List ℕ) → output ≡ refused r → WritesAs output before (Err r) before
refuses output r before e = rw e (record { answers = refl; put = refl })

pub writes : (output : Output) (bytes before after : List ℕ) (n : ℕ) → output ≡ written bytes → n ≡ length bytes → after ≡ put_at before 0 bytes
    → WritesAs output before (Ok n) after
writes output bytes before after n e size put = rw e (record { answers = ap Ok size; put = put })

-- what an answered length tells
pub record Told (output : Output) (before : List ℕ) (n : ℕ) (after : List ℕ) : Type 0 where
  pub bytes : List ℕ
  pub is : output ≡ written bytes
  pub size : n ≡ length bytes
  pub put : after ≡ put_at before 0 bytes

pub told : (output : Output) (before : List ℕ) (n : ℕ) (after : List ℕ) → WritesAs output before (Ok n) after
    → Told output before n after
told (written bytes) before n after did =
    let a = did.answers in
    record { bytes = bytes; is = refl; size = let same : n ≡ length bytes = cc in same; put = did.put }
told (refused r) before n after did = let a = did.answers in impossible cc

-- and a refusal
pub refusal_keeps : (output : Output) (before : List ℕ) (r : Refusal) (after : List ℕ) → WritesAs output before (Err r) after → after ≡ before
refusal_keeps (written bytes) before r after did = let a = did.answers in impossible cc
refusal_keeps (refused k) before r after did = did.put
