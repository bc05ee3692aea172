-- The frames of a line, byte by byte: two parts of it join, and a walk takes just the bytes up to the next frame.
use mathlib.Core.Path.{◌≡◌, refl, sym, ap, ◌∙◌}
use mathlib.Core.List.{List, [], ◌∷◌, ◌++◌, append_assoc}
use Prim.Native.Nat.{ℕ, zero, suc, ◌+◌, ◌≤◌, ◌<◌}
use native.Mathlib.Omega.{arith}
use lib.ListN.{length, take}
use Rattle.slices.proofs.Impossible.{impossible}
use Rattle.cutter.specs.Cutting.{Place, Step, goes_on, hands_on, step_of, place_behind, handed_on, frames_from, place_after}
use Rattle.cutter.specs.Calls.{Walk, go_on, walk_of}

pub frames_append : (place : Place) (first rest : List ℕ)
    → frames_from place (first ++ rest) ≡ frames_from place first ++ frames_from (place_after place first) rest
unfolding frames_from place_after
frames_append place [] rest = refl
frames_append place (b ∷ first) rest =
    ap (λ (fs : List (List ℕ)). handed_on (step_of place b) ++ fs) (frames_append (place_behind (step_of place b)) first rest)
    ∙ sym (append_assoc (handed_on (step_of place b)) (frames_from (place_behind (step_of place b)) first) _)

pub place_append : (place : Place) (first rest : List ℕ) → place_after place (first ++ rest) ≡ place_after (place_after place first) rest
unfolding place_after
place_append place [] rest = refl
place_append place (b ∷ first) rest = place_append (place_behind (step_of place b)) first rest

-- what is known of a walk that began with n bytes taken
pub record Takes (place : Place) (piece : List ℕ) (n : ℕ) (walk : Walk) : Type 0 where
  pub count : ℕ
  pub counts : walk.taken ≡ n + count
  pub within : count ≤ length piece
  pub some : 1 ≤ length piece → 1 ≤ count
  pub frames : frames_from place (take count piece) ≡ handed_on walk.last
  pub behind : place_after place (take count piece) ≡ place_behind walk.last
  -- no frame was handed on before its last byte, and without one it took the whole piece
  pub no_earlier : (k : ℕ) → k < count → frames_from place (take k piece) ≡ []
  pub all : handed_on walk.last ≡ [] → count ≡ length piece

-- one byte more in front of a walk that went on, and a byte at which it stopped
module _ (place : Place) (b : ℕ) (bs : List ℕ) (n : ℕ) where
  on : (place₁ : Place) → step_of place b ≡ goes_on place₁ → (walk : Walk) → Takes place₁ bs (suc n) walk → Takes place (b ∷ bs) n walk
  unfolding frames_from place_after
  on place₁ e walk t =
      record {
        count = suc t.count;
        counts = omega (arith, t.counts);
        within = omega (arith, t.within);
        some = λ h. omega arith;
        frames = rw e t.frames;
        behind = ap (λ (step : Step). place_after (place_behind step) (take t.count bs)) e ∙ t.behind;
        no_earlier = earlier;
        all = λ none. ap suc (t.all none);
      }
    where
      earlier : (k : ℕ) → k < suc t.count → frames_from place (take k (b ∷ bs)) ≡ []
      earlier zero h = refl
      earlier (suc k) h = rw e (t.no_earlier k (omega arith))

  stop : (frame : List ℕ) (place₁ : Place) → step_of place b ≡ hands_on frame place₁
      → Takes place (b ∷ bs) n (record { last = hands_on frame place₁; taken = suc n })
  unfolding frames_from place_after
  stop frame place₁ e =
      record {
        count = 1;
        counts = omega arith;
        within = omega arith;
        some = λ h. omega arith;
        frames = rw e;
        behind = rw e;
        no_earlier = earlier;
        all = λ none. impossible cc;
      }
    where
      earlier : (k : ℕ) → k < 1 → frames_from place (take k (b ∷ bs)) ≡ []
      earlier zero h = refl
      earlier (suc k) h = absurd (omega arith)

pub walk_takes : (piece : List ℕ) (place : Place) (n : ℕ) → Takes place piece n (walk_of piece place n)
unfolding frames_from place_after walk_of
walk_takes [] place n =
    record {
      count = 0;
      counts = omega arith;
      within = omega arith;
      some = λ h. absurd (omega arith);
      frames = refl;
      behind = refl;
      no_earlier = λ k h. absurd (omega arith);
      all = λ none. refl;
    }
walk_takes (b ∷ bs) place n = by_step (λ place₁. walk_takes bs place₁ (suc n)) (step_of place b) refl
  where
    by_step : ((place₁ : Place) → Takes place₁ bs (suc n) (walk_of bs place₁ (suc n))) → (step : Step) → step_of place b ≡ step
        → Takes place (b ∷ bs) n (go_on step (suc n) (λ place₁ n₁. walk_of bs place₁ n₁))
    by_step rest (goes_on place₁) e = on place b bs n place₁ e (walk_of bs place₁ (suc n)) (rest place₁)
    by_step rest (hands_on frame place₁) e = stop place b bs n frame place₁ e
