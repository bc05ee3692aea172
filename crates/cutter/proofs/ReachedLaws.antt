-- A frame under way begins with a flag and is shorter than its header says: a byte that joins it keeps it so, or makes it whole, or shows
-- that it is at fault.
use mathlib.Core.Path.{◌≡◌, refl, sym, ap, ◌∙◌}
use mathlib.Core.Bool.{Bool, true, false, cond}
use mathlib.Core.List.{List, [], ◌∷◌, ◌++◌}
use mathlib.Core.Logic.{inl, inr}
use Prim.Native.Nat.{ℕ, ◌+◌, ◌≤◌, ◌<◌}
use native.Mathlib.Omega.{arith}
use lib.Dec.{ltb}
use lib.ListN.{length, length-append}
use borrow.Author.Tests.{ltb-true, ltb-false}
use Rattle.std.specs.Prelude.{Option, Some, None}
use Rattle.slices.proofs.Impossible.{impossible}
use Rattle.ash.specs.Reserved.{flag_byte}
use Rattle.ash.specs.Reading.{flag_first}
use Rattle.ash.proofs.SizeLaws.{size_bounds}
use Rattle.cutter.specs.Cutting.{Place, between, inside, passing, Step, goes_on, hands_on, begun, sized_step, joined_step}
use Rattle.cutter.specs.Calls.{held_max}
use Rattle.cutter.proofs.Handed.{size_in, size_append, ReaderRefuses, Handed, short_refused, other_size}

-- and of a frame under way: once its header has come, it is shorter than that says
pub record Unfinished (held : List ℕ) : Type 0 where
  pub size : ℕ
  pub is : size_in held ≡ Some size
  pub more : length held < size

pub record UnderWay (held : List ℕ) : Type 0 where
  pub flag : flag_first held ≡ true
  pub few : length held ≤ held_max
  pub unfinished : 4 ≤ length held → Unfinished held

-- the places that a line reaches, and what its bytes do there
pub data Reached : Place → Type 0 where
  at_between : Reached between
  at_inside : {held : List ℕ} → UnderWay held → Reached (inside held)
  at_passing : Reached passing

abbrev pub ReachedBy : Step → Type 0
ReachedBy (goes_on place) = Reached place
ReachedBy (hands_on frame place) = Handed frame × Reached place

pub begun_reached : Reached begun
begun_reached = at_inside {held = flag_byte ∷ []} (record { flag = refl; few = omega arith; unfinished = λ h. absurd (omega arith) })

-- a frame that a flag ends before it is whole
pub cut_short : (held : List ℕ) → UnderWay held → Handed held
cut_short held u =
    record {
      some = flagged held u.flag;
      most = omega (arith, u.few);
      sort = inr (by_length (ltb (length held) 4) refl);
    }
  where
    flagged : (bytes : List ℕ) → flag_first bytes ≡ true → 1 ≤ length bytes
    flagged [] e = impossible cc
    flagged (b ∷ bs) e = omega arith

    by_length : (t : Bool) → ltb (length held) 4 ≡ t → (room : ℕ) → ReaderRefuses room held
    by_length true e = short_refused held (omega (arith, ltb-true (length held) 4 e))
    by_length false e =
        let more = u.unfinished (ltb-false (length held) 4 e) in
        other_size held (Some more.size) more.is (λ same. let is : more.size ≡ length held = cc in omega (arith, more.more))

-- a byte that joins a frame under way
module _ (held : List ℕ) (b : ℕ) (u : UnderWay held) where
  abbrev bytes : List ℕ
  bytes = held ++ (b ∷ [])

  bytes_length : length bytes ≡ length held + 1
  bytes_length = length-append held (b ∷ [])

  still_flagged : flag_first bytes ≡ true
  still_flagged = behind held u.flag
    where
      behind : (l : List ℕ) → flag_first l ≡ true → flag_first (l ++ (b ∷ [])) ≡ true
      behind [] e = impossible cc
      behind (x ∷ l) e = e

  -- with one byte less it was shorter than its header says, so it never has more bytes
  just : (n : ℕ) → size_in bytes ≡ Some n → n ≤ length bytes → length bytes ≡ n
  just n e enough = by_length (ltb (length held) 4) refl
    where
      by_length : (t : Bool) → ltb (length held) 4 ≡ t → length bytes ≡ n
      by_length true f =
          let few = ltb-true (length held) 4 f in
          absurd (omega (arith, bytes_length, (size_bounds _ _ _ n e).least))
      by_length false f =
          let long = ltb-false (length held) 4 f in
          let before = u.unfinished long in
          let same = sym before.is ∙ sym (size_append held (b ∷ []) long) ∙ e in
          let is : before.size ≡ n = cc in
          omega (arith, bytes_length, before.more)

  -- it goes on while it is shorter than that, which is at most 64
  longer : (size : Option ℕ) → size_in bytes ≡ size → 4 ≤ length bytes → ReachedBy (sized_step size bytes)
  longer None e long = (
    record {
      some = omega arith;
      most = omega (arith, bytes_length, u.few);
      sort = inr (other_size bytes None e (λ same. impossible cc));
    },
    at_passing,
  )
  longer (Some n) e long = by_length (ltb (length bytes) n) refl
    where
      by_length : (t : Bool) → ltb (length bytes) n ≡ t → ReachedBy (cond t (goes_on (inside bytes)) (hands_on bytes between))
      by_length true f =
          let more = ltb-true (length bytes) n f in
          at_inside
          {held = bytes}
          (record {
            flag = still_flagged;
            few = omega (arith, (size_bounds _ _ _ n e).most);
            unfinished = λ h. record { size = n; is = e; more = more };
          })
      by_length false f =
          let enough = ltb-false (length bytes) n f in (
            record {
              some = omega arith;
              most = omega (arith, bytes_length, u.few);
              sort = inl (record { flag = still_flagged; size = e ∙ ap Some (sym (just n e enough)) });
            },
            at_between,
          )

  pub joins : ReachedBy (joined_step bytes)
  unfolding joined_step
  joins = by_length (ltb (length bytes) 4) refl
    where
      by_length : (t : Bool) → ltb (length bytes) 4 ≡ t → ReachedBy (cond t (goes_on (inside bytes)) (sized_step (size_in bytes) bytes))
      by_length true f =
          let few = ltb-true (length bytes) 4 f in
          at_inside {held = bytes} (record { flag = still_flagged; few = omega arith; unfinished = λ long. absurd (omega arith) })
      by_length false f = longer (size_in bytes) refl (ltb-false (length bytes) 4 f)
