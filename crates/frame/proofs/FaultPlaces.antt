-- 02, C-16: unstuffing refuses at a place exactly where the sent bytes are broken there.
use mathlib.Core.Path.{◌≡◌, sym, ap, ◌∙◌}
use mathlib.Core.List.{List, [], ◌∷◌, ◌++◌}
use mathlib.Core.Logic.{◌⊎◌, inl, inr, ⊎_elim, ◌↔◌}
use Prim.Native.Nat.{ℕ, ◌+◌, ◌≤◌}
use native.Mathlib.Omega.{arith}
use lib.ListN.{length}
use borrow.Author.Tests.{le-ltb}
use Rattle.refusals.specs.Numbers.{bad_framing, long_content}
use Rattle.slices.proofs.Impossible.{impossible}
use Rattle.frame.specs.Stuffing.{escape_byte, escaped_flag, escaped_escape, content_max, plain, refused, unstuff_from, unstuff}
use Rattle.frame.specs.Places.{after_escape, BadEscape, OneByte, PassesLimit}
use Rattle.frame.proofs.BrokenLaws.{broke}
use Rattle.frame.proofs.FollowLaws.{prefixed, unstuff_append}
use Rattle.frame.proofs.UnstuffLaws.{plain_byte, escaped_fault}

-- a run that is broken so is refused there
escape_refused : (held before : ℕ) (behind : List ℕ) → (after_escape behind ≡ escaped_flag → ⊥) → (after_escape behind ≡ escaped_escape → ⊥)
    → unstuff_from plain held before (escape_byte ∷ behind) ≡ refused bad_framing (before + 2)
unfolding unstuff_from
escape_refused held before [] no_flag no_escape = ap (refused bad_framing) (omega arith)
escape_refused held before (y ∷ behind) no_flag no_escape = rw (escaped_fault y no_flag no_escape) (ap (refused bad_framing) (omega arith))

passing_refused : (held before : ℕ) (passing behind : List ℕ) → content_max ≤ held → OneByte passing
    → unstuff_from plain held before (passing ++ behind) ≡ refused long_content (before + length passing)
unfolding unstuff_from
passing_refused held before [] behind full one = absurd one
passing_refused held before (x ∷ []) behind full one = rw (plain_byte x one, le-ltb held content_max full) (ap (refused long_content) (omega arith))
passing_refused held before (x ∷ (y ∷ [])) behind full one = cases one.1
  where
    cases : (y ≡ escaped_flag) ⊎ (y ≡ escaped_escape) → unstuff_from plain held before (x ∷ (y ∷ behind)) ≡ refused long_content (before + 2)
    cases (inl flag) = rw (one.0, flag, le-ltb held content_max full) (ap (refused long_content) (omega arith))
    cases (inr escape) = rw (one.0, escape, le-ltb held content_max full) (ap (refused long_content) (omega arith))
passing_refused held before (x ∷ (y ∷ (z ∷ zs))) behind full one = absurd one

module _ (run : List ℕ) (place : ℕ) where
  -- THEOREM (02, C-16). Unstuffing refuses with 1 at a place exactly if behind bytes without a fault an escape byte stands right before that place, and
  -- there neither 5d nor 5e.
  pub escape_exactly : (unstuff run ≡ refused bad_framing place) ↔ BadEscape run place
  escape_exactly = (there, back)
    where
      there : unstuff run ≡ refused bad_framing place → BadEscape run place
      there e = ⊎_elim (λ one. one.1) (λ two. let number = two.0 in impossible cc) (broke run bad_framing place e)

      back : BadEscape run place → unstuff run ≡ refused bad_framing place
      back b =
          ap unstuff b.sent ∙ unstuff_append b.before b.held (escape_byte ∷ b.behind) b.no_fault
          ∙ ap (prefixed b.held) (escape_refused (length b.held) (length b.before) b.behind b.no_flag b.no_escape)
          ∙ ap (refused bad_framing) (sym b.there)

  -- THEOREM (02, C-16). It refuses with 2 at a place exactly if the sent bytes of one byte more than 387 end there, and there is no fault before them.
  pub limit_exactly : (unstuff run ≡ refused long_content place) ↔ PassesLimit run place
  limit_exactly = (there, back)
    where
      there : unstuff run ≡ refused long_content place → PassesLimit run place
      there e = ⊎_elim (λ one. let number = one.0 in impossible cc) (λ two. two.1) (broke run long_content place e)

      back : PassesLimit run place → unstuff run ≡ refused long_content place
      back b =
          let full : content_max ≤ length b.held = let size = b.full in omega arith in
          ap unstuff b.sent ∙ unstuff_append b.before b.held (b.passing ++ b.behind) b.no_fault
          ∙ ap (prefixed b.held) (passing_refused (length b.held) (length b.before) b.passing b.behind full b.one_byte)
          ∙ ap (refused long_content) (sym b.there)
