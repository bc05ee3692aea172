-- At a fresh start and after each walk the content is whole and the reader's length within it, since a byte is stored only while there is
-- room.
use Rattle.std.proofs.Common.{◌≡◌, ℕ, Some, None, Ok, Err, suc, ◌≤◌, Bool, true, false, eqb, List, [], ◌∷◌, length, sym, refl, ◌∙◌, arith, eqb-true}
use borrow.Author.Tests.{eqb-false}
use Rattle.slices.proofs.Impossible.{impossible}
use Rattle.frame.specs.Stuffing.{content_max, flag_byte}
use Rattle.link.specs.declared.reader.Reader.{Reader}
use Rattle.link.specs.Reader.{Ended, ended_by, step_of}
use Rattle.link.specs.Walk.{Turn, goes_on, stops, flag_turn, turn_of, go_on, walk_of}
use Rattle.link.specs.Receiving.{fresh_link}
use Rattle.link.specs.Seen.{Ours}
use Rattle.link.proofs.WalkLaws.{turn_flag, turn_byte, turn_length}
use Rattle.link.proofs.SeenLaws.{step_grows}

module _ (content : List ℕ) (reader : Reader) (whole : length content ≡ content_max) (within : reader.length ≤ content_max) where
  turn_within : (b : ℕ) (content₁ : List ℕ) (reader₁ : Reader) → turn_of content reader b ≡ goes_on content₁ reader₁ → reader₁.length ≤ content_max
  turn_within b content₁ reader₁ e = by_flag (eqb b flag_byte) refl
    where
      by_end : (end : Ended) → flag_turn content end ≡ goes_on content₁ reader₁ → reader₁.length ≤ content_max
      by_end (Ok None) f = let none : reader₁.length ≡ 0 = cc in omega arith
      by_end (Ok (Some n)) f = impossible cc
      by_end (Err fault) f = impossible cc

      by_flag : (t : Bool) → eqb b flag_byte ≡ t → reader₁.length ≤ content_max
      by_flag true f = by_end (ended_by reader) (sym (turn_flag content reader b (eqb-true b flag_byte f)) ∙ e)
      by_flag false f =
          let step = sym (turn_byte content reader b (eqb-false b flag_byte f)) ∙ e in
          let same : (step_of reader b).reader ≡ reader₁ = cc in
          rw (← same) (step_grows content reader whole within b).bounded

pub walk_within : (piece content : List ℕ) (reader : Reader) (n : ℕ) → length content ≡ content_max → reader.length ≤ content_max
    → (walk_of piece content reader n).reader.length ≤ content_max
unfolding walk_of
walk_within [] content reader n whole within = within
walk_within (b ∷ bs) content reader n whole within =
    by_turn (λ content₁ reader₁. walk_within bs content₁ reader₁ (suc n)) (turn_of content reader b) refl
  where
    by_turn : ((content₁ : List ℕ) (reader₁ : Reader) → length content₁ ≡ content_max → reader₁.length ≤ content_max
        → (walk_of bs content₁ reader₁ (suc n)).reader.length ≤ content_max)
        → (turn : Turn) → turn_of content reader b ≡ turn
        → (go_on turn content (suc n) (λ content₁ reader₁ n₁. walk_of bs content₁ reader₁ n₁)).reader.length ≤ content_max
    by_turn rest (goes_on content₁ reader₁) e =
        rest content₁ reader₁ (turn_length content reader b content₁ reader₁ e ∙ whole) (turn_within content reader whole within b content₁ reader₁ e)
    by_turn rest (stops end) e = omega arith

pub ours_fresh : Ours fresh_link
ours_fresh = record { whole = refl; within = omega arith }
