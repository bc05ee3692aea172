-- The walk over a piece goes byte by byte: a byte at which it goes on, a flag at which it stops, and the end of the piece.
use Rattle.std.proofs.Common.{◌≡◌, ℕ, Option, Some, None, Ok, Err, suc, ◌+◌, ◌<◌, ◌≤◌, Bool, true, false, cond, eqb, List, [], ◌∷◌, ◌++◌, length, get_or, drop, sym, refl, ap, ◌∙◌, add-one, drop_of_length-le, drop-cons, eq-eqb, ne_eqb, eqb-true}
use Rattle.slices.proofs.Impossible.{impossible}
use Rattle.slices.proofs.PutLaws.{length_put}
use borrow.Author.Tests.{eqb-false}
use Rattle.frame.specs.Stuffing.{flag_byte}
use Rattle.link.specs.declared.reader.Reader.{Reader}
use Rattle.link.specs.Reader.{Ended, behind_flag, ended_by, step_of, content_after}
use Rattle.link.specs.Steps.{StepsAs}
use Rattle.link.specs.Walk.{Turn, goes_on, stops, flag_turn, turn_of, Walk, go_on, walk_of}

module _ (content : List ℕ) (reader : Reader) (b : ℕ) where
  pub turn_flag : b ≡ flag_byte → turn_of content reader b ≡ flag_turn content (ended_by reader)
  unfolding turn_of
  turn_flag e = rw (eq-eqb b flag_byte e)

  pub turn_byte : (b ≡ flag_byte → ⊥)
      → turn_of content reader b ≡ goes_on (content_after content reader.length (step_of reader b)) (step_of reader b).reader
  unfolding turn_of
  turn_byte ne = rw (ne_eqb b flag_byte ne)

-- a flag that ended something stops the walk
stopped : (content : List ℕ) (end : Ended) → (end ≡ Ok None → ⊥) → flag_turn content end ≡ stops end
stopped content (Ok None) k = absurd (k refl)
stopped content (Ok (Some n)) k = refl
stopped content (Err fault) k = refl

module _ (piece : List ℕ) (i : ℕ) (content : List ℕ) (reader : Reader) where
  pub walk_on : i < length piece → (content₁ : List ℕ) (reader₁ : Reader) → turn_of content reader (get_or piece i 0) ≡ goes_on content₁ reader₁
      → walk_of (drop i piece) content reader i ≡ walk_of (drop (i + 1) piece) content₁ reader₁ (i + 1)
  unfolding walk_of
  walk_on h content₁ reader₁ e = rw (add-one, drop-cons piece i 0 h, e)

  pub walk_stop : i < length piece → (end : Ended) → turn_of content reader (get_or piece i 0) ≡ stops end
      → walk_of (drop i piece) content reader i ≡ record { content = content; reader = behind_flag; taken = i + 1; ended = end }
  unfolding walk_of
  walk_stop h end e = rw (add-one, drop-cons piece i 0 h, e)

  pub walk_end : length piece ≤ i
      → walk_of (drop i piece) content reader i ≡ record { content = content; reader = reader; taken = i; ended = Ok None }
  unfolding walk_of
  walk_end h = rw (drop_of_length-le piece h)

  module _ (h : i < length piece) where
    pub walk_byte : (get_or piece i 0 ≡ flag_byte → ⊥) → (reader₁ : Reader) (content₁ : List ℕ)
        → StepsAs (step_of reader (get_or piece i 0)) reader.length content reader₁ content₁
        → walk_of (drop i piece) content reader i ≡ walk_of (drop (i + 1) piece) content₁ reader₁ (i + 1)
    walk_byte ne reader₁ content₁ did =
        rw (did.answers, did.array) (walk_on h _ _ (turn_byte content reader (get_or piece i 0) ne))

    module _ (is : get_or piece i 0 ≡ flag_byte) (end : Ended) (did : end ≡ ended_by reader) where
      pub walk_empty : (held : Option ℕ) → end ≡ Ok held → held ≡ None → walk_of (drop i piece) content reader i ≡ walk_of (drop (i + 1) piece) content behind_flag (i + 1)
      walk_empty held e none = walk_on h _ _ (turn_flag content reader (get_or piece i 0) is ∙ ap (flag_turn content) (sym did ∙ e ∙ ap Ok none))

      pub walk_ended : (end ≡ Ok None → ⊥)
          → walk_of (drop i piece) content reader i ≡ record { content = content; reader = behind_flag; taken = i + 1; ended = end }
      walk_ended some = walk_stop h end (turn_flag content reader (get_or piece i 0) is ∙ ap (flag_turn content) (sym did) ∙ stopped content end some)

-- the array of content keeps its length
pub turn_length : (content : List ℕ) (reader : Reader) (b : ℕ) (content₁ : List ℕ) (reader₁ : Reader) → turn_of content reader b ≡ goes_on content₁ reader₁
    → length content₁ ≡ length content
unfolding turn_of
turn_length content reader b content₁ reader₁ e = by_flag (eqb b flag_byte) refl
  where
    by_end : (end : Ended) → flag_turn content end ≡ goes_on content₁ reader₁ → length content₁ ≡ length content
    by_end (Ok None) f = let same : content ≡ content₁ = cc in ap length (sym same)
    by_end (Ok (Some n)) f = impossible cc
    by_end (Err fault) f = impossible cc

    by_flag : (t : Bool) → eqb b flag_byte ≡ t → length content₁ ≡ length content
    by_flag true f = by_end (ended_by reader) (sym (turn_flag content reader b (eqb-true b flag_byte f)) ∙ e)
    by_flag false f =
        let put = sym (turn_byte content reader b (eqb-false b flag_byte f)) ∙ e in
        let same : content_after content reader.length (step_of reader b) ≡ content₁ = cc in
        ap length (sym same) ∙ length_put content reader.length (step_of reader b).brings

pub walk_length : (piece content : List ℕ) (reader : Reader) (n : ℕ) → length (walk_of piece content reader n).content ≡ length content
unfolding walk_of
walk_length [] content reader n = refl
walk_length (b ∷ bs) content reader n = by_turn (λ content₁ reader₁. walk_length bs content₁ reader₁ (suc n)) (turn_of content reader b) refl
  where
    by_turn : ((content₁ : List ℕ) (reader₁ : Reader) → length (walk_of bs content₁ reader₁ (suc n)).content ≡ length content₁)
        → (turn : Turn) → turn_of content reader b ≡ turn
        → length (go_on turn content (suc n) (λ content₁ reader₁ n₁. walk_of bs content₁ reader₁ n₁)).content ≡ length content
    by_turn rest (goes_on content₁ reader₁) e = rest content₁ reader₁ ∙ turn_length content reader b content₁ reader₁ e
    by_turn rest (stops end) e = refl

-- a flag that stops the walk ended something
stops_at_an_end : (content : List ℕ) (reader : Reader) (b : ℕ) → turn_of content reader b ≡ stops (Ok None) → ⊥
unfolding turn_of
stops_at_an_end content reader b e = by_flag (eqb b flag_byte) e
  where
    by_end : (end : Ended) → flag_turn content end ≡ stops (Ok None) → ⊥
    by_end (Ok None) f = impossible cc
    by_end (Ok (Some n)) f = impossible cc
    by_end (Err fault) f = impossible cc

    by_flag : (t : Bool)
        → cond t (flag_turn content (ended_by reader)) (goes_on (content_after content reader.length (step_of reader b)) (step_of reader b).reader) ≡ stops (Ok None)
        → ⊥
    by_flag true f = by_end (ended_by reader) f
    by_flag false f = impossible cc

-- a walk goes on over more bytes, unless it has stopped
abbrev pub onward_by : Ended → Walk → List ℕ → Walk
onward_by (Ok None) walk bytes = walk_of bytes walk.content walk.reader walk.taken
onward_by (Ok (Some n)) walk bytes = walk
onward_by (Err fault) walk bytes = walk

abbrev pub onward : Walk → List ℕ → Walk
onward walk bytes = onward_by walk.ended walk bytes

-- a piece that is cut in two is walked as its first part and then the rest
pub walk_append : (first rest content : List ℕ) (reader : Reader) (n : ℕ)
    → walk_of (first ++ rest) content reader n ≡ onward (walk_of first content reader n) rest
unfolding walk_of
walk_append [] rest content reader n = refl
walk_append (b ∷ first) rest content reader n =
    by_turn (λ content₁ reader₁. walk_append first rest content₁ reader₁ (suc n)) (turn_of content reader b) (stops_at_an_end content reader b)
  where
    by_turn : ((content₁ : List ℕ) (reader₁ : Reader)
        → walk_of (first ++ rest) content₁ reader₁ (suc n) ≡ onward (walk_of first content₁ reader₁ (suc n)) rest)
        → (turn : Turn) → (turn ≡ stops (Ok None) → ⊥)
        → go_on turn content (suc n) (λ content₁ reader₁ n₁. walk_of (first ++ rest) content₁ reader₁ n₁)
        ≡ onward (go_on turn content (suc n) (λ content₁ reader₁ n₁. walk_of first content₁ reader₁ n₁)) rest
    by_turn more (goes_on content₁ reader₁) some = more content₁ reader₁
    by_turn more (stops (Ok None)) some = absurd (some refl)
    by_turn more (stops (Ok (Some k))) some = refl
    by_turn more (stops (Err fault)) some = refl
