-- The sent bytes are read from the left, each right behind an escape byte or not; what was unstuffed stays in front of what the rest gives.
use mathlib.Core.Path.{◌≡◌, refl, sym, ap, ◌∙◌}
use mathlib.Core.Bool.{Bool, true, false, cond}
use mathlib.Core.List.{List, [], ◌∷◌, ◌++◌, append_assoc, append-nil}
use Prim.Native.Nat.{ℕ, ◌+◌, ◌≤◌, ◌<◌}
use native.Mathlib.Omega.{arith}
use lib.ListN.{length, drop, get_or, set, length-append, drop_of_length-le}
use borrow.Author.Tests.{ne_eqb}
use Rattle.std.specs.Prelude.{Some, None}
use Rattle.std.proofs.lemmas.List.{drop_more}
use Rattle.slices.proofs.Impossible.{impossible}
use Rattle.slices.specs.Put.{put_at}
use Rattle.slices.proofs.PutLaws.{put_append}
use Rattle.ash.specs.Reserved.{escape_byte, reserved, unescaped, rightly_escaped}
use Rattle.ash.specs.Stuffing.{Meaning, escapes_next, stands_for, faulty, meaning, Unstuffed, payload, broken, joined, taken, ended, unstuff_from, unstuff}
use Rattle.ash.specs.ReaderSteps.{UnstuffsAs}

-- bytes in front of what the rest gives
abbrev in_front : List ℕ → Unstuffed → Unstuffed
in_front xs (payload p) = payload (xs ++ p)
in_front xs broken = broken

front_more : (xs : List ℕ) (v : ℕ) (found : Unstuffed) → in_front xs (joined v found) ≡ in_front (xs ++ (v ∷ [])) found
front_more xs v (payload p) = ap payload (sym (append_assoc xs (v ∷ []) p))
front_more xs v broken = refl

-- what was unstuffed from the first i sent bytes stands in the array and in front of what the others give, the next of them escaped or not
pub record Held (sent array₀ array : List ℕ) (escaped : Bool) (i held : ℕ) : Type 0 where
  pub bytes : List ℕ
  pub whole : unstuff sent ≡ in_front bytes (unstuff_from escaped (drop i sent))
  pub stored : array ≡ put_at array₀ 0 bytes
  pub count : held ≡ length bytes
  pub few : held ≤ i

module _ {sent array₀ array : List ℕ} {escaped : Bool} {i held : ℕ} (h : Held sent array₀ array escaped i held) where
  in_front_of : (found : Unstuffed) → unstuff_from escaped (drop i sent) ≡ found → unstuff sent ≡ in_front h.bytes found
  in_front_of found e = h.whole ∙ ap (in_front h.bytes) e

  broken_here : unstuff_from escaped (drop i sent) ≡ broken → UnstuffsAs (unstuff sent) array₀ None array
  broken_here e =
      let is = in_front_of broken e in
      record { answers = rw is; array_filled = λ p f. impossible cc }

  -- one byte more
  module _ (more : i < length sent) where
    abbrev byte : ℕ
    byte = get_or sent i 0

    means : (m : Meaning) → meaning escaped byte ≡ m → unstuff_from escaped (drop i sent) ≡ taken m (λ next. unstuff_from next (drop (i + 1) sent))
    unfolding unstuff_from
    means m e = rw (drop_more sent i 0 more, e)

    -- an escape byte
    pub escape_read : escaped ≡ false → byte ≡ escape_byte → Held sent array₀ array true (i + 1) held
    escape_read e is =
        record {
          bytes = h.bytes;
          whole = in_front_of (unstuff_from true (drop (i + 1) sent)) (means escapes_next (rw (e, is)));
          stored = h.stored;
          count = h.count;
          few = omega (arith, h.few);
        }

    -- any other byte
    stands : (right : Bool) → (escaped ≡ false → byte ≡ escape_byte → ⊥) → right ≡ rightly_escaped escaped byte
        → meaning escaped byte ≡ cond right (stands_for (unescaped escaped byte)) faulty
    stands right = by_state escaped
      where
        by_state : (t : Bool) → (t ≡ false → byte ≡ escape_byte → ⊥) → right ≡ rightly_escaped t byte
            → meaning t byte ≡ cond right (stands_for (unescaped t byte)) faulty
        by_state true n e = rw e
        by_state false n e = rw (ne_eqb byte escape_byte (n refl), e)

    pub byte_read : true ≡ rightly_escaped escaped byte → (v : ℕ) → v ≡ unescaped escaped byte → Held sent array₀ (set array held v) false (i + 1) (held + 1)
    unfolding reserved
    byte_read right v is =
        let rest = unstuff_from false (drop (i + 1) sent) in
        let place : held ≡ 0 + length h.bytes = omega (arith, h.count) in
        let plain = stands true (λ e f. impossible (let no = rw (e, f) at right in cc)) right in
        record {
          bytes = h.bytes ++ (v ∷ []);
          whole = in_front_of (joined v rest) (means (stands_for v) (plain ∙ rw is)) ∙ front_more h.bytes v rest;
          stored = rw (h.stored, place) (put_append array₀ 0 h.bytes (v ∷ []));
          count = rw length-append (omega (arith, h.count));
          few = omega (arith, h.few);
        }

    pub fault_read : (escaped ≡ false → byte ≡ escape_byte → ⊥) → false ≡ rightly_escaped escaped byte → UnstuffsAs (unstuff sent) array₀ None array
    fault_read other wrong = broken_here (means faulty (stands false other wrong))

  -- no byte more
  module _ (done : length sent ≤ i) where
    ends : (t : Bool) → escaped ≡ t → unstuff_from escaped (drop i sent) ≡ ended t
    unfolding unstuff_from
    ends t e = rw (e, drop_of_length-le sent done)

    pub escape_last : escaped ≡ true → UnstuffsAs (unstuff sent) array₀ None array
    escape_last e = broken_here (ends true e)

    pub all_held : escaped ≡ false → UnstuffsAs (unstuff sent) array₀ (Some held) array
    all_held e =
        let is : unstuff sent ≡ payload h.bytes = in_front_of (payload []) (ends false e) ∙ ap payload (append-nil h.bytes) in
        record {
          answers = rw is (ap Some h.count);
          array_filled = λ p f.
              let same : h.bytes ≡ p = cc in
              rw (← same) h.stored;
        }
