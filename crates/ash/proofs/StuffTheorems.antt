-- Unstuffing undoes stuffing, and unstuffs nothing but what stuffing gives: byte by byte, since a byte is escaped exactly where it is
-- reserved.
use mathlib.Core.Path.{◌≡◌, refl, sym, ap, ◌∙◌}
use mathlib.Core.Bool.{Bool, true, false, cond}
use mathlib.Core.List.{List, [], ◌∷◌, ◌++◌}
use Prim.Native.Nat.{ℕ}
use lib.Dec.{eqb}
use borrow.Author.Tests.{ne_eqb, eqb-true, not-true}
use Rattle.slices.proofs.Impossible.{impossible}
use Rattle.slices.specs.Each.{each}
use Rattle.ash.specs.Reserved.{escape_byte, reserved, flipped, unescaped, rightly_escaped}
use Rattle.ash.specs.Stuffing.{stuff_byte, stuff, escapes_next, stands_for, faulty, standing, Unstuffed, payload, broken, joined, taken, unstuff_from, unstuff}
use Rattle.ash.proofs.ReservedLaws.{unlike_reserved, flipped_twice}
use Rattle.ash.proofs.StuffLaws.{byte_escaped, byte_plain}

-- a byte that is not reserved is no escape byte
no_escape : (b : ℕ) → reserved b ≡ false → eqb b escape_byte ≡ false
unfolding reserved
no_escape b e = ne_eqb b escape_byte (unlike_reserved b escape_byte e refl)

-- a stuffed byte stands for itself
stuffed_byte : (b : ℕ) (rest : List ℕ) → unstuff (stuff_byte b ++ rest) ≡ joined b (unstuff rest)
unfolding unstuff_from
stuffed_byte b rest = cases (reserved b) refl
  where
    cases : (t : Bool) → reserved b ≡ t → unstuff (stuff_byte b ++ rest) ≡ joined b (unstuff rest)
    cases true e = rw (byte_escaped b e, flipped_twice b, e)
    cases false e = rw (byte_plain b e, no_escape b e, e)

-- THEOREM. Unstuffing undoes stuffing.
pub unstuff_stuff : (p : List ℕ) → unstuff (stuff p) ≡ payload p
unfolding each unstuff_from
unstuff_stuff [] = refl
unstuff_stuff (b ∷ bs) = stuffed_byte b (stuff bs) ∙ ap (joined b) (unstuff_stuff bs)

-- the sent bytes with the escape byte that stands before them
abbrev behind : Bool → List ℕ → List ℕ
behind true sent = escape_byte ∷ sent
behind false sent = sent

-- the byte of payload that stands first, and the others
record Joined (b : ℕ) (found : Unstuffed) (p : List ℕ) : Type 0 where
  rest : List ℕ
  is : found ≡ payload rest
  whole : p ≡ b ∷ rest

joined_payload : (b : ℕ) (found : Unstuffed) (p : List ℕ) → joined b found ≡ payload p → Joined b found p
joined_payload b (payload q) p e = record { rest = q; is = refl; whole = let same : p ≡ b ∷ q = cc in same }
joined_payload b broken p e = impossible cc

-- a byte that is rightly escaped is sent as what it stands for is stuffed
rightly_stuffed : (escaped : Bool) (b : ℕ) (rest : List ℕ) → rightly_escaped escaped b ≡ true
    → stuff_byte (unescaped escaped b) ++ rest ≡ behind escaped (b ∷ rest)
rightly_stuffed true b rest e = rw (byte_escaped (flipped b) e, flipped_twice b)
rightly_stuffed false b rest e = rw (byte_plain b (not-true (reserved b) e))

-- one sent byte more in front, if the bytes behind it are so
module _ (b : ℕ) (bs p : List ℕ) (rest : (s : Bool) (q : List ℕ) → unstuff_from s bs ≡ payload q → stuff q ≡ behind s bs) where
  standing_first : (s t : Bool) → rightly_escaped s b ≡ t
      → taken (cond t (stands_for (unescaped s b)) faulty) (λ next. unstuff_from next bs) ≡ payload p → stuff p ≡ behind s (b ∷ bs)
  unfolding each
  standing_first s true right f =
      let j = joined_payload (unescaped s b) (unstuff bs) p f in
      rw (j.whole, rest false j.rest j.is) (rightly_stuffed s b bs right)
  standing_first s false wrong f = impossible cc

  plain_first : (t : Bool) → eqb b escape_byte ≡ t
      → taken (cond t escapes_next (standing false b)) (λ next. unstuff_from next bs) ≡ payload p → stuff p ≡ b ∷ bs
  plain_first true is f = rest true p f ∙ ap (λ x. x ∷ bs) (sym (eqb-true b escape_byte is))
  plain_first false is f = standing_first false (rightly_escaped false b) refl f

  one_more : (s : Bool) → unstuff_from s (b ∷ bs) ≡ payload p → stuff p ≡ behind s (b ∷ bs)
  unfolding unstuff_from
  one_more true f = standing_first true (rightly_escaped true b) refl f
  one_more false f = plain_first (eqb b escape_byte) refl f

stuffed_from : (s : Bool) (sent p : List ℕ) → unstuff_from s sent ≡ payload p → stuff p ≡ behind s sent
unfolding each unstuff_from
stuffed_from true [] p e = impossible cc
stuffed_from false [] p e = let none : p ≡ [] = cc in rw none
stuffed_from s (b ∷ bs) p e = one_more b bs p (λ s₁ q. stuffed_from s₁ bs q) s e

-- THEOREM. What was unstuffed is sent as just those bytes: nothing else stands for it.
pub stuff_unstuff : (sent p : List ℕ) → unstuff sent ≡ payload p → stuff p ≡ sent
stuff_unstuff sent p e = stuffed_from false sent p e
