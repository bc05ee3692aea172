-- The laws of values: eight bytes as one number, and what the code's answer says of a value.
use mathlib.Core.Path.{◌≡◌, refl, sym, ap, ◌∙◌}
use mathlib.Core.List.{List, [], ◌∷◌}
use mathlib.Core.Option.{Option, some, none}
use Prim.Native.Nat.{ℕ, ◌^◌, ◌<◌}
use native.Mathlib.Omega.{arith}
use lib.IntN.{ℤ}
use lib.ListN.{length, get_or}
use mir.Syntax.{w8, w64}
use mir.Val.{Fits, to_z}
use Rattle.std.specs.Prelude.{Some, None}
use Rattle.std.proofs.lemmas.Grind.{common_steps}
use Rattle.std.specs.Int.{from_be_bytes}
use Rattle.slices.proofs.Impossible.{impossible}
use Rattle.slices.specs.HighFirst.{word_of}
use Rattle.value.specs.Value.{as_value, twos, number_of}

-- a number of 64 bits in two's complement
signed : (word : ℕ) → word < 2 ^ 64 → to_z w64 word ≡ twos (2 ^ 64) word
signed word h = grind (arith, common_steps)

-- eight bytes are the number that they are read as
pub eight : (bytes : List ℕ) (number : ℤ) → length bytes ≡ 8 → ((i : ℕ) → Fits w8 (get_or bytes i 0)) → number ≡ to_z w64 (from_be_bytes w64 bytes) → number_of bytes ≡ some number
unfolding number_of
eight [] number n small read = absurd (omega arith)
eight (a ∷ []) number n small read = absurd (omega arith)
eight (a ∷ b ∷ []) number n small read = absurd (omega arith)
eight (a ∷ b ∷ c ∷ []) number n small read = absurd (omega arith)
eight (a ∷ b ∷ c ∷ d ∷ []) number n small read = absurd (omega arith)
eight (a ∷ b ∷ c ∷ d ∷ e ∷ []) number n small read = absurd (omega arith)
eight (a ∷ b ∷ c ∷ d ∷ e ∷ f ∷ []) number n small read = absurd (omega arith)
eight (a ∷ b ∷ c ∷ d ∷ e ∷ f ∷ g ∷ []) number n small read = absurd (omega arith)
eight (a ∷ b ∷ c ∷ d ∷ e ∷ f ∷ g ∷ h ∷ []) number n small read =
    let word : ℕ = word_of (a ∷ b ∷ c ∷ d ∷ e ∷ f ∷ g ∷ h ∷ []) in
    let same : from_be_bytes w64 (a ∷ b ∷ c ∷ d ∷ e ∷ f ∷ g ∷ h ∷ []) ≡ word = omega arith in
    let fits : word < 2 ^ 64 = omega (arith, small 0, small 1, small 2, small 3, small 4, small 5, small 6, small 7) in
    let is : to_z w64 (from_be_bytes w64 (a ∷ b ∷ c ∷ d ∷ e ∷ f ∷ g ∷ h ∷ [])) ≡ twos (2 ^ 64) word = rw same (signed word fits) in
    sym (ap some (read ∙ is))
eight (a ∷ b ∷ c ∷ d ∷ e ∷ f ∷ g ∷ h ∷ i ∷ more) number n small read = absurd (omega arith)

-- what the code's answer says of the value
pub value_number : (o : Option ℤ) (number : ℤ) → as_value o ≡ Some number → o ≡ some number
value_number (some found) number e = cc
value_number none number e = impossible cc

pub value_bad : (o : Option ℤ) → as_value o ≡ None → o ≡ none
value_bad (some found) e = impossible cc
value_bad none e = refl
