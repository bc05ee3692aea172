-- Beside the values of 01's table (Known answers, 7 to 9): the ends of the range, and the types that have no such value. Each is computed
-- from the definition.
use mathlib.Core.Path.{◌≡◌, refl}
use mathlib.Core.List.{[], ◌∷◌}
use mathlib.Core.Option.{some, none}
use lib.IntN.{pos, negsuc}
use Rattle.packet.specs.ItemTypes.{integer_kind, boolean_kind}
use Rattle.value.specs.Value.{number_of, boolean_of, value_of}

-- the least and the greatest number
pub least : value_of integer_kind (0x80 ∷ 0 ∷ 0 ∷ 0 ∷ 0 ∷ 0 ∷ 0 ∷ 0 ∷ []) ≡ some (negsuc 9223372036854775807)
unfolding value_of number_of
least = refl

pub greatest : value_of integer_kind (0x7f ∷ 0xff ∷ 0xff ∷ 0xff ∷ 0xff ∷ 0xff ∷ 0xff ∷ 0xff ∷ []) ≡ some (pos 9223372036854775807)
unfolding value_of number_of
greatest = refl

-- a Boolean is 0 or 1
pub boolean_true : value_of boolean_kind (0x01 ∷ []) ≡ some (pos 1)
unfolding value_of boolean_of
boolean_true = refl

pub boolean_two : value_of boolean_kind (0x02 ∷ []) ≡ none
unfolding value_of boolean_of
boolean_two = refl

-- 01, Items and packets: others, 03 (Unsigned Integer in 000) among them, are refused
pub unsigned : value_of 0x03 (0x01 ∷ []) ≡ none
unfolding value_of
unsigned = refl
