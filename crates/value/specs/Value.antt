-- 01, Items and packets: "Value types: Integer (02) and Cents (16) of 1, 2, 4 or 8 bytes, signed, high byte first; Boolean
-- (0f) of one byte, 0 or 1. Others, 03 among them, are refusal 13."
use Rattle.std.specs.Prelude.{ℕ, ◌*◌, ◌^◌, cond, ◌||◌, List, [], ◌∷◌, eqb, ltb, ℤ, pos, ◌-ℤ◌, length, Some, None}
use Rattle.std.proofs.Math.Option.{Option, some, none}
use Rattle.std.specs.declared.option.Option as rust
use Rattle.slices.specs.HighFirst.{word_of}
use Rattle.packet.specs.ItemTypes.{integer_kind, boolean_kind, cents_kind}

-- two's complement: of the full count of words the lower half are themselves, the upper half are less by the full count
abbrev pub twos : ℕ → ℕ → ℤ
twos full word = cond (ltb (2 * word) full) (pos word) (pos word -ℤ pos full)

-- signed, high byte first
abbrev pub signed_of : List ℕ → ℤ
signed_of bytes = twos (256 ^ length bytes) (word_of bytes)

-- 1, 2, 4 or 8 bytes
unfoldable pub number_of : List ℕ → Option ℤ
number_of bytes = cond (eqb (length bytes) 1 || eqb (length bytes) 2 || eqb (length bytes) 4 || eqb (length bytes) 8) (some (signed_of bytes)) none

-- one byte, 0 or 1
unfoldable pub boolean_of : List ℕ → Option ℤ
boolean_of [] = none
boolean_of (byte ∷ []) = cond (ltb byte 2) (some (pos byte)) none
boolean_of (byte ∷ next ∷ bytes) = none

-- the value of an item of type kind, none where that is no good value
unfoldable pub value_of : ℕ → List ℕ → Option ℤ
value_of kind bytes =
    cond (eqb kind integer_kind || eqb kind cents_kind) (number_of bytes) (cond (eqb kind boolean_kind) (boolean_of bytes) none)

-- how the code answers a value
abbrev pub as_value : Option ℤ → rust.Option ℤ
as_value (some number) = Some number
as_value none = None
