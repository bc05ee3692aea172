-- 02, C-11 and 002, 3.10: the payload as it is sent.
use Rattle.std.specs.Prelude.{ℕ, Bool, true, false, cond, List, [], ◌∷◌, eqb}
use Rattle.slices.specs.Each.{each}
use Rattle.ash.specs.Reserved.{escape_byte, reserved, flipped, unescaped, rightly_escaped}

-- 002, 3.3 and C-11: a payload has at most this many bytes as sent
abbrev pub payload_max : ℕ
payload_max = 57

-- an escape byte is sent, then the reserved byte with bit 5 flipped
abbrev pub stuff_byte : ℕ → List ℕ
stuff_byte b = cond (reserved b) (escape_byte ∷ flipped b ∷ []) (b ∷ [])

abbrev pub stuff : List ℕ → List ℕ
stuff payload = each stuff_byte payload

-- what one sent byte means, right behind an escape byte or not: the next is escaped, a byte of payload, or a fault
pub data Meaning : Type 0 where
  escapes_next : Meaning
  stands_for : ℕ → Meaning
  faulty : Meaning

-- C-11, refusal 23: a raw reserved byte, or an escape of a byte that needs none
abbrev pub standing : Bool → ℕ → Meaning
standing escaped b = cond (rightly_escaped escaped b) (stands_for (unescaped escaped b)) faulty

abbrev pub meaning : Bool → ℕ → Meaning
meaning true b = standing true b
meaning false b = cond (eqb b escape_byte) escapes_next (standing false b)

-- what the sent bytes stand for, or that they break a rule
pub data Unstuffed : Type 0 where
  payload : List ℕ → Unstuffed
  broken : Unstuffed

-- b in front of what the rest gives
abbrev pub joined : ℕ → Unstuffed → Unstuffed
joined b (payload p) = payload (b ∷ p)
joined b broken = broken

abbrev pub taken : Meaning → (Bool → Unstuffed) → Unstuffed
taken escapes_next rest = rest true
taken (stands_for b) rest = joined b (rest false)
taken faulty rest = broken

-- C-11, refusal 23: a last escape
abbrev pub ended : Bool → Unstuffed
ended true = broken
ended false = payload []

-- the sent bytes from the left, the first of them right behind an escape byte or not
unfoldable pub unstuff_from : Bool → List ℕ → Unstuffed
unstuff_from escaped [] = ended escaped
unstuff_from escaped (b ∷ bs) = taken (meaning escaped b) (λ next. unstuff_from next bs)

abbrev pub unstuff : List ℕ → Unstuffed
unstuff sent = unstuff_from false sent
