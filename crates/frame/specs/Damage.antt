-- 02, C-19: damage on the line that is always noticed.
use Rattle.std.specs.Prelude.{ℕ, ◌≡◌, List, [], ◌∷◌, ◌++◌, ◌⊎◌, eqb, length, get_or}
use Rattle.slices.specs.Bits.{Bytes}
use Rattle.crc.specs.Burst.{Burst}
use Rattle.frame.specs.Content.{Read, frame, refused}
use Rattle.frame.specs.Stuffing.{escape_byte, content, stuff, unstuff}

-- every 7d of the one string stands in the other too, and none besides
abbrev pub EscapesStay : List ℕ → List ℕ → Type 0
EscapesStay sent arrived = (i : ℕ) → eqb (get_or sent i 0) escape_byte ≡ eqb (get_or arrived i 0) escape_byte

-- Two runs of sent bytes between flags, of equal length. They differ, and only within the sent bytes of the content bytes `first` and `second`,
-- behind those of `before`; and there every 7d stands in its place. (02 asks the same of every 7e. It need not be asked: a string with a 7e
-- between its flags is not taken.)
pub record PairDamaged (sent arrived : List ℕ) : Type 0 where
  pub bytes : Bytes sent
  pub other_bytes : Bytes arrived
  pub before : List ℕ
  pub first : ℕ
  pub second : ℕ
  pub other : List ℕ
  pub behind : List ℕ
  pub as_sent : sent ≡ stuff before ++ (stuff (first ∷ second ∷ []) ++ behind)
  pub as_arrived : arrived ≡ stuff before ++ (other ++ behind)
  pub same_length : length (stuff (first ∷ second ∷ [])) ≡ length other
  pub differ : stuff (first ∷ second ∷ []) ≡ other → ⊥
  pub escapes_stay : EscapesStay (stuff (first ∷ second ∷ [])) other

-- Two runs whose contents, once unstuffed, differ, and only within 16 adjacent bits.
pub record BurstDamaged (sent arrived : List ℕ) : Type 0 where
  pub sent_content : List ℕ
  pub arrived_content : List ℕ
  pub as_sent : unstuff sent ≡ content sent_content
  pub as_arrived : unstuff arrived ≡ content arrived_content
  pub burst : Burst sent_content arrived_content

-- damage of either kind
abbrev pub Damaged : List ℕ → List ℕ → Type 0
Damaged sent arrived = PairDamaged sent arrived ⊎ BurstDamaged sent arrived

-- a frame was read, whichever it is
abbrev pub IsTaken : Read → Type 0
IsTaken (frame kind sequence payload) = Unit {0}
IsTaken (refused number place) = ⊥
