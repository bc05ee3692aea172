-- 01, The ledger: bytes join the run, a flag closes a frame, and the frame is judged.
use Rattle.std.specs.Prelude.{ℕ, suc, cond, List, [], ◌∷◌, ◌++◌, eqb, length}
use Rattle.std.proofs.Math.Option.{Option, some, none}
use Rattle.refusals.specs.Numbers.{unknown_type, loaded_acknowledgement}
use Rattle.refusals.specs.declared.Refusal.{Refusal}
use Rattle.frame.specs.Stuffing.{flag_byte}
use Rattle.frame.specs.Content as content
use Rattle.frame.specs.Content.{no_place}
use Rattle.frame.specs.Reading.{read_run}

-- each byte joins the run, if there is one
abbrev pub joined : Option (List ℕ) → ℕ → Option (List ℕ)
joined none b = none
joined (some run) b = some (run ++ (b ∷ []))

-- what one byte does: the run goes on, or a frame is closed
pub data Turn : Type 0 where
  goes_on : Option (List ℕ) → Turn
  closes : List ℕ → Turn

-- a 7e starts an empty run instead; if the old one held bytes, it is a frame, closed here
abbrev pub at_flag : Option (List ℕ) → Turn
at_flag none = goes_on (some [])
at_flag (some []) = goes_on (some [])
at_flag (some (b ∷ bs)) = closes (b ∷ bs)

unfoldable pub turn : Option (List ℕ) → ℕ → Turn
turn run b = cond (eqb b flag_byte) (at_flag run) (goes_on (joined run b))

-- the run after a piece, the bytes taken, and the frame that was closed
pub record Taken : Type 0 where
  pub run : Option (List ℕ)
  pub count : ℕ
  pub frame : Option (List ℕ)

abbrev pub after_turn : Turn → ℕ → (Option (List ℕ) → ℕ → Taken) → Taken
after_turn (goes_on run) n rest = rest run n
after_turn (closes frame) n rest = record { run = some []; count = n; frame = some frame }

-- where a frame is closed the call ends; if none closes, all is taken
unfoldable pub taken : Option (List ℕ) → List ℕ → ℕ → Taken
taken run [] n = record { run = run; count = n; frame = none }
taken run (b ∷ bs) n = after_turn (turn run b) (suc n) (λ run₁ n₁. taken run₁ bs n₁)

-- what a frame is: refused by 1 to 6 with a place, an acknowledgement, or a good data frame
pub data Frame : Type 0 where
  refused : Refusal → ℕ → Frame
  acknowledgement : ℕ → Frame
  good : ℕ → List ℕ → Frame

-- type 01 is data, type 02 an acknowledgement
abbrev pub data_type : ℕ
data_type = 0x01

abbrev pub acknowledgement_type : ℕ
acknowledgement_type = 0x02

-- a frame is unstuffed from the left and tested by 1 to 4, then by its type: 5 and 6. 02, C-16: places are counted from the opening flag,
-- right before the run.
abbrev pub by_type : content.Read → Frame
by_type (content.refused n place) = refused n place
by_type (content.frame kind sequence payload) =
    cond (eqb kind data_type) (good sequence payload)
    (cond (eqb kind acknowledgement_type) (cond (eqb (length payload) 0) (acknowledgement sequence) (refused loaded_acknowledgement no_place)) (refused unknown_type no_place))

unfoldable pub frame_of : List ℕ → Frame
frame_of run = by_type (read_run run)
