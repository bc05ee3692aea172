-- Demand 3: "the last accepted update of its name", and how many ticks ago it closed, read off what went to the board.
use Rattle.std.specs.Prelude.{ℕ, ◌+◌, ◌≡◌, cond, List, [], ◌∷◌, ◌++◌, ℤ}
use Rattle.std.proofs.Math.Option.{Option, some, none}
use Rattle.slices.specs.Same.{same_bytes}
use Rattle.board.specs.Reading as reading
use Rattle.board.specs.Reading.{Verdict, reading_of}
use Rattle.ledger.specs.BoardEvents.{BoardEvent, tick, packet}

-- the value of an update of the name, if that is what the board rules make of a packet
abbrev pub value_for : List ℕ → Verdict → Option ℤ
value_for name (reading.refused n) = none
value_for name (reading.end_mark id) = none
value_for name (reading.update id other value) = cond (same_bytes name other) (some value) none

-- the value of the update of the name that a board of the names accepted, if it accepted one
abbrev pub accepted_for : List (List ℕ) → List ℕ → BoardEvent → Option ℤ
accepted_for names name tick = none
accepted_for names name (packet payload) = value_for name (reading_of names payload)

abbrev pub in_front : Option ℤ → List ℤ → List ℤ
in_front none values = values
in_front (some value) values = value ∷ values

-- all values accepted for the name, in order
unfoldable pub all_accepted : List (List ℕ) → List ℕ → List BoardEvent → List ℤ
all_accepted names name [] = []
all_accepted names name (event ∷ events) = in_front (accepted_for names name event) (all_accepted names name events)

-- how many ticks there were
abbrev pub tick_of : BoardEvent → ℕ
tick_of tick = 1
tick_of (packet payload) = 0

unfoldable pub ticks_in : List BoardEvent → ℕ
ticks_in [] = 0
ticks_in (event ∷ events) = tick_of event + ticks_in events

-- THE LAST ACCEPTED UPDATE of a name: some packet was accepted as one, no later packet was, and so many ticks came since.
pub record LastAccepted (names : List (List ℕ)) (name : List ℕ) (value : ℤ) (ticks : ℕ) (events : List BoardEvent) : Type 0 where
  pub before : List BoardEvent
  pub closing : BoardEvent
  pub since : List BoardEvent
  pub in_order : events ≡ before ++ (closing ∷ since)
  pub accepts : accepted_for names name closing ≡ some value
  pub none_later : all_accepted names name since ≡ []
  pub ticks_since : ticks_in since ≡ ticks
