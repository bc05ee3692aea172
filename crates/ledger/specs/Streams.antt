-- Demand 3: "cuts of the byte stream do not matter". What is offered to the display, and how its bytes are cut into pieces.
use Rattle.std.specs.Prelude.{ℕ, List, [], ◌∷◌, ◌++◌, map}

-- a stream from the module as it is cut: pieces of bytes, with minutes between them, sends with payload and output, and timeouts with output
pub data Part : Type 0 where
  cut : List ℕ → Part
  pause : Part
  send : List ℕ → List ℕ → Part
  timeout : List ℕ → Part

-- the same, without the cuts
pub data Offer : Type 0 where
  of_byte : ℕ → Offer
  of_minute : Offer
  of_send : List ℕ → List ℕ → Offer
  of_timeout : List ℕ → Offer

unfoldable pub offers_in : List Part → List Offer
offers_in [] = []
offers_in (cut bytes ∷ parts) = map of_byte bytes ++ offers_in parts
offers_in (pause ∷ parts) = of_minute ∷ offers_in parts
offers_in (send payload output ∷ parts) = of_send payload output ∷ offers_in parts
offers_in (timeout output ∷ parts) = of_timeout output ∷ offers_in parts
