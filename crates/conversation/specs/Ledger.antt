-- 02, C-21: the ledger of the conversation. Its numbers count on without end; only the line shows them from 1 to 7 and back to 1.
use Rattle.std.specs.Prelude.{ℕ, zero, suc, ◌+◌, ◌%◌, Bool, true, cond, List, [], ◌∷◌, eqb, leb}
use Rattle.std.proofs.Math.Option.{Option, some, none}

-- a number as it is on the line; before the first frame it is 0
abbrev pub on_line : ℕ → ℕ
on_line zero = 0
on_line (suc n) = n % 7 + 1

-- what became of a frame that was handed out: it is held, the peer has acknowledged it, or a RESET dropped it
pub data Fate : Type 0 where
  waiting : Fate
  covered : Fate
  dropped : Fate

-- a frame that an accepted send handed out: its number, counted from the last RESET before it, and its data
pub record Entry : Type 0 where
  pub number : ℕ
  pub payload : List ℕ
  pub fate : Fate

abbrev pub handed_out_now : ℕ → List ℕ → Entry
handed_out_now number payload = record { number = number; payload = payload; fate = waiting }

-- all frames ever handed out, oldest first; the number of our last data frame and of the peer's last good one, counted from the last
-- RESET, which is number 1 itself; and whether RESET ACK is awaited
pub record Ledger : Type 0 where
  pub entries : List Entry
  pub counter : ℕ
  pub good : ℕ
  pub awaiting : Bool

-- a fresh session stands after our RESET
abbrev pub start : Ledger
start = record { entries = []; counter = 1; good = 0; awaiting = true }

abbrev pub if_waiting : Fate → Entry → List Entry → List Entry
if_waiting waiting e es = e ∷ es
if_waiting covered e es = es
if_waiting dropped e es = es

-- the frames handed out and not yet covered or dropped, oldest first
unfoldable pub held : List Entry → List Entry
held [] = []
held (e ∷ es) = if_waiting e.fate e (held es)

abbrev pub if_dropped : Fate → Entry → List Entry → List Entry
if_dropped waiting e es = es
if_dropped covered e es = es
if_dropped dropped e es = e ∷ es

-- and those that a RESET dropped
unfoldable pub gone : List Entry → List Entry
gone [] = []
gone (e ∷ es) = if_dropped e.fate e (gone es)

abbrev pub became : Fate → Entry → Entry
became fate e = record { number = e.number; payload = e.payload; fate = fate }

-- a RESET of either side drops the held frames
abbrev pub dropped_if : Fate → Entry → Entry
dropped_if waiting e = became dropped e
dropped_if covered e = e
dropped_if dropped e = e

unfoldable pub drop_all : List Entry → List Entry
drop_all [] = []
drop_all (e ∷ es) = dropped_if e.fate e ∷ drop_all es

-- the held frame that a number on the line names
unfoldable pub named : ℕ → List Entry → Option ℕ
named seen [] = none
named seen (e ∷ es) = cond (eqb (on_line e.number) seen) (some e.number) (named seen es)

-- the held frames up to that one are covered
abbrev pub covered_if : Fate → ℕ → Entry → Entry
covered_if waiting n e = cond (leb e.number n) (became covered e) e
covered_if covered n e = e
covered_if dropped n e = e

unfoldable pub cover_to : ℕ → List Entry → List Entry
cover_to n [] = []
cover_to n (e ∷ es) = covered_if e.fate n e ∷ cover_to n es

-- or none if it names neither
abbrev pub cover_named : Option ℕ → List Entry → List Entry
cover_named (some n) es = cover_to n es
cover_named none es = es

abbrev pub cover : ℕ → List Entry → List Entry
cover seen es = cover_named (named seen (held es)) es
