-- 01, File fragments: what calls on one transfer leave, with the same file buffer, which nothing else touches.
use Rattle.std.specs.Prelude.{ℕ, List, [], ◌++◌, Result, Ok, Err}
use Rattle.refusals.specs.declared.Refusal.{Refusal}
use Rattle.packet.specs.ItemTypes.{binary_kind}
use Rattle.packet.specs.Items.{value_in}
use Rattle.packet.specs.Packet.{packet_items}
use Rattle.transfer.specs.declared.state.Transfer.{Transfer}
use Rattle.transfer.specs.declared.taking.Outcome.{Outcome}

-- the bytes of the packet's fragment where it was accepted: of a refused one none
unfoldable pub accepted_bytes : List ℕ → Result Unit Refusal → List ℕ
accepted_bytes bytes (Ok done) = value_in binary_kind (packet_items bytes)
accepted_bytes bytes (Err r) = []

-- what a call is given, and the accepted fragments before it, joined in order
pub record Held : Type 0 where
  pub transfer : Transfer
  pub file : List ℕ
  pub joined : List ℕ

-- what the first call is given: the transfer that `start` answered
abbrev pub started : Outcome → List ℕ → Held
started outcome file = record { transfer = outcome.transfer; file = file; joined = [] }

-- what a call with a packet leaves for the next one
abbrev pub left : Held → List ℕ → List ℕ → Outcome → Held
left held bytes after outcome =
    record {
      transfer = outcome.transfer;
      file = after;
      joined = held.joined ++ accepted_bytes bytes outcome.answer;
    }
