-- When a session and the ledger agree: counters and wait are the ledger's, and the held frames are those of its entries that wait, with
-- numbers that follow each other and end at the counter.
use mathlib.Core.Path.{◌≡◌}
use mathlib.Core.List.{List, [], ◌∷◌}
use Prim.Native.Nat.{ℕ, suc, ◌≤◌}
use lib.ListN.{length}
use Rattle.ash.specs.Stuffing.{payload_max, stuff}
use Rattle.session.specs.Counters.{of_ours, of_peers}
use Rattle.session.specs.State.{Payload, kept}
use Rattle.session.specs.declared.counters.OFC.{OFC}
use Rattle.session.specs.declared.state.Held.TheVariants.{Nothing, One, Two}
use Rattle.session.specs.declared.state.Session.{Session}
use Rattle.conversation.specs.Ledger.{Ledger, Entry, on_line, held}

-- a held frame is the entry's, and C-11's writer takes it
pub record Keeps (e : Entry) (number : OFC) (payload : Payload) : Type 0 where
  pub number_is : number ≡ of_ours (on_line e.number)
  pub payload_is : kept payload ≡ e.payload
  pub short : length (stuff e.payload) ≤ payload_max

pub data Holds (s : Session) (counter : ℕ) : List Entry → Type 0 where
  none_held_law : s.held ≡ Nothing → Holds s counter []
  one_held : {e : Entry} {n : OFC} → s.held ≡ One n → Keeps e n s.older → e.number ≡ counter → Holds s counter (e ∷ [])
  two_held : {e f : Entry} {m n : OFC} → s.held ≡ Two m n → Keeps e m s.older → Keeps f n s.newer → suc e.number ≡ counter → f.number ≡ counter
      → Holds s counter (e ∷ f ∷ [])

pub record Agrees (l : Ledger) (s : Session) : Type 0 where
  pub counter_is : s.counter ≡ of_ours (on_line l.counter)
  pub good_is : s.good ≡ of_peers (on_line l.good)
  pub awaiting_is : s.awaiting ≡ l.awaiting
  pub holds : Holds s l.counter (held l.entries)
