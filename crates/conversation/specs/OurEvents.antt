-- 02, C-21: what our reset and our data do to the ledger, and which frames they send.
use Rattle.std.specs.Prelude.{ℕ, suc, Bool, cond, ◌&&◌, List, [], ◌∷◌, ◌++◌, map, ltb, leb, length}
use Rattle.refusals.specs.Numbers.{bad_length, reset_ack_awaited, two_frames_held}
use Rattle.refusals.specs.declared.Refusal.{Refusal}
use Rattle.ash.specs.Stuffing.{payload_max, stuff}
use Rattle.session.specs.declared.control.Kind.{Kind}
use Rattle.session.specs.declared.control.Kind.TheVariants.{Ack}
use Rattle.conversation.specs.Ledger.{Ledger, Entry, handed_out_now, held, drop_all}
use Rattle.conversation.specs.Events.{Sent, Effect, refused, told}

-- a refused event is no part of the conversation
abbrev pub refusing : Ledger → Refusal → Effect
refusing l n = record { ledger = l; says = refused n }

abbrev pub saying : Ledger → List Sent → List ℕ → List ℕ → Effect
saying l frames handed dropped = record { ledger = l; says = told frames handed dropped }

-- each frame of ours has our counter and the last good number as its event leaves them; one sent again keeps its own number
abbrev pub empty : Kind → Ledger → Sent
empty kind l = record { kind = kind; ofc = l.counter; afc = l.good; payload = [] }

abbrev pub again : ℕ → Entry → Sent
again good e = record { kind = Ack; ofc = e.number; afc = good; payload = e.payload }

-- those still held, in order
abbrev pub repeats : Ledger → List Sent
repeats l = map (again l.good) (held l.entries)

abbrev pub number_of : Entry → ℕ
number_of e = e.number

-- a RESET of either side drops the held frames, reported, and sets our counter to 1
abbrev pub restart : Ledger → ℕ → Bool → Ledger
restart l good awaiting = record { entries = drop_all l.entries; counter = 1; good = good; awaiting = awaiting }

abbrev pub restarting : Kind → Ledger → ℕ → Bool → Effect
restarting kind l good awaiting =
    let next = restart l good awaiting in saying next (empty kind next ∷ []) [] (map number_of (held l.entries))

-- our data advances our counter first and goes out in an ACK
abbrev pub accept : Ledger → List ℕ → Ledger
accept l payload =
    record {
      entries = l.entries ++ (handed_out_now (suc l.counter) payload ∷ []);
      counter = suc l.counter;
      good = l.good;
      awaiting = l.awaiting;
    }

abbrev pub accepting : Ledger → List ℕ → Effect
accepting l payload =
    let next = accept l payload in saying next (record { kind = Ack; ofc = next.counter; afc = next.good; payload = payload } ∷ []) [] []

-- data that C-11's writer takes, and that is not empty
abbrev pub sendable : List ℕ → Bool
sendable payload = ltb 0 (length payload) && leb (length (stuff payload)) payload_max

-- 28 data while RESET ACK is awaited, 29 two frames held, 22 also for empty data; in that order
unfoldable pub sending : Ledger → List ℕ → Effect
sending l payload =
    cond l.awaiting (refusing l reset_ack_awaited)
    (cond (leb 2 (length (held l.entries))) (refusing l two_frames_held)
    (cond (sendable payload) (accepting l payload) (refusing l bad_length)))
