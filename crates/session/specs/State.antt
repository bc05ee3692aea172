-- 02, C-21: the session's state, and what covers, drops and records do to it.
use Rattle.std.specs.Prelude.{ℕ, zero, suc, Bool, true, false, cond, List, [], eqb}
use Rattle.slices.specs.FixedBytes.{fixed_of, shown}
use Rattle.slices.specs.declared.fixed_bytes.FixedBytes.{FixedBytes}
use Rattle.ash.specs.Stuffing.{payload_max}
use Rattle.session.specs.Counters.{next_of_peers, of_ours, of_peers}
use Rattle.session.specs.declared.counters.OFC.{OFC}
use Rattle.session.specs.declared.counters.AFC.{AFC}
use Rattle.session.specs.declared.state.Held.{Held}
use Rattle.session.specs.declared.state.Held.TheVariants.{Nothing, One, Two}
use Rattle.session.specs.declared.state.Session.{Session}

-- the most that an event sends: two frames again and an empty ACK
abbrev pub output_room : ℕ
output_room = 135

-- data of a held frame
abbrev pub Payload : Type 0
Payload = FixedBytes payload_max

abbrev pub no_payload : Payload
no_payload = fixed_of payload_max []

unfoldable pub payload_of : List ℕ → Payload
payload_of payload = fixed_of payload_max payload

abbrev pub kept : Payload → List ℕ
kept d = shown d

-- a fresh session stands after our RESET: RESET ACK is awaited
unfoldable pub fresh_session : Session
fresh_session = record { counter = of_ours 1; good = of_peers 0; awaiting = true; held = Nothing; older = no_payload; newer = no_payload }

-- a session with other frames held, and with other counters and wait
abbrev pub with_held : Session → Held → Payload → Payload → Session
with_held s held older newer = record { counter = s.counter; good = s.good; awaiting = s.awaiting; held = held; older = older; newer = newer }

abbrev pub with_counters : Session → OFC → AFC → Bool → Session
with_counters s counter good awaiting =
    record { counter = counter; good = good; awaiting = awaiting; held = s.held; older = s.older; newer = s.newer }

-- at most two unacknowledged frames
abbrev pub holds_two : Held → Bool
holds_two Nothing = false
holds_two (One older) = false
holds_two (Two older newer) = true

-- one more frame is held, whose number is our counter
abbrev pub holding_behind : Held → Session → OFC → List ℕ → Session
holding_behind Nothing s number payload = with_counters (with_held s (One number) (payload_of payload) s.newer) number s.good s.awaiting
holding_behind (One older) s number payload =
    with_counters (with_held s (Two older number) s.older (payload_of payload)) number s.good s.awaiting
holding_behind (Two older newer) s number payload = s

abbrev pub holding : Session → OFC → List ℕ → Session
holding s number payload = holding_behind s.held s number payload

-- no frame is held, and of two held ones the newer alone
abbrev pub none_held : Session → Session
none_held s = with_held s Nothing s.older s.newer

abbrev pub newer_alone : Session → OFC → Session
newer_alone s number = with_held s (One number) s.newer s.newer

-- the held frames up to the one that is named are held no longer, or all stay if neither is named
abbrev pub covered_from : Held → Session → OFC → Session
covered_from Nothing s acknowledged = s
covered_from (One older) s acknowledged = cond (eqb older.0 acknowledged.0) (none_held s) s
covered_from (Two older newer) s acknowledged =
    cond (eqb newer.0 acknowledged.0) (none_held s) (cond (eqb older.0 acknowledged.0) (newer_alone s newer) s)

abbrev pub covered : Session → OFC → Session
covered s acknowledged = covered_from s.held s acknowledged

-- a RESET of either side drops the held frames and sets our counter to 1
abbrev pub restarted : Session → AFC → Bool → Session
restarted s good awaiting = with_counters (none_held s) (of_ours 1) good awaiting

-- a number of the peer's is recorded as the last good one
abbrev pub recorded : Session → AFC → Session
recorded s good = with_counters s s.counter good false

-- an empty ACK or NACK does not advance the counter
abbrev pub recorded_data : Session → AFC → ℕ → Session
recorded_data s number zero = s
recorded_data s number (suc more) = recorded s number

-- data is good whose number is next; without data the number is not looked at
abbrev pub in_order : AFC → AFC → ℕ → Bool
in_order good number zero = true
in_order good number (suc more) = eqb number.0 (next_of_peers good).0
