-- 02, C-13: a sender holding one frame.
use Rattle.std.specs.Prelude.{ℕ, Option, Some, None, suc, cond, List, [], eqb}
use Rattle.slices.specs.FixedBytes.{fixed_of, shown}
use Rattle.slices.specs.declared.fixed_bytes.FixedBytes.{FixedBytes}
use Rattle.frame.specs.Content.{payload_max}
use Rattle.sender.specs.declared.state.Held.{Held}
use Rattle.sender.specs.declared.state.Sender.{Sender}

-- first sequence 0, then 1 to 255, then 1 again
abbrev pub greatest_sequence : ℕ
greatest_sequence = 255

abbrev pub next_sequence : ℕ → ℕ
next_sequence sequence = cond (eqb sequence greatest_sequence) 1 (suc sequence)

-- the payload of the held frame; where none is held it is empty, and its room holds zeros
unfoldable pub payload_of : List ℕ → FixedBytes payload_max
payload_of payload = fixed_of payload_max payload

abbrev pub no_payload : FixedBytes payload_max
no_payload = fixed_of payload_max []

abbrev pub kept : FixedBytes payload_max → List ℕ
kept payload = shown payload

-- at first nothing is held, and the next frame has sequence 0
unfoldable pub fresh_sender : Sender
fresh_sender = record { next = 0; held = None; payload = no_payload }

-- a frame of the next sequence is held, not yet sent again
abbrev pub holding : Sender → List ℕ → Sender
holding s payload = record { next = next_sequence s.next; held = Some (record { sequence = s.next; repeats = 0 }); payload = payload_of payload }

-- the held frame was sent again
abbrev pub repeated : Sender → ℕ → ℕ → Sender
repeated s sequence repeats = record { next = s.next; held = Some (record { sequence = sequence; repeats = suc repeats }); payload = s.payload }

-- nothing is held any more; the sequence is spent
abbrev pub freed : Sender → Sender
freed s = record { next = s.next; held = None; payload = no_payload }

-- an acknowledgement of its sequence frees the held frame; any other changes nothing
abbrev pub acknowledged_from : Option Held → Sender → ℕ → Sender
acknowledged_from None s sequence = s
acknowledged_from (Some held) s sequence = cond (eqb sequence held.sequence) (freed s) s

abbrev pub acknowledged : Sender → ℕ → Sender
acknowledged s sequence = acknowledged_from s.held s sequence
