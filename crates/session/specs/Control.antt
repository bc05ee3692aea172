-- 002, 3.8 and 3.9: the control byte. Bits 7 and 6 are the type, bits 5 to 3 the outgoing frame counter, bits 2 to 0 the
-- acknowledgement counter.
use Rattle.std.specs.Prelude.{ℕ, zero, suc, ◌+◌, ◌*◌, ◌/◌, ◌%◌}
use Rattle.session.specs.Counters.{of_ours, of_peers}
use Rattle.session.specs.declared.counters.OFC.{OFC}
use Rattle.session.specs.declared.counters.AFC.{AFC}
use Rattle.session.specs.declared.control.Kind.{Kind}
use Rattle.session.specs.declared.control.Kind.TheVariants.{Reset, ResetAck, Ack, Nack}
use Rattle.session.specs.declared.control.Control.{Control}

-- 002, table 3.1
abbrev pub kind_number : Kind → ℕ
kind_number Reset = 0
kind_number ResetAck = 1
kind_number Ack = 2
kind_number Nack = 3

abbrev pub kind_of : ℕ → Kind
kind_of zero = Reset
kind_of (suc zero) = ResetAck
kind_of (suc (suc zero)) = Ack
kind_of (suc (suc (suc more))) = Nack

-- of a frame of ours; a counter has three bits
unfoldable pub control_byte : Kind → OFC → AFC → ℕ
control_byte kind ofc afc = kind_number kind * 0x40 + ofc.0 % 8 * 8 + afc.0 % 8

-- Of a frame of the peer's. Its outgoing counter numbers the peer's frames, and its acknowledgement counter ours: here, and only here,
-- the two are swapped.
unfoldable pub control_of : ℕ → Control
control_of byte = record { kind = kind_of (byte / 0x40); number = of_peers (byte / 8 % 8); acknowledged = of_ours (byte % 8) }
