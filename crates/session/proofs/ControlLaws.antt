-- The four types have their numbers, so that a control byte is read as it was meant.
use mathlib.Core.Path.{◌≡◌, refl}
use Prim.Native.Nat.{ℕ, ◌+◌, ◌*◌, ◌/◌, ◌%◌, ◌<◌}
use native.Mathlib.Omega.{arith}
use Rattle.session.specs.Control.{kind_number, kind_of, control_byte, control_of}
use Rattle.session.specs.Counters.{of_ours, of_peers}
use denote.Enum.Declared.{tag_of}
use Rattle.session.specs.contracts.control.Kind.{the_type}
use Rattle.session.specs.declared.control.Kind.{Kind}
use Rattle.session.specs.declared.control.Kind.TheVariants.{Reset, ResetAck, Ack, Nack}

-- the types' numbers in the source
pub numbered : (kind : Kind) → tag_of the_type kind ≡ kind_number kind
numbered Reset = refl
numbered ResetAck = refl
numbered Ack = refl
numbered Nack = refl

kind_back : (kind : Kind) → kind_of (kind_number kind) ≡ kind
kind_back Reset = refl
kind_back ResetAck = refl
kind_back Ack = refl
kind_back Nack = refl

-- What is written is read as meant on the other side: our outgoing counter numbers the sender's frames there, our acknowledgement counter the
-- reader's.
pub control_back : (kind : Kind) (o a : ℕ) → o < 8 → a < 8
    → control_of (control_byte kind (of_ours o) (of_peers a)) ≡ record { kind = kind; number = of_peers o; acknowledged = of_ours a }
unfolding control_byte control_of
control_back kind o a small tiny =
    let k = kind_number kind in
    let byte = k * 0x40 + o % 8 * 8 + a % 8 in
    let type_is : byte / 0x40 ≡ k = omega arith in
    let number_is : byte / 8 % 8 ≡ o = omega arith in
    let names_is : byte % 8 ≡ a = omega arith in
    rw (type_is, number_is, names_is, kind_back kind)
