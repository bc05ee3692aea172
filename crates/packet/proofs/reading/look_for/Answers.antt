-- `packet::reading::look_for` meets its contract: its three answers are those of PacketLaws.
use mathlib.Core.Path.{◌≡◌, ◌∙◌}
use mathlib.Core.Bool.{true}
use native.Mathlib.Omega.{arith}
use Rattle.std.proofs.Common.{rules}
use Rattle.std.specs.Prelude.{Err}
use Rattle.packet.specs.Packet.{is_data}
use Rattle.packet.proofs.PacketLaws.{is_data_by, no_data_short, no_data_other, look_no_data, look_broken, look_told}
use Rattle.packet.proofs.reading.look_for.Goals.{In-1}
use Rattle.packet.proofs.reading.look_for.Goals as goal

pub returns-in_default : goal.returns-in_default
returns-in_default c = look_no_data c.args.s.now c.args.kind (no_data_short c.args.s.now (omega (arith, c.in_default.len_below)))

pub returns-in_default-2 : goal.returns-in_default-2
returns-in_default-2 c = look_no_data c.args.s.now c.args.kind (no_data_other c.args.s.now c.in_default.len_at_least (omega arith))

-- past the pattern it is a data packet
data-packet : (c : In-1) → is_data c.args.s.now ≡ true
data-packet c = is_data_by c.args.s.now c.in-1.len_at_least (omega arith)

pub returns-in_err-survey : goal.returns-in_err-survey
returns-in_err-survey c =
    let passed : c.from_residual.result ≡ Err c.in_err-survey.field-0.0 = search rules in
    passed
    ∙ look_broken c.args.s.now c.args.kind c.in_err-survey.field-0.0 (data-packet (goal.at.returns-in_err-survey c).In-1) (rw c.read_items.ensures at c.in_err-survey.ensures.value)

pub returns : goal.returns
returns c =
    rw c.from_be_bytes-id.ensures
    (look_told c.args.s.now c.args.kind c.in_ok-survey.survey (data-packet (goal.at.returns c).In-1) (rw c.read_items.ensures at c.in_ok-survey.ensures.value))
