-- `value::number` meets its contract: the search finds all but that of eight bytes.
use native.Mathlib.Omega.{arith}
use mathlib.Core.Path.{◌≡◌}
use Rattle.std.proofs.Common.{rules, w64, to_z, of_z}
use Rattle.value.proofs.ValueLaws.{eight}
use Rattle.value.proofs.number.Goals as goal

pub returns-in-len8 : goal.returns-in-len8
returns-in-len8 c =
    let back : to_z w64 (of_z w64 c.from_be_bytes-in-len8.result) ≡ c.from_be_bytes-in-len8.result = search rules in
    rw (back, eight c.args.bytes.now c.from_be_bytes-in-len8.result (omega arith) c.type_inv.bytes c.from_be_bytes-in-len8.ensures)
