-- `crc::table::add_byte` meets its contract.
use mathlib.Core.Path.{◌≡◌, ◌∙◌}
use Prim.Native.Nat.{◌*◌, ◌/◌, ◌%◌}
use native.Mathlib.Nat.{add-zero}
use native.Mathlib.Omega.{arith}
use Rattle.crc.proofs.TableLaws.{byte_by_table}
use Rattle.crc.proofs.table.add_byte.Goals as goal

pub returns : goal.returns
returns c =
    let moved : c.from_be_bytes.result ≡ c.args.register % 0x100 * 0x100 =
    (rw c.to_be_bytes.ensures at c.from_be_bytes.ensures) ∙ add-zero (c.args.register % 0x100 * 0x100) in
    let high : c.args.register / 0x100 % 0x100 ≡ c.args.register / 0x100 = omega arith in
    rw (c.entry-fallen.ensures, c.to_be_bytes.ensures, high, moved) (byte_by_table c.args.table.now c.args.register c.args.byte c.requires (omega arith) (omega arith))
