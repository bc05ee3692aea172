-- `bitwise_bench::shift_bit` meets its contract: the bit that falls out of a 16-bit register is its quotient by 8000 hex.
use mathlib.Core.Path.{◌≡◌}
use Prim.Native.Nat.{◌/◌, ◌%◌}
use native.Mathlib.Omega.{arith}
use borrow.Author.Tests.{eq-eqb, ne_eqb}
use Rattle.crc.specs.Crc.{shift_bit}
use Rattle.bitwise_bench.proofs.shift_bit.Goals as goal

pub returns-then-register-lt32768 : goal.returns-then-register-lt32768
unfolding shift_bit
returns-then-register-lt32768 c =
    let fallen : c.args.register / 0x8000 % 2 ≡ 1 → ⊥ = λ e. omega arith in
    rw (ne_eqb (c.args.register / 0x8000 % 2) 1 fallen)

pub returns-else-register-lt32768 : goal.returns-else-register-lt32768
unfolding shift_bit
returns-else-register-lt32768 c =
    let fallen : c.args.register / 0x8000 % 2 ≡ 1 = omega arith in
    rw (eq-eqb (c.args.register / 0x8000 % 2) 1 fallen)
