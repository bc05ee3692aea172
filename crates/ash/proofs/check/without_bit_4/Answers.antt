use native.Mathlib.Omega.{arith}
use Rattle.ash.proofs.BitLaws.{all_but_bit4}
use Rattle.ash.proofs.check.without_bit_4.Goals as goal

pub returns : goal.returns
returns c = all_but_bit4 c.args.byte (omega arith)
