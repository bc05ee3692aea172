use native.Mathlib.Omega.{arith}
use Rattle.ash.proofs.BitLaws.{bit6_alone}
use Rattle.ash.proofs.header.length_escaped.Goals as goal

pub returns : goal.returns
returns c = rw (bit6_alone c.args.escape (omega arith)) (grind arith)
