-- `crc::division::add_word` meets its contract.
use native.Mathlib.Omega.{arith}
use Rattle.crc.proofs.DivisionLaws.{word_added}
use Rattle.crc.proofs.division.add_word.Goals as goal

pub returns : goal.returns
returns c = word_added c.args.register c.args.word (omega arith) (omega arith)
