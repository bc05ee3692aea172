-- `crc::check_pair` meets its contract.
use mathlib.Core.Path.{◌≡◌, ap, ◌∙◌}
use mathlib.Core.List.{[], ◌∷◌}
use native.Mathlib.Omega.{arith}
use Rattle.slices.specs.HighFirst.{high_first}
use Rattle.slices.proofs.HighFirstLaws.{pair_bytes}
use Rattle.crc.specs.Crc.{crc_of}
use Rattle.crc.proofs.DivisionLaws.{pair_added}
use Rattle.crc.proofs.check_pair.Goals as goal

pub returns : goal.returns
returns c =
    let two : high_first 2 c.pair.result ≡ c.args.first ∷ c.args.second ∷ [] = rw c.pair.ensures (pair_bytes c.args.first c.args.second (omega arith)) in
    c.add_word.ensures ∙ pair_added c.args.start c.pair.result (omega arith) (omega arith) ∙ ap (crc_of c.args.start) two
