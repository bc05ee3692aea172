-- `rows::find` meets its contract: the first row that passes the test is the one where the name first stands.
use Rattle.std.proofs.Common.{◌∙◌, rules}
use Rattle.std.proofs.lemmas.Iterator.{YieldsList-from_slice}
use Rattle.std.proofs.lemmas.Iterator.Search.{position_from_yields_List}
use Rattle.rows.proofs.RowLaws.{named, placed}
use Rattle.rows.proofs.find.Goals as goal

pub returns : goal.returns
returns c =
    let first =
    position_from_yields_List (named c.args.name.now) _ _ _ c.position.ensures.ran (YieldsList-from_slice _ c.iter.ensures.rest) (λ row b q called. search rules)
    in
    first ∙ placed c.args.name.now c.args.board.rows
