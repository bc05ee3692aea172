-- `board::list::read_field` meets its contract: the pattern is that of `field_of`, over the bytes at their places.
use Rattle.std.proofs.Common.{arith, ◌∙◌}
use Rattle.std.proofs.lemmas.Grind.{common_steps}
use Rattle.slices.proofs.PartLaws.{part_rest}
use Rattle.board.proofs.FieldLaws.{field_short, field_other, field_split}
use Rattle.board.proofs.list.read_field.Goals.{in_default-via-then-rest-lt3, in_default-via-else-rest-lt3+in_default-1}
use Rattle.board.proofs.list.read_field.Goals as goal

pub returns-in_default : goal.returns-in_default
returns-in_default c =
    elim c.in_default.branch [
      | in_default-via-then-rest-lt3 w ↦ grind (arith, common_steps, field_short)
      | in_default-via-else-rest-lt3+in_default-1 w ↦ grind (arith, common_steps, field_other)
    ]

pub returns : goal.returns
returns c = field_split c.args.rest.now c.from.result c.split_at_checked.result (omega arith) (grind (arith, common_steps)) (c.from.ensures ∙ c.pair.ensures) (rw part_rest at c.split_at_checked.ensures.cases)
