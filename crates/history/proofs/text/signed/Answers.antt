-- `history::text::signed` meets its contract: the sign and the magnitude are the text of a negative number.
use Rattle.std.proofs.Common.{ap, ◌∙◌, ℕ, ◌∷◌, nat_abs, w64}
use mir.ValLaws.{to_z-of_z}
use Rattle.history.specs.Numbers.{decimal_of}
use Rattle.history.proofs.AppendingLaws.{appends_both, appends_same}
use Rattle.history.proofs.NumberLaws.{signed_negative}
use Rattle.history.proofs.text.signed.Goals as goal

pub returns-then-number-lt0 : goal.returns-then-number-lt0
returns-then-number-lt0 c =
    let whole = c.magnitude-size.ensures ∙ ap nat_abs (to_z-of_z w64 c.args.number c.ranges.number) in
    let text = ap (λ (n : ℕ). 45 ∷ decimal_of n) whole ∙ signed_negative c.args.number c.ranges.number c.if-number-lt0.true in
    appends_same text (appends_both c.append-place.ensures c.decimal.ensures)
