-- `history::text::decimal` meets its contract: each turn puts the last digit of what is left before those put so far.
use Rattle.std.proofs.Common.{◌≡◌}
use Rattle.history.proofs.NumberLaws.{Spelling}
use Rattle.history.proofs.text.decimal.Given as goal

abbrev pub invariant-loop-left : goal.invariant-loop-left
invariant-loop-left l = Spelling l.number l.digits l.left l.rest × (l.first ≡ 0)
