-- What some items are to a kind, and what they are with further items behind them: reading these one after the other gives the same
-- as all at once.
use mathlib.Core.Path.{◌≡◌, refl}
use mathlib.Core.Bool.{Bool, true, false, cond}
use mathlib.Core.List.{List, [], ◌∷◌}
use mathlib.Core.Option.{Option, none, some}
use Prim.Native.Nat.{ℕ, suc, ◌+◌}
use native.Mathlib.Omega.{arith}
use lib.Dec.{eqb}
use lib.ListN.{length}
use Rattle.std.specs.Prelude.{Some, None}
use Rattle.std.specs.Option.{option_or}
use Rattle.std.specs.declared.option.Option as rust
use Rattle.packet.specs.Items.{Item, in_front, count_of}
use Rattle.packet.specs.Answers.{Found, placed, past, head_in, find_in, behind_in}
use Rattle.packet.specs.ReaderSteps.{behind_first, no_items, with_item, tally_of}
use Rattle.packet.specs.declared.items.Survey.{Survey}

-- of further items, the one right behind the first of the kind: their head, if that first one stands before them
abbrev next_to : Found → ℕ → ℕ → List Item → Found
next_to (Some first) at kind items = head_in at items
next_to None at kind items = behind_in at kind items

-- some items, and further ones behind them that stand from the place at on
abbrev followed : Survey → ℕ → ℕ → List Item → Survey
followed survey at kind items =
    record {
      all = survey.all + length items;
      count = survey.count + count_of kind items;
      first = option_or survey.first (find_in at kind items);
      behind = option_or survey.behind (next_to survey.first at kind items);
    }

-- what is found where some items are read, and the further ones are read or could not be
unfoldable pub tally_from : Survey → ℕ → ℕ → Option (List Item) → rust.Option Survey
tally_from survey at kind none = None
tally_from survey at kind (some items) = Some (followed survey at kind items)

first_on : (found : Found) (at : ℕ) (item : Item) (t : Bool) (rest : Found) → option_or (cond t (option_or found (Some (placed at item))) found) rest ≡ option_or found (cond t (Some (placed at item)) rest)
unfolding placed
first_on (Some found) at item true rest = refl
first_on (Some found) at item false rest = refl
first_on None at item true rest = refl
first_on None at item false rest = refl

behind_on : (first behind : Found) (at kind : ℕ) (item : Item) (items : List Item) (t : Bool) → eqb item.kind kind ≡ t →
    option_or (behind_first first behind (placed at item)) (next_to (cond t (option_or first (Some (placed at item))) first) (past at item) kind items)
    ≡ option_or behind (next_to first at kind (item ∷ items))
unfolding placed head_in behind_in
behind_on (Some first) (Some behind) at kind item items t e = refl
behind_on (Some first) None at kind item items true e = refl
behind_on (Some first) None at kind item items false e = refl
behind_on None behind at kind item items true e = rw e
behind_on None behind at kind item items false e = rw e

count_on : (count more : ℕ) (t : Bool) → cond t (count + 1) count + more ≡ count + (cond t 1 0 + more)
count_on count more true = omega arith
count_on count more false = omega arith

-- the item that is read next
item_on : (survey : Survey) (at kind : ℕ) (item : Item) (items : List Item) → followed (with_item survey (placed at item) (eqb item.kind kind)) (past at item) kind items ≡ followed survey at kind (item ∷ items)
unfolding count_of find_in
item_on survey at kind item items =
    let all : survey.all + 1 + length items ≡ survey.all + suc (length items) = omega arith in
    let t : Bool = eqb item.kind kind in
    rw (all, count_on survey.count (count_of kind items) t, first_on survey.first at item t (find_in (past at item) kind items), behind_on survey.first survey.behind at kind item items t refl)

pub tally_on : (survey : Survey) (at kind : ℕ) (item : Item) (read : Option (List Item)) → tally_from (with_item survey (placed at item) (eqb item.kind kind)) (past at item) kind read ≡ tally_from survey at kind (in_front item read)
unfolding tally_from in_front
tally_on survey at kind item none = refl
tally_on survey at kind item (some items) = rw (item_on survey at kind item items)

-- before the first item nothing is found
pub tally_first : (at kind : ℕ) (read : Option (List Item)) → tally_from no_items at kind read ≡ tally_of at kind read
unfolding tally_from tally_of
tally_first at kind none = refl
tally_first at kind (some items) =
    let all : 0 + length items ≡ length items = omega arith in
    let count : 0 + count_of kind items ≡ count_of kind items = omega arith in
    rw (all, count)

nothing_later : (found : Found) → option_or found None ≡ found
nothing_later (Some found) = refl
nothing_later None = refl

nothing_next : (found : Found) (at kind : ℕ) → next_to found at kind [] ≡ None
unfolding head_in behind_in
nothing_next (Some found) at kind = refl
nothing_next None at kind = refl

-- behind the last one all is found
pub tally_last : (survey : Survey) (at kind : ℕ) → tally_from survey at kind (some []) ≡ Some survey
unfolding tally_from count_of find_in
tally_last survey at kind =
    let all : survey.all + 0 ≡ survey.all = omega arith in
    let count : survey.count + 0 ≡ survey.count = omega arith in
    rw (all, count, nothing_next survey.first at kind, nothing_later survey.first, nothing_later survey.behind)

pub tally_broken : (survey : Survey) (at kind : ℕ) → tally_from survey at kind none ≡ None
unfolding tally_from
tally_broken survey at kind = refl
