-- What the steps of the item reader answer. The laws in proofs/ tie these to the rule of Items.
use Rattle.std.specs.Prelude.{ℕ, ◌+◌, ◌^◌, ◌<◌, Bool, true, cond, ◌&&◌, List, leb, eqb, length, get_or, Some, None}
use Rattle.std.specs.Option.{option_or}
use Rattle.std.specs.declared.option.Option as rust
use Rattle.std.proofs.Math.Option.{Option, none, some}
use Rattle.packet.specs.ItemTypes.{eof_kind}
use Rattle.packet.specs.Items.{Item, count_of}
use Rattle.packet.specs.Answers.{Found, find_in, behind_in}
use Rattle.packet.specs.declared.items.Item as code
use Rattle.packet.specs.declared.items.Survey.{Survey}

-- a type byte, a length byte N, and N bytes behind them: none if the type is EOF
unfoldable pub begins_with_item : List ℕ → Bool
begins_with_item bytes =
    leb 2 (length bytes)
    && (leb (get_or bytes 1 0 + 2) (length bytes) && cond (eqb (get_or bytes 0 0) eof_kind) (eqb (get_or bytes 1 0) 0) true)

-- the item that bytes begin with, where they stand from the place at on
unfoldable pub item_from : ℕ → List ℕ → Found
item_from at bytes =
    cond (begins_with_item bytes) (Some (record { kind = get_or bytes 0 0; start = at + 2; length = get_or bytes 1 0 })) None

-- the item right behind the first of the kind, with one more item read
abbrev pub behind_first : Found → Found → code.Item → Found
behind_first (Some first) behind item = option_or behind (Some item)
behind_first None behind item = behind

-- before the first item
abbrev pub no_items : Survey
no_items = record { all = 0; count = 0; first = None; behind = None }

-- one item more can be counted
abbrev pub Countable : Survey → Type 0
Countable survey = (survey.all + 1 < 2 ^ 64) × (survey.count + 1 < 2 ^ 64)

-- some items and one more behind them, which is of the wanted kind or not
abbrev pub with_item : Survey → code.Item → Bool → Survey
with_item survey item wanted =
    record {
      all = survey.all + 1;
      count = cond wanted (survey.count + 1) survey.count;
      first = cond wanted (option_or survey.first (Some item)) survey.first;
      behind = behind_first survey.first survey.behind item;
    }

-- the items from the place at on: how many, how many of the kind, the first of these and the item right behind it
abbrev pub survey_of : ℕ → ℕ → List Item → Survey
survey_of at kind items =
    record { all = length items; count = count_of kind items; first = find_in at kind items; behind = behind_in at kind items }

-- the same, where the items could be read
unfoldable pub tally_of : ℕ → ℕ → Option (List Item) → rust.Option Survey
tally_of at kind none = None
tally_of at kind (some items) = Some (survey_of at kind items)
