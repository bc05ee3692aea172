-- 01, Program and C host: the tagged fields of a history. "Broken is another tag, a cut field, a wrong length, a bad list, or
-- a name after another tag." Here is what the head of a field settles: its tag and its length.
use Rattle.std.specs.Prelude.{ℕ, Bool, cond, eqb, ltb, Option, Some, None}
use Rattle.board.specs.WatchList.{name_tag}
use Rattle.history.specs.declared.fields.Head.{Head}
use Rattle.history.specs.declared.fields.Head.TheVariants.{Name, Received, Tick}

-- the tags of received bytes and of a tick; that of a name is the watch list's
abbrev pub received_tag : ℕ
received_tag = 0x02

abbrev pub tick_tag : ℕ
tick_tag = 0x03

-- up to 4,096 bytes in a field
abbrev pub field_max : ℕ
field_max = 4096

-- names come first: listing says that no other field came before
abbrev pub name_head : ℕ → Bool → Option Head
name_head size listing = cond listing (Some (Name size)) None

-- a tick has the length 0
abbrev pub tick_head : ℕ → Option Head
tick_head size = cond (eqb size 0) (Some Tick) None

-- by its tag; none where the field is broken, as another tag is, and a length past 4,096
abbrev pub head_of : ℕ → ℕ → Bool → Option Head
head_of tag size listing =
    cond (ltb field_max size) None
    (cond (eqb tag name_tag) (name_head size listing)
    (cond (eqb tag received_tag) (Some (Received size))
    (cond (eqb tag tick_tag) (tick_head size) None)))
