-- 01, The ledger: what it holds. It is fed only the watch list, the pieces, their buffers and the ticks; with 02, C-13, the sends and the
-- timeouts.
use Rattle.std.specs.Prelude.{ℕ, zero, suc, cond, List, [], ◌∷◌, map, ltb, ℤ, replicate}
use Rattle.std.proofs.Math.Option.{Option, some, none}
use Rattle.slices.specs.Same.{same_bytes}

-- the ten counts: new, again, heard, unread and refusals 1 to 6. They have no bound.
pub record Counts : Type 0 where
  pub new : ℕ
  pub again : ℕ
  pub heard : ℕ
  pub unread : ℕ
  pub refused : List ℕ

-- the value of a name's last accepted update, and the ticks since
pub record Update : Type 0 where
  pub value : ℤ
  pub ticks : ℕ

-- a watched name with its last update, if there was one
pub record Entry : Type 0 where
  pub name : List ℕ
  pub last : Option Update

-- what it holds of the line: the run (sent bytes since the last flag), the last sequence, and the counts
pub record Line : Type 0 where
  pub run : Option (List ℕ)
  pub sequence : Option ℕ
  pub counts : Counts

-- 02, C-13: the frame that waits for its acknowledgement, and how often it was sent again
pub record Held : Type 0 where
  pub sequence : ℕ
  pub payload : List ℕ
  pub repeats : ℕ

-- what it holds of our sender: the sequence of the next frame, and the frame that waits, if one does
pub record Sender : Type 0 where
  pub next : ℕ
  pub held : Option Held

-- what it holds of the hives: an entry for each watched name
pub record Hives : Type 0 where
  pub entries : List Entry

pub record Ledger : Type 0 where
  pub line : Line
  pub sender : Sender
  pub hives : Hives

-- the setters: of each part, of the hives' entries, and of an entry's last update
abbrev pub with_line : Ledger → Line → Ledger
with_line l line = record { line = line; sender = l.sender; hives = l.hives }

abbrev pub with_sender : Ledger → Sender → Ledger
with_sender l sender = record { line = l.line; sender = sender; hives = l.hives }

abbrev pub with_hives : Ledger → Hives → Ledger
with_hives l hives = record { line = l.line; sender = l.sender; hives = hives }

abbrev pub with_entries : Ledger → List Entry → Ledger
with_entries l entries = with_hives l (record { entries = entries })

abbrev pub with_last : Entry → Option Update → Entry
with_last entry last = record { name = entry.name; last = last }

-- at first the counts are 0 and the rest is none; our first frame has sequence 0
abbrev pub no_counts : Counts
no_counts = record { new = 0; again = 0; heard = 0; unread = 0; refused = replicate 6 0 }

abbrev pub none_sent : Sender
none_sent = record { next = 0; held = none }

abbrev pub unheard : List ℕ → Entry
unheard name = record { name = name; last = none }

abbrev pub start : List (List ℕ) → Ledger
start names =
    record {
      line = record { run = none; sequence = none; counts = no_counts };
      sender = none_sent;
      hives = record { entries = map unheard names };
    }

abbrev pub name_of : Entry → List ℕ
name_of entry = entry.name

-- one more at a place
unfoldable pub more_at : ℕ → List ℕ → List ℕ
more_at n [] = []
more_at zero (count ∷ counts) = suc count ∷ counts
more_at (suc n) (count ∷ counts) = count ∷ more_at n counts

-- one more of refusal n: the first place is that of refusal 1, and there is no refusal 0
abbrev pub more_of : ℕ → List ℕ → List ℕ
more_of zero counts = counts
more_of (suc n) counts = more_at n counts

-- one more in one of the counts
abbrev pub plus_new : Counts → Counts
plus_new c = record { new = suc c.new; again = c.again; heard = c.heard; unread = c.unread; refused = c.refused }

abbrev pub plus_again : Counts → Counts
plus_again c = record { new = c.new; again = suc c.again; heard = c.heard; unread = c.unread; refused = c.refused }

abbrev pub plus_heard : Counts → Counts
plus_heard c = record { new = c.new; again = c.again; heard = suc c.heard; unread = c.unread; refused = c.refused }

abbrev pub plus_unread : Counts → Counts
plus_unread c = record { new = c.new; again = c.again; heard = c.heard; unread = suc c.unread; refused = c.refused }

abbrev pub plus_refused : ℕ → Counts → Counts
plus_refused n c = record { new = c.new; again = c.again; heard = c.heard; unread = c.unread; refused = more_of n c.refused }

-- an accepted update of a name, 0 ticks old
unfoldable pub updated : List ℕ → ℤ → List Entry → List Entry
updated name value [] = []
updated name value (entry ∷ entries) =
    cond (same_bytes entry.name name)
    (with_last entry (some (record { value = value; ticks = 0 })) ∷ entries)
    (entry ∷ updated name value entries)

-- a tick is one more on each name's ticks
abbrev pub older : Option Update → Option Update
older none = none
older (some update) = some (record { value = update.value; ticks = suc update.ticks })

abbrev pub older_entry : Entry → Entry
older_entry entry = with_last entry (older entry.last)

-- what a row shows
pub data Row : Type 0 where
  never : Row
  current : ℤ → ℕ → Row
  silent : Row

abbrev pub silent_from : ℕ
silent_from = 30

-- under 30 ticks a name is current, with them as age; from 30 silent; without update never
abbrev pub row_of : Option Update → Row
row_of none = never
row_of (some update) = cond (ltb update.ticks silent_from) (current update.value update.ticks) silent
