-- 01, The receiver: the ten counts are new, again, heard, unread and refusals 1 to 6.
use Rattle.std.specs.Prelude.{ℕ, ◌+◌, ◌-◌, ◌%◌, cond, List, replicate, ◌==◌, slice_index, slice_set}
use Rattle.link.specs.declared.counts.Counts.{Counts}
use Rattle.link.specs.declared.counts.Event.{Event}
use Rattle.link.specs.declared.counts.Event.TheVariants.{New, Again, Heard, Unread, Refused}

abbrev pub no_counts : Counts
no_counts = record { new = 0; again = 0; heard = 0; unread = 0; refused = replicate 6 0 }

-- 01, The receiver: each count is 16 bits and goes from 65,535 back to 0
abbrev pub plus_one : ℕ → ℕ
plus_one n = (n + 1) % 65536

-- in the counts of refusals 1 to 6, one more of refusal n; there is no refusal 0
abbrev pub plus_one_at : ℕ → List ℕ → List ℕ
plus_one_at n counts = cond (n == 0) counts (slice_set counts (n - 1) (plus_one (slice_index counts (n - 1))))

-- the counts with one event more
abbrev pub count_of : Event → Counts → Counts
count_of New c =
    record { new = plus_one c.new; again = c.again; heard = c.heard; unread = c.unread; refused = c.refused }
count_of Again c =
    record { new = c.new; again = plus_one c.again; heard = c.heard; unread = c.unread; refused = c.refused }
count_of Heard c =
    record { new = c.new; again = c.again; heard = plus_one c.heard; unread = c.unread; refused = c.refused }
count_of Unread c =
    record { new = c.new; again = c.again; heard = c.heard; unread = plus_one c.unread; refused = c.refused }
count_of (Refused n) c =
    record { new = c.new; again = c.again; heard = c.heard; unread = c.unread; refused = plus_one_at n c.refused }
