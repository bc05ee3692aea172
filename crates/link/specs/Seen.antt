-- What a reader has seen since the last flag. The receiver goes by this alone: bytes of the array beyond it never count.
use Rattle.std.specs.Prelude.{◌≡◌, ℕ, Option, ◌≤◌, List, [], ◌∷◌, ◌++◌, length, take}
use Rattle.frame.specs.Stuffing.{content_max}
use Rattle.link.specs.declared.counts.Counts.{Counts}
use Rattle.link.specs.declared.reader.Phase.{Phase}
use Rattle.link.specs.declared.reader.Phase.TheVariants.{Plain}
use Rattle.link.specs.declared.reader.Reader.{Reader}
use Rattle.link.specs.declared.receiver.Link.{Link}
use Rattle.link.specs.Reader.{ended_by, step_of}
use Rattle.link.specs.Closing.{Outcome, close_of}

-- the reader's phase, the content so far, and the place of the last byte
pub record Seen : Type 0 where
  pub phase : Phase
  pub bytes : List ℕ
  pub place : ℕ

abbrev pub seen : List ℕ → Reader → Seen
seen content reader = record { phase = reader.phase; bytes = take reader.length content; place = reader.place }

abbrev pub reader_of : Seen → Reader
reader_of s = record { phase = s.phase; length = length s.bytes; place = s.place }

-- right behind a flag
abbrev pub nothing_seen : Seen
nothing_seen = record { phase = Plain; bytes = []; place = 0 }

-- one byte more that is no flag
unfoldable pub seen_after : Seen → ℕ → Seen
seen_after s b =
    record {
      phase = (step_of (reader_of s) b).reader.phase;
      bytes = s.bytes ++ (step_of (reader_of s) b).brings;
      place = (step_of (reader_of s) b).reader.place;
    }

-- 01, The ledger: the run is the sent bytes since the last flag
unfoldable pub seen_run : Seen → List ℕ → Seen
seen_run s [] = s
seen_run s (b ∷ bs) = seen_run (seen_after s b) bs

-- what the flag behind it does
abbrev pub close_seen : Seen → Option ℕ → Counts → Outcome
close_seen s previous before = close_of (ended_by (reader_of s)) s.bytes previous before

-- a link state that a fresh start or our calls gave
pub record Ours (state : Link) : Type 0 where
  pub whole : length state.content ≡ content_max
  pub within : state.reader.length ≤ content_max
