-- The receiver's reader and the ledger's run agree: what the reader has seen since the last flag is what it sees in the run, so it closes
-- what the run is.
use Rattle.std.specs.Prelude as code
use mathlib.Core.Path.{◌≡◌, refl, sym, ap, ◌∙◌}
use mathlib.Core.List.{List, [], ◌∷◌, ◌++◌}
use mathlib.Core.Option.{Option, some, none}
use Prim.Native.Nat.{ℕ, ◌≤◌}
use lib.ListN.{length}
use Rattle.frame.specs.Stuffing.{content_max}
use Rattle.frame.specs.Reading.{read_run}
use Rattle.link.specs.Reader.{behind_flag, ended_by, step_of, content_after}
use Rattle.link.specs.Walk.{Walk}
use Rattle.link.specs.Closing.{read_outcome, close_of}
use Rattle.link.specs.Seen.{Seen, seen, reader_of, nothing_seen, seen_after, seen_run, close_seen}
use Rattle.link.specs.declared.counts.Counts.{Counts}
use Rattle.link.specs.declared.reader.Phase.TheVariants.{Before}
use Rattle.link.specs.declared.reader.Reader.{Reader}
use Rattle.link.proofs.SeenLaws.{seen_step, seen_ended, seen_close}
use Rattle.link.proofs.FrameLaws.{run_close}
use Rattle.ledger.specs.Frames.{joined, Taken}

-- what stands in the reader for the ledger's run
abbrev pub Standing : Option (List ℕ) → List ℕ → Reader → Type 0
Standing none array reader = reader.phase ≡ Before
Standing (some run) array reader = seen array reader ≡ seen_run nothing_seen run

-- what the flag behind a frame's run does to the link
abbrev pub Closes : List ℕ → Walk → Type 0
Closes frame w =
    (previous : code.Option ℕ) (before : Counts)
    → close_of w.ended w.content previous before ≡ read_outcome (read_run frame) previous before

abbrev pub Reached : Option (List ℕ) → Option (List ℕ) → Walk → Type 0
Reached run none w = (w.ended ≡ code.Ok code.None) × Standing run w.content w.reader
Reached run (some frame) w = Standing run w.content w.reader × Closes frame w

pub record Agreement (t : Taken) (w : Walk) : Type 0 where
  pub counted : w.taken ≡ t.count
  pub reached : Reached t.run t.frame w

-- a byte at the end of the run is seen last
seen_snoc : (s : Seen) (run : List ℕ) (b : ℕ) → seen_run s (run ++ (b ∷ [])) ≡ seen_after (seen_run s run) b
unfolding seen_run
seen_snoc s [] b = refl
seen_snoc s (x ∷ run) b = seen_snoc (seen_after s x) run b

module _ (array : List ℕ) (reader : Reader) (whole : length array ≡ content_max) (within : reader.length ≤ content_max) where
  pub byte_standing : (run : Option (List ℕ)) (b : ℕ) → Standing run array reader
      → Standing (joined run b) (content_after array reader.length (step_of reader b)) (step_of reader b).reader
  unfolding step_of
  byte_standing none b e = rw e
  byte_standing (some run) b e =
      seen_step array reader whole within b ∙ ap (λ (s : Seen). seen_after s b) e ∙ sym (seen_snoc nothing_seen run b)

  pub run_closes : (x : ℕ) (xs : List ℕ) → Standing (some (x ∷ xs)) array reader → (previous : code.Option ℕ) (before : Counts)
      → close_of (ended_by reader) array previous before ≡ read_outcome (read_run (x ∷ xs)) previous before
  run_closes x xs e previous before =
      seen_close array reader previous before whole within
      ∙ ap (λ (s : Seen). close_seen s previous before) e
      ∙ run_close x xs previous before

  pub nothing_ended : seen array reader ≡ nothing_seen → ended_by reader ≡ code.Ok code.None
  nothing_ended e = seen_ended array reader whole within ∙ ap (λ (s : Seen). ended_by (reader_of s)) e

pub before_ended : (reader : Reader) → reader.phase ≡ Before → ended_by reader ≡ code.Ok code.None
before_ended reader e = rw e

-- right behind a flag nothing is seen
pub behind_standing : (array : List ℕ) → Standing (some []) array behind_flag
unfolding seen_run
behind_standing array = refl
