-- One byte that is no flag, one law for each way that the reader goes: its phase and what the byte means settle the step.
use mathlib.Core.Logic.{◌⊎◌, inl, inr}
use Rattle.std.proofs.Common.{◌≡◌, ℕ, suc, ◌<◌, ◌≤◌, List, [], ◌∷◌, refl, le-ltb, lt-ltb}
use Rattle.frame.specs.Stuffing.{escape_byte, escaped_flag, escaped_escape, content_max, plain, escaped, Meaning, escapes_next, faulty, meaning}
use Rattle.frame.proofs.UnstuffLaws.{plain_escape, escaped_fault}
use Rattle.link.specs.declared.reader.Phase.{Phase}
use Rattle.link.specs.declared.reader.Phase.TheVariants.{Before, Plain, Escaped, BadFraming, LongContent}
use Rattle.link.specs.declared.reader.Reader.{Reader}
use Rattle.link.specs.Reader.{next_place, Step, turned, store_of, step_by, step_of}
use Rattle.link.specs.Steps.{StepsAs}

-- a byte of content is stored while there is room
pub store_room : (held place b : ℕ) → held < content_max
    → store_of held place b ≡ record { reader = record { phase = Plain; length = suc held; place = place }; brings = b ∷ [] }
store_room held place b h = rw (lt-ltb held content_max h)

pub store_full : (held place b : ℕ) → content_max ≤ held → store_of held place b ≡ turned LongContent held place
store_full held place b h = rw (le-ltb held content_max h)

-- a byte that brings no content leaves the array as it was
pub turns : (step : Step) (phase : Phase) (held place : ℕ) (content : List ℕ) → step ≡ turned phase held place
    → StepsAs step held content (record { phase = phase; length = held; place = place }) content
turns step phase held place content e = rw e (record { answers = refl; array = refl })

module _ (reader : Reader) (b place : ℕ) (next : place ≡ next_place reader.place) where
  pub step_plain : (m : Meaning) → reader.phase ≡ Plain → meaning plain b ≡ m → step_of reader b ≡ step_by m reader.length place
  unfolding step_of
  step_plain m e is = rw (e, is, next)

  pub step_escaped : (m : Meaning) → reader.phase ≡ Escaped → meaning escaped b ≡ m → step_of reader b ≡ step_by m reader.length place
  unfolding step_of
  step_escaped m e is = rw (e, is, next)

  module _ (content : List ℕ) where
    pub escapes : reader.phase ≡ Plain → b ≡ escape_byte
        → StepsAs (step_of reader b) reader.length content (record { phase = Escaped; length = reader.length; place = place }) content
    escapes e is = turns _ Escaped reader.length place content (step_plain escapes_next e (plain_escape b is))

    pub faults : reader.phase ≡ Escaped → (b ≡ escaped_flag → ⊥) → (b ≡ escaped_escape → ⊥)
        → StepsAs (step_of reader b) reader.length content (record { phase = BadFraming; length = reader.length; place = place }) content
    faults e no_flag no_escape = turns _ BadFraming reader.length place content (step_escaped faulty e (escaped_fault b no_flag no_escape))

-- before the first flag and behind a fault no byte changes anything
pub idles : (reader : Reader) (b : ℕ) (content : List ℕ) → (reader.phase ≡ Before) ⊎ ((reader.phase ≡ BadFraming) ⊎ (reader.phase ≡ LongContent))
    → StepsAs (step_of reader b) reader.length content reader content
unfolding step_of
idles reader b content (inl e) = rw e (turns _ Before reader.length reader.place content refl)
idles reader b content (inr (inl e)) = rw e (turns _ BadFraming reader.length reader.place content refl)
idles reader b content (inr (inr e)) = rw e (turns _ LongContent reader.length reader.place content refl)
