-- What a reader has seen of a run of sent bytes is what unstuffing the whole run gives: by induction over the run, behind any
-- bytes seen before.
use Rattle.std.proofs.Common.{◌≡◌, ℕ, suc, ◌+◌, ◌*◌, ◌<◌, ◌≤◌, Bool, true, false, cond, ltb, List, [], ◌∷◌, ◌++◌, length, sym, refl, ap, ◌∙◌, append_assoc, append-nil, arith, length-append, ltb-true, lt-ltb}
use Rattle.slices.proofs.Impossible.{impossible}
use Rattle.refusals.specs.Numbers.{bad_framing, long_content}
use Rattle.frame.specs.Stuffing.{content_max, sent_max, State, plain, escaped, Meaning, escapes_next, stands_for, faulty, meaning, Unstuffed, content, refused, joined, taken, unstuff_from}
use Rattle.frame.proofs.FollowLaws.{prefixed}
use Rattle.frame.proofs.SentLaws.{no_escape}
use Rattle.link.specs.declared.reader.Phase.{Phase}
use Rattle.link.specs.declared.reader.Phase.TheVariants.{Before, Plain, Escaped, BadFraming, LongContent}
use Rattle.link.specs.Reader.{next_place, Step, turned, step_by, step_in, step_of}
use Rattle.link.specs.Seen.{Seen, seen_after, seen_run}

-- what a reader has seen, as unstuffing names it
abbrev pub unstuffed_in : Phase → List ℕ → ℕ → Unstuffed
unstuffed_in Before bytes place = refused bad_framing place
unstuffed_in Plain bytes place = content bytes
unstuffed_in Escaped bytes place = refused bad_framing (next_place place)
unstuffed_in BadFraming bytes place = refused bad_framing place
unstuffed_in LongContent bytes place = refused long_content place

abbrev pub unstuffed_seen : Seen → Unstuffed
unstuffed_seen s = unstuffed_in s.phase s.bytes s.place

-- one byte more, at a place, by its meaning
abbrev pub seen_by : Meaning → List ℕ → ℕ → Seen
seen_by escapes_next bytes place = record { phase = Escaped; bytes = bytes; place = place }
seen_by (stands_for v) bytes place =
    cond (ltb (length bytes) content_max) (record { phase = Plain; bytes = bytes ++ (v ∷ []); place = place })
    (record { phase = LongContent; bytes = bytes; place = place })
seen_by faulty bytes place = record { phase = BadFraming; bytes = bytes; place = place }

-- the bytes that a step adds to those seen
abbrev grown : List ℕ → Step → Seen
grown bytes step = record { phase = step.reader.phase; bytes = bytes ++ step.brings; place = step.reader.place }

grown_turned : (bytes : List ℕ) (phase : Phase) (place : ℕ)
    → grown bytes (turned phase (length bytes) place) ≡ record { phase = phase; bytes = bytes; place = place }
grown_turned bytes phase place = rw (append-nil bytes)

grown_by : (m : Meaning) (bytes : List ℕ) (place : ℕ) → grown bytes (step_by m (length bytes) place) ≡ seen_by m bytes place
grown_by escapes_next bytes place = grown_turned bytes Escaped place
grown_by (stands_for v) bytes place = cases (ltb (length bytes) content_max)
  where
    cases : (t : Bool)
        → grown bytes
        (cond t (record { reader = record { phase = Plain; length = suc (length bytes); place = place }; brings = v ∷ [] }) (turned LongContent (length bytes) place))
        ≡ cond t (record { phase = Plain; bytes = bytes ++ (v ∷ []); place = place }) (record { phase = LongContent; bytes = bytes; place = place })
    cases true = refl
    cases false = grown_turned bytes LongContent place
grown_by faulty bytes place = grown_turned bytes BadFraming place

abbrev pub phase_of : State → Phase
phase_of plain = Plain
phase_of escaped = Escaped

pub seen_by_law : (s : State) (bytes : List ℕ) (place b : ℕ)
    → seen_after (record { phase = phase_of s; bytes = bytes; place = place }) b ≡ seen_by (meaning s b) bytes (next_place place)
unfolding seen_after step_of
seen_by_law plain bytes place b = grown_by (meaning plain b) bytes (next_place place)
seen_by_law escaped bytes place b = grown_by (meaning escaped b) bytes (next_place place)

-- a phase that no byte changes stays, and so does the place: of 1 and 2 the one met first
stays : (phase : Phase) → ((held place b : ℕ) → step_in phase held place b ≡ turned phase held place) → (bytes : List ℕ) (place : ℕ) (bs : List ℕ)
    → seen_run (record { phase = phase; bytes = bytes; place = place }) bs ≡ record { phase = phase; bytes = bytes; place = place }
unfolding seen_run seen_after step_of
stays phase idle bytes place [] = refl
stays phase idle bytes place (b ∷ bs) = rw (idle (length bytes) place b, append-nil bytes) (stays phase idle bytes place bs)

-- a reader without a fault has met at most two bytes for each of content, and an escape byte: it counts on
abbrev Counted : State → ℕ → ℕ → Type 0
Counted plain held place = (held ≤ content_max) × (place ≤ 2 * held)
Counted escaped held place = (held ≤ content_max) × (place ≤ 2 * held + 1)

met_before : (s : State) (held place : ℕ) → Counted s held place → place < sent_max
met_before plain held place h = let most = h.0 in let counted = h.1 in omega arith
met_before escaped held place h = let most = h.0 in let counted = h.1 in omega arith

counts_on : (s : State) (held place : ℕ) → Counted s held place → next_place place ≡ suc place
counts_on s held place h = rw (lt-ltb place _ (met_before s held place h))

-- one byte more of content in front of what the rest gives
prefixed_joined : (bytes : List ℕ) (v : ℕ) (found : Unstuffed) → prefixed (bytes ++ (v ∷ [])) found ≡ prefixed bytes (joined v found)
prefixed_joined bytes v (content c) = ap content (append_assoc bytes (v ∷ []) c)
prefixed_joined bytes v (refused n place) = refl

-- what is seen of a run behind some bytes is what unstuffing it gives behind them
abbrev SeenAs : State → List ℕ → ℕ → List ℕ → Type 0
SeenAs s bytes place bs =
    unstuffed_seen (seen_run (record { phase = phase_of s; bytes = bytes; place = place }) bs) ≡ prefixed bytes (unstuff_from s (length bytes) place bs)

module _ (bytes : List ℕ) (place : ℕ) (bs : List ℕ)
    (rest : (s : State) (bytes₁ : List ℕ) → Counted s (length bytes₁) (suc place) → SeenAs s bytes₁ (suc place) bs) where
  byte_seen : (v : ℕ) → place ≤ 2 * length bytes + 1
      → unstuffed_seen (seen_run (seen_by (stands_for v) bytes (suc place)) bs)
      ≡ prefixed bytes (taken (stands_for v) (length bytes) (suc place) (λ s held. unstuff_from s held (suc place) bs))
  byte_seen v counted = cases (ltb (length bytes) content_max) refl
    where
      cases : (t : Bool) → ltb (length bytes) content_max ≡ t
          → unstuffed_seen
          (seen_run
          (cond t (record { phase = Plain; bytes = bytes ++ (v ∷ []); place = suc place }) (record { phase = LongContent; bytes = bytes; place = suc place }))
          bs)
          ≡ prefixed bytes (cond t (joined v (unstuff_from plain (suc (length bytes)) (suc place) bs)) (refused long_content (suc place)))
      cases true room =
          let one : length (bytes ++ (v ∷ [])) ≡ suc (length bytes) = length-append bytes (v ∷ []) ∙ omega arith in
          let most = ltb-true (length bytes) content_max room in
          rest plain (bytes ++ (v ∷ [])) (omega (arith, one), omega (arith, one))
          ∙ ap (λ (n : ℕ). prefixed (bytes ++ (v ∷ [])) (unstuff_from plain n (suc place) bs)) one
          ∙ prefixed_joined bytes v (unstuff_from plain (suc (length bytes)) (suc place) bs)
      cases false full = ap unstuffed_seen (stays LongContent (λ held at b₁. refl) bytes (suc place) bs)

  meant_seen : (s : State) (m : Meaning) → (s ≡ escaped → m ≡ escapes_next → ⊥) → Counted s (length bytes) place
      → unstuffed_seen (seen_run (seen_by m bytes (suc place)) bs) ≡ prefixed bytes (taken m (length bytes) (suc place) (λ s₁ held. unstuff_from s₁ held (suc place) bs))
  meant_seen plain escapes_next once h = rest escaped bytes (h.0, let counted = h.1 in omega arith)
  meant_seen escaped escapes_next once h = absurd (once refl refl)
  meant_seen plain (stands_for v) once h = byte_seen v (let counted = h.1 in omega arith)
  meant_seen escaped (stands_for v) once h = byte_seen v h.1
  meant_seen s faulty once h = ap unstuffed_seen (stays BadFraming (λ held at b₁. refl) bytes (suc place) bs)

pub run_unstuffed : (s : State) (bytes : List ℕ) (place : ℕ) (bs : List ℕ) → Counted s (length bytes) place → SeenAs s bytes place bs
unfolding seen_run unstuff_from
run_unstuffed plain bytes place [] h = ap content (sym (append-nil bytes))
run_unstuffed escaped bytes place [] h = ap (refused bad_framing) (counts_on escaped (length bytes) place h)
run_unstuffed s bytes place (b ∷ bs) h =
    ap (λ (t : Seen). unstuffed_seen (seen_run t bs)) (seen_by_law s bytes place b)
    ∙ ap (λ (at : ℕ). unstuffed_seen (seen_run (seen_by (meaning s b) bytes at) bs)) (counts_on s (length bytes) place h)
    ∙ meant_seen bytes place bs (λ s₁ bytes₁. run_unstuffed s₁ bytes₁ (suc place) bs) s (meaning s b) (once s) h
  where
    once : (s₁ : State) → s₁ ≡ escaped → meaning s₁ b ≡ escapes_next → ⊥
    once plain e f = impossible cc
    once escaped e f = no_escape b f
