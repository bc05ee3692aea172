-- What a byte makes of the reader depends on what was seen before, and on the byte, alone.
use Rattle.std.proofs.Common.{◌≡◌, ℕ, Option, Some, None, Ok, ◌<◌, ◌≤◌, Bool, true, false, cond, eqb, ltb, List, ◌++◌, length, take, sym, refl, ap, ◌∙◌, append-nil, arith, length-take, length-take-le, take_all, take-suc-set, ltb-false, ltb-true}
use Rattle.frame.specs.Stuffing.{content_max, plain, escaped, Meaning, escapes_next, stands_for, faulty, meaning}
use Rattle.link.specs.declared.counts.Counts.{Counts}
use Rattle.link.specs.declared.reader.Phase.{Phase}
use Rattle.link.specs.declared.reader.Phase.TheVariants.{Before, Plain, Escaped, BadFraming, LongContent}
use Rattle.link.specs.declared.reader.Reader.{Reader}
use Rattle.link.specs.Reader.{Ended, next_place, ended_in, ended_by, Step, turned, store_of, step_by, step_in, step_of, content_after}
use Rattle.link.specs.Closing.{close_of}
use Rattle.link.specs.Seen.{seen, reader_of, seen_after, close_seen}
use Rattle.link.proofs.ReaderLaws.{store_room, store_full}

-- a step behind `held` bytes of content: the content grows by what the byte brings, within its bound
pub record Grows (content : List ℕ) (held : ℕ) (step : Step) : Type 0 where
  pub content_grows : take step.reader.length (content_after content held step) ≡ take held content ++ step.brings
  pub bounded : step.reader.length ≤ content_max

module _ (content : List ℕ) (held : ℕ) (whole : length content ≡ content_max) (within : held ≤ content_max) where
  turned_grows : (phase : Phase) (place : ℕ) → Grows content held (turned phase held place)
  turned_grows phase place = record { content_grows = sym (append-nil (take held content)); bounded = within }

  store_grows : (place b : ℕ) → Grows content held (store_of held place b)
  store_grows place b = cases (ltb held content_max) refl
    where
      cases : (t : Bool) → ltb held content_max ≡ t → Grows content held (store_of held place b)
      cases true e =
          let room : held < content_max = ltb-true held content_max e in
          let inside : held < length content = omega arith in
          rw (store_room held place b room) (record { content_grows = take-suc-set content held b inside; bounded = room })
      cases false e = rw (store_full held place b (ltb-false held content_max e)) (turned_grows LongContent place)

  by_meaning : (m : Meaning) (place : ℕ) → Grows content held (step_by m held place)
  by_meaning escapes_next place = turned_grows Escaped place
  by_meaning (stands_for b) place = store_grows place b
  by_meaning faulty place = turned_grows BadFraming place

  by_phase : (phase : Phase) (place b : ℕ) → Grows content held (step_in phase held place b)
  by_phase Before place b = turned_grows Before place
  by_phase Plain place b = by_meaning (meaning plain b) (next_place place)
  by_phase Escaped place b = by_meaning (meaning escaped b) (next_place place)
  by_phase BadFraming place b = turned_grows BadFraming place
  by_phase LongContent place b = turned_grows LongContent place

module _ (content : List ℕ) (reader : Reader) (whole : length content ≡ content_max) (within : reader.length ≤ content_max) where
  pub step_grows : (b : ℕ) → Grows content reader.length (step_of reader b)
  unfolding step_of
  step_grows b = by_phase content reader.length whole within reader.phase reader.place b

  -- what is seen tells the reader again
  pub reader_seen : reader_of (seen content reader) ≡ reader
  reader_seen =
      let fits : reader.length ≤ length content = omega arith in
      rw (length-take-le reader.length content fits)

  pub seen_step : (b : ℕ)
      → seen (content_after content reader.length (step_of reader b)) (step_of reader b).reader ≡ seen_after (seen content reader) b
  unfolding seen_after
  seen_step b =
      rw reader_seen
      (ap (λ (bytes : List ℕ). record { phase = (step_of reader b).reader.phase; bytes = bytes; place = (step_of reader b).reader.place }) (step_grows b).content_grows)

  pub seen_ended : ended_by reader ≡ ended_by (reader_of (seen content reader))
  seen_ended = sym (ap ended_by reader_seen)

-- and so does what the flag behind it does
module _ (content : List ℕ) (held place : ℕ) (previous : Option ℕ) (before : Counts) where
  close_first : (phase : Phase)
      → close_of (ended_in phase held place) content previous before ≡ close_of (ended_in phase held place) (take held content) previous before
  close_first Before = refl
  close_first Plain = cases (eqb held 0)
    where
      same : take held (take held content) ≡ take held content
      same = take_all held (take held content) (simp length-take (omega arith))

      cases : (t : Bool)
          → close_of (cond t (Ok None) (Ok (Some held))) content previous before
          ≡ close_of (cond t (Ok None) (Ok (Some held))) (take held content) previous before
      cases true = refl
      cases false = rw same
  close_first Escaped = refl
  close_first BadFraming = refl
  close_first LongContent = refl

pub seen_close : (content : List ℕ) (reader : Reader) (previous : Option ℕ) (before : Counts) → length content ≡ content_max → reader.length ≤ content_max
    → close_of (ended_by reader) content previous before ≡ close_seen (seen content reader) previous before
seen_close content reader previous before whole within =
    close_first content reader.length reader.place previous before reader.phase
    ∙ ap (λ (end : Ended). close_of end (take reader.length content) previous before) (seen_ended content reader whole within)
