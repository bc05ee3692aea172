-- 02, C-13: a held frame settles what the calls behind tell of it. It is sent again at most twice, and the same each time; and it is acknowledged,
-- or dropped and reported, or still held.
use mathlib.Core.Path.{◌≡◌, refl, sym, ap, ap₂, ◌∙◌, subst⁻¹}
use mathlib.Core.Bool.{Bool, true, false, cond}
use mathlib.Core.List.{List, [], ◌∷◌}
use mathlib.Core.Option.{Option, some, none}
use Prim.Native.Nat.{ℕ, suc, ◌+◌, ◌≤◌}
use native.Mathlib.Omega.{arith}
use lib.Dec.{eqb}
use lib.ListN.{length, replicate}
use borrow.Author.Tests.{eq-eqb}
use Rattle.slices.proofs.Impossible.{impossible}
use Rattle.slices.specs.Put.{put_at}
use Rattle.slices.proofs.PutLaws.{put_first}
use Rattle.frame.specs.Content.{payload_max}
use Rattle.sender.specs.State.{kept}
use Rattle.sender.specs.declared.state.Answer.TheVariants.{Repeated}
use Rattle.sender.specs.declared.state.Sender as sender
use Rattle.display.specs.declared.Answer.TheVariants.{Heard}
use Rattle.ledger.specs.Ledger.{Held, Ledger}
use Rattle.ledger.specs.Answers.{Call}
use Rattle.ledger.specs.Sending.{own_frame, held_behind}
use Rattle.ledger.specs.Calls.{step, given, after}
use Rattle.ledger.specs.Shown.{as_held, as_payload, as_sender, Left, took, outgoing}
use Rattle.ledger.specs.SentFrames as status
use Rattle.ledger.specs.SentFrames.{AccountedFor, Notice, Status, status_behind, status_of, repeats_in, reports_in, repeats_sent, drops_reported}
use Rattle.ledger.proofs.SenderAgreement.{kept_whole}
use Rattle.ledger.proofs.SenderSteps.{step_case}
use Rattle.ledger.proofs.NothingHeld.{rest, held_by, idle}

-- with a frame held that was sent again so often already
pub record Course (sequence : ℕ) (payload : List ℕ) (repeats : ℕ) (left : List Left) (s : sender.Sender) : Type 0 where
  pub accounted : AccountedFor sequence payload (status_of sequence repeats left) s
  pub count : ℕ
  pub counted : repeats + count ≡ repeats_in (status_of sequence repeats left)
  pub again : repeats_sent left ≡ replicate count (own_frame sequence payload)
  pub reports : drops_reported left ≡ reports_in sequence (status_of sequence repeats left)

module _ (names : List (List ℕ)) where
  module _ (sequence : ℕ) (payload : List ℕ) (short : length payload ≤ payload_max) where
    abbrev frame_after : ℕ → Held
    frame_after repeats = record { sequence = sequence; payload = payload; repeats = repeats }

    abbrev own : List ℕ
    own = own_frame sequence payload

    same_frame : (repeats : ℕ) (frame : Held) (held : Option Held) → held ≡ some (frame_after repeats) → held ≡ some frame → frame ≡ frame_after repeats
    same_frame repeats frame held a b = cc

    -- a call that tells nothing of the frame
    unnoticed : (repeats : ℕ) (left : Left) (more : List Left) (s : sender.Sender) → status_of sequence repeats (left ∷ more) ≡ status_of sequence repeats more
        → repeats_sent (left ∷ more) ≡ repeats_sent more → drops_reported (left ∷ more) ≡ drops_reported more → Course sequence payload repeats more s
        → Course sequence payload repeats (left ∷ more) s
    unnoticed repeats left more s same same_repeats same-reports c =
        record {
          accounted = subst⁻¹ (λ (st : Status). AccountedFor sequence payload st s) same c.accounted;
          count = c.count;
          counted = c.counted ∙ ap repeats_in (sym same);
          again = same_repeats ∙ c.again;
          reports = same-reports ∙ c.reports ∙ ap (reports_in sequence) (sym same);
        }

    -- a call that settles what became of it
    settled : (repeats : ℕ) (left : Left) (more : List Left) (s : sender.Sender) (st : Status) → status_of sequence repeats (left ∷ more) ≡ st → repeats_in st ≡ repeats
        → AccountedFor sequence payload st s → repeats_sent (left ∷ more) ≡ [] → drops_reported (left ∷ more) ≡ reports_in sequence st
        → Course sequence payload repeats (left ∷ more) s
    settled repeats left more s st is count a no_repeat reports =
        record {
          accounted = subst⁻¹ (λ (x : Status). AccountedFor sequence payload x s) is a;
          count = 0;
          counted = let None-more : repeats + 0 ≡ repeats = omega arith in None-more ∙ sym count ∙ ap repeats_in (sym is);
          again = no_repeat;
          reports = reports ∙ ap (reports_in sequence) (sym is);
        }

    its_own : (repeats : ℕ) (frame : Held) → frame ≡ frame_after repeats → eqb frame.sequence sequence ≡ true
    its_own repeats frame is = eq-eqb frame.sequence sequence (ap (λ (f : Held). f.sequence) is)

    -- a repeat: the same frame once more
    once_more : (repeats : ℕ) (frame : Held) (output : List ℕ) (more : List Left) (s : sender.Sender) → frame ≡ frame_after repeats
        → length (own_frame frame.sequence frame.payload) ≤ length output → Course sequence payload (suc repeats) more s
        → Course sequence payload repeats
        (outgoing (Repeated frame.sequence (length (own_frame frame.sequence frame.payload))) (put_at output 0 (own_frame frame.sequence frame.payload)) ∷ more) s
    unfolding status_of repeats_sent drops_reported
    once_more repeats frame output more s is fits c =
        let status_is = ap (λ (t : Bool). status_behind (cond t status.sent_again status.untold) repeats (λ again. status_of sequence again more)) (its_own repeats frame is) in
        let own_is = ap (λ (f : Held). own_frame f.sequence f.payload) is in
        let one_more : repeats + suc c.count ≡ suc repeats + c.count = omega arith in
        record {
          accounted = subst⁻¹ (λ (st : Status). AccountedFor sequence payload st s) status_is c.accounted;
          count = suc c.count;
          counted = one_more ∙ c.counted ∙ ap repeats_in (sym status_is);
          again = ap₂ (λ (f : List ℕ) (fs : List (List ℕ)). f ∷ fs) (put_first output (own_frame frame.sequence frame.payload) fits ∙ own_is) c.again;
          reports = c.reports ∙ ap (reports_in sequence) (sym status_is);
        }

    -- an acknowledgement, by its sequence
    heard_course : (repeats n other : ℕ) (reply packet : List ℕ) (m : Ledger) (cs : List Call) → repeats ≤ 2 → (t : Bool) → eqb other sequence ≡ t
        → m.sender.held ≡ cond t none (some (frame_after repeats))
        → (m.sender.held ≡ some (frame_after repeats) → Course sequence payload repeats (rest names m cs) (as_sender (after m cs).sender))
        → Course sequence payload repeats (took n (Heard other) reply packet ∷ rest names m cs) (as_sender (after m cs).sender)
    unfolding status_of repeats_sent drops_reported
    heard_course repeats n other reply packet m cs few true e free stays =
        let quiet = idle names cs m free in
        settled repeats _ (rest names m cs) _ (status.acknowledged repeats)
        (ap (λ (t : Bool). status_behind (cond t status.heard status.untold) repeats (λ again. status_of sequence again (rest names m cs))) e)
        refl few quiet.no_repeat quiet.no_report
    heard_course repeats n other reply packet m cs few false e held stays =
        unnoticed repeats _ (rest names m cs) _
        (ap (λ (t : Bool). status_behind (cond t status.heard status.untold) repeats (λ again. status_of sequence again (rest names m cs))) e)
        refl refl (stays held)

    pub course : (cs : List Call) (l : Ledger) (repeats : ℕ) → repeats ≤ 2 → l.sender.held ≡ some (frame_after repeats)
        → Course sequence payload repeats (rest names l cs) (as_sender (after l cs).sender)
    unfolding given after status_of repeats_sent drops_reported
    course [] l repeats few waits = record { accounted = (few, (ap as_held waits, ap (λ (h : Option Held). kept (as_payload h)) waits ∙ kept_whole payload short)); count = 0; counted = omega arith; again = refl; reports = refl }
    course (c ∷ cs) l repeats few waits =
        step_case names l (λ left s. (m : Ledger) → m.sender ≡ s → Course sequence payload repeats (left ∷ rest names m cs) (as_sender (after m cs).sender))
        (record {
          quiet =
              λ left q m same.
              unnoticed repeats left (rest names m cs) _
              (ap (λ (x : Notice). status_behind x repeats (λ again. status_of sequence again (rest names m cs))) (q.no_notice sequence))
              (q.not_again (rest names m cs)) (q.not_reported (rest names m cs)) (course cs m repeats few (held_by same ∙ waits));
          hears =
              λ n other reply packet m same.
              heard_course repeats n other reply packet m cs few (eqb other sequence) refl (held_by same ∙ ap (held_behind other) waits)
              (λ stays. course cs m repeats few stays);
          accepts = λ sent output free m same. let never = sym free ∙ waits in impossible cc;
          repeats =
              λ frame output e young fits m same.
              let is = same_frame repeats frame l.sender.held waits e in
              let count = ap (λ (f : Held). f.repeats) is in
              once_more repeats frame output (rest names m cs) _ is fits
              (course cs m (suc repeats) (omega (arith, young, count))
              (held_by same ∙ ap (λ (f : Held). some (record { sequence = f.sequence; payload = f.payload; repeats = suc f.repeats })) is));
          drops =
              λ frame output e old m same.
              let is = same_frame repeats frame l.sender.held waits e in
              let count = ap (λ (f : Held). f.repeats) is in
              let quiet = idle names cs m (held_by same) in
              settled repeats _ (rest names m cs) _ (status.dropped repeats)
              (ap (λ (t : Bool). status_behind (cond t status.reported status.untold) repeats (λ again. status_of sequence again (rest names m cs))) (its_own repeats frame is))
              refl (let all : repeats ≡ 2 = omega (arith, old, few, count) in all) quiet.no_repeat
              (ap₂ (λ (n : ℕ) (ns : List ℕ). n ∷ ns) (ap (λ (f : Held). f.sequence) is) quiet.no_report);
        })
        c (step l c).ledger refl
