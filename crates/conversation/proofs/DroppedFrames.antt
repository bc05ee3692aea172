-- The frames that are reported as dropped are those that a RESET dropped, in order: a RESET drops all that are held, and reports them; so of the
-- entries those that are dropped stand before those that wait.
use mathlib.Core.Path.{◌≡◌, refl, sym, ap, ◌∙◌}
use mathlib.Core.Bool.{Bool, true, false, cond}
use mathlib.Core.List.{List, [], ◌∷◌, ◌++◌, map, append-nil, append_assoc}
use mathlib.Core.Option.{Option, some, none}
use Prim.Native.Nat.{ℕ, suc, ◌≤◌}
use native.Mathlib.Omega.{arith}
use lib.Dec.{leb}
use lib.ListN.{length}
use Rattle.session.specs.declared.counters.OFC.{OFC}
use Rattle.session.specs.declared.state.Session.{Session}
use Rattle.conversation.specs.Ledger.{waiting, Entry, Ledger, handed_out_now, start, held, gone, drop_all, named, cover_to, cover_named, cover}
use Rattle.conversation.specs.Events.{Event, Effect}
use Rattle.conversation.specs.OurEvents.{number_of}
use Rattle.conversation.specs.Steps.{step, after}
use Rattle.conversation.specs.Shown.{as_held, as_answer, Left, given, reported_by, reported_in, reported}
use Rattle.conversation.proofs.EntryLaws.{behind, held_covered, held_dropped}
use Rattle.conversation.proofs.StepCases.{Cases, step_case}
use Rattle.conversation.proofs.Chain.{Starts, Chain}
use Rattle.conversation.proofs.EveryList.{every_list}
use lib.ListN.{length-append}
use borrow.Author.Tests.{leb-false}
use Rattle.conversation.proofs.EntryLaws.{held_more}
use Rattle.conversation.proofs.GoneLaws.{gone_append, cover_append, gone_covered, on_wire, Split, restart_gone}

-- what an event leaves
record Reports (l : Ledger) (e : Effect) : Type 0 where
  split : Split e.ledger.entries
  few : length (held e.ledger.entries) ≤ 2
  grows : map on_wire (gone e.ledger.entries) ≡ map on_wire (gone l.entries) ++ reported_in (as_answer e.says)

split_dropped : (es : List Entry) → Split (drop_all es)
unfolding gone
split_dropped es = record { old = drop_all es; recent = []; is = sym (append-nil (drop_all es)); free = held_dropped es; kept = refl }

split_covered : (seen : ℕ) (es : List Entry) → Split es → Split (cover seen es)
unfolding behind
split_covered seen es p = by_name (named seen (held es))
  where
    by_name : (o : Option ℕ) → Split (cover_named o es)
    by_name none = p
    by_name (some n) =
        record {
          old = cover_to n p.old;
          recent = cover_to n p.recent;
          is = ap (cover_to n) p.is ∙ cover_append n p.old p.recent;
          free = held_covered n p.old ∙ rw p.free;
          kept = gone_covered n p.recent ∙ p.kept;
        }

gone_cover : (seen : ℕ) (es : List Entry) → gone (cover seen es) ≡ gone es
gone_cover seen es = by_name (named seen (held es))
  where
    by_name : (o : Option ℕ) → gone (cover_named o es) ≡ gone es
    by_name none = refl
    by_name (some n) = gone_covered n es

-- none, one or two frames are reported as they are
report_is : (es : List Entry) → length es ≤ 2 → reported_by (as_held (map number_of es)) ≡ map on_wire es
report_is [] few = refl
report_is (a ∷ []) few = refl
report_is (a ∷ b ∷ []) few = refl
report_is (a ∷ b ∷ c ∷ es) few = absurd (omega (arith, few))

-- a cover leaves no more held than before
behind_less : (n : ℕ) (es : List Entry) → length (behind n es) ≤ length es
unfolding behind
behind_less n [] = omega arith
behind_less n (e ∷ es) = by_number (leb e.number n) (behind_less n es)
  where
    by_number : (t : Bool) → length (behind n es) ≤ length es → length (cond t (behind n es) (e ∷ behind n es)) ≤ suc (length es)
    by_number true less = omega (arith, less)
    by_number false less = omega (arith, less)

few_covered : (seen : ℕ) (es : List Entry) → length (held es) ≤ 2 → length (held (cover seen es)) ≤ 2
few_covered seen es few = by_name (named seen (held es))
  where
    by_name : (o : Option ℕ) → length (held (cover_named o es)) ≤ 2
    by_name none = few
    by_name (some n) = rw (held_covered n es) (omega (arith, behind_less n (held es), few))

module _ (l : Ledger) (p : Split l.entries) (few : length (held l.entries) ≤ 2) where
  same : map on_wire (gone l.entries) ≡ map on_wire (gone l.entries) ++ []
  same = sym (append-nil (map on_wire (gone l.entries)))

  dropped_all : map on_wire (gone (drop_all l.entries)) ≡ map on_wire (gone l.entries) ++ reported_by (as_held (map number_of (held l.entries)))
  dropped_all = restart_gone l.entries p ∙ ap (λ (r : List OFC). map on_wire (gone l.entries) ++ r) (sym (report_is (held l.entries) few))

  split_more : (e : Entry) → e.fate ≡ waiting → Split (l.entries ++ (e ∷ []))
  unfolding gone
  split_more e is =
      record {
        old = p.old;
        recent = p.recent ++ (e ∷ []);
        is = ap (λ (es : List Entry). es ++ (e ∷ [])) p.is ∙ append_assoc p.old p.recent (e ∷ []);
        free = p.free;
        kept = gone_append p.recent (e ∷ []) ∙ rw (p.kept, is);
      }

  gone_more : (e : Entry) → e.fate ≡ waiting → gone (l.entries ++ (e ∷ [])) ≡ gone l.entries
  unfolding gone
  gone_more e is = gone_append l.entries (e ∷ []) ∙ rw (is, append-nil (gone l.entries))

  few_more : (e : Entry) → e.fate ≡ waiting → leb 2 (length (held l.entries)) ≡ false → length (held (l.entries ++ (e ∷ []))) ≤ 2
  few_more e is free =
      let less = leb-false 2 (length (held l.entries)) free in
      rw (held_more l.entries e is) (rw (length-append (held l.entries) (e ∷ [])) (omega (arith, less)))

  cases : Cases l (Reports l)
  cases =
      record {
        refuses = λ n. record { split = p; few = few; grows = same };
        resets = record { split = split_dropped l.entries; few = rw (held_dropped l.entries) (omega arith); grows = dropped_all };
        accepts = λ payload idle free good.
            let e = handed_out_now (suc l.counter) payload in
            record { split = split_more e refl; few = few_more e refl free; grows = ap (map on_wire) (gone_more e refl) ∙ same };
        times_out = record { split = p; few = few; grows = same };
        ignores = record { split = p; few = few; grows = same };
        nacks = record { split = p; few = few; grows = same };
        hears_reset = record { split = split_dropped l.entries; few = rw (held_dropped l.entries) (omega arith); grows = dropped_all };
        hears_reset_ack = λ payload short. record { split = p; few = few; grows = same };
        hears_reply = λ c nack payload short.
            record {
              split = split_covered c.acknowledged.0 l.entries p;
              few = few_covered c.acknowledged.0 l.entries few;
              grows = ap (map on_wire) (gone_cover c.acknowledged.0 l.entries) ∙ same;
            };
      }

all_reported : (l : Ledger) (es : List Event) → Split l.entries → length (held l.entries) ≤ 2
    → map on_wire (gone (after l es).entries) ≡ map on_wire (gone l.entries) ++ reported (given l es)
unfolding after given reported
all_reported l [] p few = sym (append-nil (map on_wire (gone l.entries)))
all_reported l (e ∷ es) p few =
    let r = step_case l (Reports l) (cases l p few) e in
    let said = reported_in (as_answer (step l e).says) in
    all_reported (step l e).ledger es r.split r.few
    ∙ ap (λ (ns : List OFC). ns ++ reported (given (step l e).ledger es)) r.grows
    ∙ append_assoc (map on_wire (gone l.entries)) said (reported (given (step l e).ledger es))

-- THEOREM. After every list of events from a fresh session, the frames that the answers reported as dropped are exactly the handed out ones that
-- a RESET dropped, in order: none is dropped silently, and none is reported that was acknowledged.
pub dropped_are_reported : (s : Session) → Starts s → (es : List Event) (left : List Left) (end : Session) → Chain s es left end
    → map on_wire (gone (after start es).entries) ≡ reported left
unfolding held gone
dropped_are_reported s begins es left end chain =
    all_reported start es (record { old = []; recent = []; is = refl; free = refl; kept = refl }) (omega arith)
    ∙ ap reported (sym (every_list s begins es left end chain).answers)
