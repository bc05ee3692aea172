-- Covering, dropping and holding keep the agreement: none, one or two frames are held, and two neighbours never have one number on the line.
use mathlib.Core.Path.{◌≡◌, refl, sym, ap, ◌∙◌, subst}
use mathlib.Core.Bool.{Bool, true, false, cond}
use mathlib.Core.List.{List, [], ◌∷◌, ◌++◌, map}
use mathlib.Core.Option.{Option, some, none}
use Prim.Native.Nat.{ℕ, suc, ◌≤◌}
use native.Mathlib.Omega.{arith}
use lib.Dec.{eqb, leb}
use lib.ListN.{length, replicate}
use borrow.Author.Tests.{eqb-true}
use Rattle.slices.proofs.Impossible.{impossible}
use Rattle.slices.proofs.PutLaws.{put_first}
use Rattle.ash.specs.Stuffing.{payload_max, stuff}
use Rattle.ash.proofs.StuffLaws.{stuff_least}
use Rattle.session.specs.Counters.{of_ours}
use Rattle.session.specs.State.{kept, payload_of, none_held, newer_alone, covered, recorded, holds_two, holding}
use Rattle.session.proofs.HoldingLaws.{one_named, one_kept, newer_named, older_named, two_kept}
use Rattle.session.proofs.HoldingLaws as holding_laws
use Rattle.session.specs.declared.counters.OFC.{OFC}
use Rattle.session.specs.declared.counters.AFC.{AFC}
use Rattle.session.specs.declared.state.Held.TheVariants.{One, Two}
use Rattle.session.specs.declared.state.Session.{Session}
use Rattle.conversation.specs.Ledger.{Entry, handed_out_now, on_line, held, named, cover_named, cover}
use Rattle.conversation.specs.OurEvents.{number_of}
use Rattle.conversation.specs.Shown.{as_held}
use Rattle.conversation.proofs.NumberLaws.{neighbours_differ}
use Rattle.conversation.proofs.EntryLaws.{behind, behind_all, behind_none, held_covered}
use Rattle.conversation.proofs.Agreement.{Keeps, Holds, none_held_law, one_held, two_held}

-- the held frames as they are reported
pub reported : (s : Session) (counter : ℕ) (es : List Entry) → Holds s counter es → s.held ≡ as_held (map number_of es)
reported s counter [] (none_held_law is) = is
reported s counter (e ∷ []) (one_held is k last) = is ∙ ap One k.number_is
reported s counter (e ∷ f ∷ []) (two_held {m = m} is j k first last) = rw (is, j.number_is, k.number_is)
reported s counter (e ∷ f ∷ _ ∷ _) h = elim h [ ]

-- two frames are held exactly if there are two entries
pub two_agree : (s : Session) (counter : ℕ) (es : List Entry) → Holds s counter es → holds_two s.held ≡ leb 2 (length es)
two_agree s counter [] (none_held_law is) = rw is
two_agree s counter (e ∷ []) (one_held is k last) = rw is
two_agree s counter (e ∷ f ∷ []) (two_held is j k first last) = rw is
two_agree s counter (e ∷ f ∷ _ ∷ _) h = elim h [ ]

pub held_at_most_two : (s : Session) (counter : ℕ) (es : List Entry) → Holds s counter es → length es ≤ 2
held_at_most_two s counter [] (none_held_law is) = omega arith
held_at_most_two s counter (e ∷ []) (one_held is k last) = omega arith
held_at_most_two s counter (e ∷ f ∷ []) (two_held is j k first last) = omega arith
held_at_most_two s counter (e ∷ f ∷ _ ∷ _) h = elim h [ ]

-- a frame of one more is held, with the next number
pub payload_kept : (payload : List ℕ) → length (stuff payload) ≤ payload_max → kept (payload_of payload) ≡ payload
unfolding payload_of
payload_kept payload short = put_first (replicate payload_max 0) payload (omega (arith, short, stuff_least payload))

module _ (s : Session) (counter : ℕ) (payload : List ℕ) (short : length (stuff payload) ≤ payload_max) where
  abbrev more : Entry
  more = handed_out_now (suc counter) payload

  keeps_more : Keeps more (of_ours (on_line (suc counter))) (payload_of payload)
  keeps_more = record { number_is = refl; payload_is = payload_kept payload short; short = short }

  pub holds_more : (es : List Entry) → Holds s counter es → leb 2 (length es) ≡ false
      → Holds (holding s (of_ours (on_line (suc counter))) payload) (suc counter) (es ++ (more ∷ []))
  holds_more [] (none_held_law is) few = rw is (one_held refl keeps_more refl)
  holds_more (e ∷ []) (one_held is k last) few = rw is (two_held refl k keeps_more (ap suc last) refl)
  holds_more (e ∷ f ∷ []) (two_held is j k first last) few = impossible cc
  holds_more (e ∷ f ∷ _ ∷ _) h few = elim h [ ]

-- the frames that stay when a number on the line names one of them, or none
abbrev stay : Option ℕ → List Entry → List Entry
stay (some n) es = behind n es
stay none es = es

held_cover : (seen : ℕ) (es : List Entry) → held (cover seen es) ≡ stay (named seen (held es)) (held es)
held_cover seen es = by_name (named seen (held es))
  where
    by_name : (o : Option ℕ) → held (cover_named o es) ≡ stay o (held es)
    by_name (some n) = held_covered n es
    by_name none = refl

-- a session that stands for another one holds the same
by : (counter : ℕ) (es : List Entry) (s s₁ : Session) → s ≡ s₁ → Holds s counter es → Holds s₁ counter es
by counter es s s₁ same h = subst (λ (x : Session). Holds x counter es) same h

module _ (s : Session) (counter seen : ℕ) where
  one_covers : (e : Entry) (n : OFC) → s.held ≡ One n → Keeps e n s.older → e.number ≡ counter → (t : Bool) → eqb (on_line e.number) seen ≡ t
      → Holds (covered s (of_ours seen)) counter (stay (cond t (some e.number) none) (e ∷ []))
  unfolding behind
  one_covers e n is k last true test =
      let same = one_named s (of_ours seen) n is (rw k.number_is test) in
      rw (behind_all e e.number [] (omega arith)) (by counter [] (none_held s) _ same (none_held_law refl))
  one_covers e n is k last false test = by counter (e ∷ []) s _ (one_kept s (of_ours seen) n is (rw k.number_is test)) (one_held is k last)

  module _ (e f : Entry) (m n : OFC) (is : s.held ≡ Two m n) (j : Keeps e m s.older) (k : Keeps f n s.newer)
      (first : suc e.number ≡ counter) (last : f.number ≡ counter) where
    abbrev left : Bool → Bool → List Entry
    left t u = stay (cond t (some e.number) (cond u (some f.number) none)) (e ∷ f ∷ [])

    both_named : eqb (on_line e.number) seen ≡ true → eqb (on_line f.number) seen ≡ true → ⊥
    both_named one other =
        let a = eqb-true (on_line e.number) seen one in
        let b = eqb-true (on_line f.number) seen other in
        neighbours_differ e.number (a ∙ sym b ∙ ap on_line (last ∙ sym first))

    two_covers : (t u : Bool) → eqb (on_line e.number) seen ≡ t → eqb (on_line f.number) seen ≡ u → Holds (covered s (of_ours seen)) counter (left t u)
    unfolding behind
    two_covers true true one other = absurd (both_named one other)
    two_covers true false one other =
        let same = older_named s (of_ours seen) m n is (rw k.number_is other) (rw j.number_is one) in
        rw (behind_all e e.number (f ∷ []) (omega arith), behind_none f e.number (omega (arith, first, last)))
        (by counter (f ∷ []) (newer_alone s n) _ same (one_held refl k last))
    two_covers false true one other =
        let same = newer_named s (of_ours seen) m n is (rw k.number_is other) in
        rw (behind_all e f.number (f ∷ []) (omega (arith, first, last)), behind_all f f.number [] (omega arith))
        (by counter [] (none_held s) _ same (none_held_law refl))
    two_covers false false one other =
        by counter (e ∷ f ∷ []) s _ (two_kept s (of_ours seen) m n is (rw k.number_is other) (rw j.number_is one)) (two_held is j k first last)

  covers : (es : List Entry) → Holds s counter es → Holds (covered s (of_ours seen)) counter (stay (named seen es) es)
  unfolding named
  covers [] (none_held_law is) = by counter [] s _ (holding_laws.none_held_law s (of_ours seen) is) (none_held_law is)
  covers (e ∷ []) (one_held {n = n} is k last) = one_covers e n is k last (eqb (on_line e.number) seen) refl
  covers (e ∷ f ∷ []) (two_held {m = m} {n = n} is j k first last) =
      two_covers e f m n is j k first last (eqb (on_line e.number) seen) (eqb (on_line f.number) seen) refl refl
  covers (e ∷ f ∷ _ ∷ _) h = elim h [ ]

-- what stays held when an ACK or a NACK names a number
pub holds_covered : (s : Session) (counter seen : ℕ) (es : List Entry) → Holds s counter (held es) → Holds (covered s (of_ours seen)) counter (held (cover seen es))
holds_covered s counter seen es h = rw (held_cover seen es) (covers s counter seen (held es) h)

-- what is recorded of the peer's frames changes none that is held
pub holds_recorded : (s : Session) (counter : ℕ) (good : AFC) (es : List Entry) → Holds s counter es → Holds (recorded s good) counter es
holds_recorded s counter good [] (none_held_law is) = none_held_law is
holds_recorded s counter good (e ∷ []) (one_held is k last) = one_held is k last
holds_recorded s counter good (e ∷ f ∷ []) (two_held is j k first last) = two_held is j k first last
holds_recorded s counter good (e ∷ f ∷ _ ∷ _) h = elim h [ ]
