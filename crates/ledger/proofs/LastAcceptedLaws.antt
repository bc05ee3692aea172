-- The fold over what went to the board finds the last accepted update of a name, since a later one would have replaced it, and none where
-- none was accepted.
use mathlib.Core.Path.{◌≡◌, refl, ap, ◌∙◌}
use mathlib.Core.List.{List, [], ◌∷◌}
use mathlib.Core.Option.{Option, some, none}
use mathlib.Core.Logic.{◌⊎◌, inl, inr}
use Prim.Native.Nat.{ℕ, zero, suc, ◌+◌}
use native.Mathlib.Omega.{arith}
use lib.IntN.{ℤ}
use Rattle.slices.proofs.Impossible.{impossible}
use Rattle.ledger.specs.Ledger.{Update, older}
use Rattle.ledger.specs.BoardEvents.{BoardEvent}
use Rattle.ledger.specs.LastAccepted.{accepted_for, in_front, all_accepted, tick_of, ticks_in, LastAccepted}
use Rattle.ledger.proofs.UpdateLaws.{aged, renewed, last_update, split_last}

abbrev pub update_of : ℤ → ℕ → Option Update
update_of value ticks = some (record { value = value; ticks = ticks })

aged_update : (n : ℕ) (value : ℤ) (ticks : ℕ) → aged n (update_of value ticks) ≡ update_of value (n + ticks)
aged_update zero value ticks = let same : 0 + ticks ≡ ticks = omega arith in rw same
aged_update (suc n) value ticks =
    let same : suc n + ticks ≡ suc (n + ticks) = omega arith in
    ap older (aged_update n value ticks) ∙ rw same

aged_none : (n : ℕ) → aged n none ≡ none
aged_none zero = refl
aged_none (suc n) = ap older (aged_none n)

aged_more : (n m : ℕ) (last : Option Update) → aged n (aged m last) ≡ aged (m + n) last
aged_more zero m last = let same : m + 0 ≡ m = omega arith in rw same
aged_more (suc n) m last =
    let same : m + suc n ≡ suc (m + n) = omega arith in
    ap older (aged_more n m last) ∙ rw same

module _ (names : List (List ℕ)) (name : List ℕ) where
  -- where no packet is accepted as an update of the name, only the ticks count
  none_accepted : (event : BoardEvent) (more : List BoardEvent) → all_accepted names name (event ∷ more) ≡ []
      → (accepted_for names name event ≡ none) × (all_accepted names name more ≡ [])
  unfolding all_accepted
  none_accepted event more e = by_first (accepted_for names name event) e
    where
      by_first : (o : Option ℤ) → in_front o (all_accepted names name more) ≡ [] → (o ≡ none) × (all_accepted names name more ≡ [])
      by_first none e = (refl, e)
      by_first (some value) e = impossible cc

  quiet_ages : (events : List BoardEvent) (last : Option Update) → all_accepted names name events ≡ [] → last_update names name events last ≡ aged (ticks_in events) last
  unfolding last_update ticks_in
  quiet_ages [] last e = refl
  quiet_ages (l ∷ events) last e =
      let parts = none_accepted l events e in
      rw parts.0 (quiet_ages events (aged (tick_of l) last) parts.1 ∙ aged_more (ticks_in events) (tick_of l) last)

  -- the last accepted update is the fold's
  pub last_is : (value : ℤ) (ticks : ℕ) (events : List BoardEvent) → LastAccepted names name value ticks events → last_update names name events none ≡ update_of value ticks
  unfolding last_update
  last_is value ticks events l =
      let so_far = last_update names name l.before none in
      let renews : renewed (accepted_for names name l.closing) (tick_of l.closing) so_far ≡ update_of value 0 = rw l.accepts in
      let all : ticks_in l.since + 0 ≡ ticks = omega (arith, l.ticks_since) in
      ap (λ (xs : List BoardEvent). last_update names name xs none) l.in_order
      ∙ split_last names name l.before (l.closing ∷ l.since) none
      ∙ ap (last_update names name l.since) renews
      ∙ quiet_ages l.since (update_of value 0) l.none_later
      ∙ aged_update (ticks_in l.since) value 0
      ∙ ap (update_of value) all

  -- and back: one was accepted, which is then the fold's, or none
  pub record Found (events : List BoardEvent) : Type 0 where
    pub value : ℤ
    pub ticks : ℕ
    pub last : LastAccepted names name value ticks events

  later : (l : BoardEvent) (events : List BoardEvent) → Found events → Found (l ∷ events)
  later l events f =
      record {
        value = f.value;
        ticks = f.ticks;
        last =
            record {
              before = l ∷ f.last.before;
              closing = f.last.closing;
              since = f.last.since;
              in_order = ap (λ (xs : List BoardEvent). l ∷ xs) f.last.in_order;
              accepts = f.last.accepts;
              none_later = f.last.none_later;
              ticks_since = f.last.ticks_since;
            };
      }

  pub found : (events : List BoardEvent) → (Found events ⊎ (all_accepted names name events ≡ []))
  unfolding all_accepted
  found [] = inr refl
  found (l ∷ events) = by_rest (found events)
    where
      by_first : (o : Option ℤ) → accepted_for names name l ≡ o → all_accepted names name events ≡ []
          → (Found (l ∷ events) ⊎ (in_front o (all_accepted names name events) ≡ []))
      by_first none e quiet = inr quiet
      by_first (some value) e quiet =
          inl
          (record {
            value = value;
            ticks = ticks_in events;
            last = record { before = []; closing = l; since = events; in_order = refl; accepts = e; none_later = quiet; ticks_since = refl };
          })

      by_rest : (Found events ⊎ (all_accepted names name events ≡ [])) → (Found (l ∷ events) ⊎ (in_front (accepted_for names name l) (all_accepted names name events) ≡ []))
      by_rest (inl f) = inl (later l events f)
      by_rest (inr quiet) = by_first (accepted_for names name l) refl quiet

  -- without an accepted update there is none in the fold
  pub none_is : (events : List BoardEvent) → all_accepted names name events ≡ [] → last_update names name events none ≡ none
  none_is events quiet = quiet_ages events none quiet ∙ aged_none (ticks_in events)
