-- The frames that a session sends are those that the ledger says, with the same bytes: C-11's writer takes each of them.
use mathlib.Core.Path.{◌≡◌, refl, ap₂, subst⁻¹}
use mathlib.Core.List.{List, [], ◌∷◌, ◌++◌, map}
use Prim.Native.Nat.{ℕ, ◌≤◌}
use native.Mathlib.Omega.{arith}
use lib.ListN.{length}
use Rattle.slices.specs.Each.{each}
use Rattle.ash.specs.Stuffing.{payload_max, stuff}
use Rattle.session.specs.Counters.{of_ours, of_peers}
use Rattle.session.specs.Frames as session
use Rattle.session.specs.Frames.{empty_frame, held_frames, repeats_of, sent_bytes, bytes_of}
use Rattle.session.specs.State.{Payload, kept}
use Rattle.session.specs.declared.counters.OFC.{OFC}
use Rattle.session.specs.declared.control.Kind.{Kind}
use Rattle.session.specs.declared.state.Held.{Held}
use Rattle.session.specs.declared.state.Session.{Session}
use Rattle.session.proofs.FrameLaws.{frame_taken}
use Rattle.conversation.specs.Ledger.{Ledger, Entry, on_line, held}
use Rattle.conversation.specs.Events.{Sent, control_on, frame_on, line_of}
use Rattle.conversation.specs.OurEvents.{empty, again, repeats}
use Rattle.conversation.proofs.Agreement.{Keeps, Holds, none_held_law, one_held, two_held, Agrees}

pub record SameFrame (f : session.Sent) (g : Sent) : Type 0 where
  pub kind_is : f.kind ≡ g.kind
  pub ofc_is : f.ofc ≡ of_ours (on_line g.ofc)
  pub afc_is : f.afc ≡ of_peers (on_line g.afc)
  pub payload_is : f.payload ≡ g.payload
  pub short : length (stuff g.payload) ≤ payload_max

same_bytes_law : (f : session.Sent) (g : Sent) → SameFrame f g → sent_bytes f ≡ frame_on g
same_bytes_law f g same =
    rw (same.kind_is, same.ofc_is, same.afc_is, same.payload_is) (frame_taken (control_on g) g.payload same.short)

pub data SameFrames : List session.Sent → List Sent → Type 0 where
  no_frame : SameFrames [] []
  more_frames : {f : session.Sent} {g : Sent} {fs : List session.Sent} {gs : List Sent} → SameFrame f g → SameFrames fs gs → SameFrames (f ∷ fs) (g ∷ gs)

pub same_line : {fs : List session.Sent} {gs : List Sent} → SameFrames fs gs → bytes_of fs ≡ line_of gs
unfolding bytes_of line_of
same_line no_frame = refl
same_line (more_frames {f = f} {g = g} same rest) = ap₂ (λ (a b : List ℕ). a ++ b) (same_bytes_law f g same) (same_line rest)

pub same_append : {fs : List session.Sent} {gs : List Sent} {fs₁ : List session.Sent} {gs₁ : List Sent} → SameFrames fs gs → SameFrames fs₁ gs₁
    → SameFrames (fs ++ fs₁) (gs ++ gs₁)
same_append no_frame others = others
same_append (more_frames same rest) others = more_frames same (same_append rest others)

module _ (l : Ledger) (s : Session) (a : Agrees l s) where
  -- an empty frame
  pub empty_same : (kind : Kind) → SameFrames (empty_frame kind s ∷ []) (empty kind l ∷ [])
  unfolding each
  empty_same kind =
      let same : SameFrame (empty_frame kind s) (empty kind l) = record { kind_is = refl; ofc_is = a.counter_is; afc_is = a.good_is; payload_is = refl; short = omega arith } in
      more_frames same no_frame

  again_same : (e : Entry) (number : OFC) (payload : Payload) → Keeps e number payload
      → SameFrame (session.data_frame number s.good (kept payload)) (again l.good e)
  again_same e number payload k =
      record { kind_is = refl; ofc_is = k.number_is; afc_is = a.good_is; payload_is = k.payload_is; short = k.short }

  -- those still held, in order
  pub repeats_same : SameFrames (repeats_of s) (repeats l)
  repeats_same = by_held (held l.entries) a.holds
    where
      by_held : (es : List Entry) → Holds s l.counter es → SameFrames (repeats_of s) (map (again l.good) es)
      by_held [] (none_held_law is) = subst⁻¹ (λ (h : Held). SameFrames (held_frames h s) []) is no_frame
      by_held (e ∷ []) (one_held is k last) =
          subst⁻¹ (λ (h : Held). SameFrames (held_frames h s) (again l.good e ∷ [])) is (more_frames (again_same e _ _ k) no_frame)
      by_held (e ∷ f ∷ []) (two_held is j k first last) =
          subst⁻¹ (λ (h : Held). SameFrames (held_frames h s) (again l.good e ∷ again l.good f ∷ [])) is
          (more_frames (again_same e _ _ j) (more_frames (again_same f _ _ k) no_frame))
      by_held (e ∷ f ∷ _ ∷ _) h = elim h [ ]
