-- The frames that an event sends, with the ledger as it leaves it: each has the counters of that ledger, or is a held one with its own number.
-- By the nine effects of the ledger's events.
use mathlib.Core.Path.{◌≡◌, refl, sym, subst}
use mathlib.Core.Bool.{Bool, true, false}
use mathlib.Core.List.{List, [], ◌∷◌, ◌++◌, map, append-nil}
use Prim.Native.Nat.{ℕ, suc}
use Rattle.session.specs.declared.control.Kind.TheVariants.{Reset, ResetAck, Ack, Nack}
use Rattle.conversation.specs.Ledger.{Entry, Ledger, handed_out_now, held}
use Rattle.conversation.specs.Events.{Event, Sent, Effect, frames_in}
use Rattle.conversation.specs.OurEvents.{empty, again, repeats}
use Rattle.conversation.specs.PeerFrames.{ack_for, repeats_if}
use Rattle.conversation.specs.Steps.{step}
use Rattle.conversation.proofs.EntryLaws.{held_more}
use Rattle.conversation.proofs.StepCases.{Cases, step_case}

-- one of a list
pub data Among {A : Type 0} (x : A) : List A → Type 0 where
  first : {xs : List A} → Among x (x ∷ xs)
  further : {y : A} {xs : List A} → Among x xs → Among x (y ∷ xs)

-- RESET 1/0, RESET ACK 1/1, an empty ACK or NACK with our counter, or a held frame in an ACK with its own number; each with the last good number
pub data Right (l : Ledger) : Sent → Type 0 where
  reset_right : l.counter ≡ 1 → l.good ≡ 0 → Right l (empty Reset l)
  reset_ack_right : l.counter ≡ 1 → l.good ≡ 1 → Right l (empty ResetAck l)
  ack_right : Right l (empty Ack l)
  nack_right : Right l (empty Nack l)
  held_right : (e : Entry) → Among e (held l.entries) → Right l (again l.good e)

-- no frame, one, all that are held again, or these and an ACK behind them
pub data Sends (l : Ledger) : List Sent → Type 0 where
  nothing : Sends l []
  one : {f : Sent} → Right l f → Sends l (f ∷ [])
  all_again : Sends l (repeats l)
  all_again_and_ack : Sends l (repeats l ++ (empty Ack l ∷ []))

record Says (e : Effect) : Type 0 where
  sends : Sends e.ledger (frames_in e.says)

last_among : (es : List Entry) (e : Entry) → Among e (es ++ (e ∷ []))
last_among [] e = first
last_among (d ∷ es) e = further (last_among es e)

ack_alone : (l : Ledger) (payload : List ℕ) → Sends l (ack_for l payload)
ack_alone l [] = nothing
ack_alone l (b ∷ bs) = one ack_right

reply_sends : (l : Ledger) (nack : Bool) (payload : List ℕ) → Sends l (repeats_if nack l ++ ack_for l payload)
reply_sends l false payload = ack_alone l payload
reply_sends l true [] = subst (λ (fs : List Sent). Sends l fs) (sym (append-nil (repeats l))) all_again
reply_sends l true (b ∷ bs) = all_again_and_ack

cases : (l : Ledger) → Cases l Says
cases l =
    record {
      refuses = λ n. record { sends = nothing };
      resets = record { sends = one (reset_right refl refl) };
      accepts = λ payload idle few good.
          let more = handed_out_now (suc l.counter) payload in
          let there : Among more (held (l.entries ++ (more ∷ []))) = rw (held_more l.entries more refl) (last_among (held l.entries) more) in
          record { sends = one (held_right more there) };
      times_out = record { sends = all_again };
      ignores = record { sends = nothing };
      nacks = record { sends = one nack_right };
      hears_reset = record { sends = one (reset_ack_right refl refl) };
      hears_reset_ack = λ payload short. record { sends = ack_alone _ payload };
      hears_reply = λ c nack payload short. record { sends = reply_sends _ nack payload };
    }

pub step_sends : (l : Ledger) (e : Event) → Sends (step l e).ledger (frames_in (step l e).says)
step_sends l e = (step_case l Says (cases l) e).sends

repeat_right : (l : Ledger) (es : List Entry) → ((e : Entry) → Among e es → Among e (held l.entries)) → (f : Sent) → Among f (map (again l.good) es)
    → Right l f
repeat_right l [] among f is = elim is [ ]
repeat_right l (e ∷ es) among f first = held_right e (among e first)
repeat_right l (e ∷ es) among f (further is) = repeat_right l es (λ d there. among d (further there)) f is

-- one of two strings of frames
behind : (l : Ledger) (fs gs : List Sent) (f : Sent) → ((g : Sent) → Among g fs → Right l g) → ((g : Sent) → Among g gs → Right l g) → Among f (fs ++ gs)
    → Right l f
behind l [] gs f one-part other-part is = other-part f is
behind l (g ∷ fs) gs f one-part other-part first = one-part f first
behind l (g ∷ fs) gs f one-part other-part (further is) = behind l fs gs f (λ d there. one-part d (further there)) other-part is

-- each frame that is sent
pub right_of : (l : Ledger) (fs : List Sent) (f : Sent) → Sends l fs → Among f fs → Right l f
right_of l _ f nothing is = elim is [ ]
right_of l (g ∷ []) f (one right) first = right
right_of l (g ∷ []) f (one right) (further is) = elim is [ ]
right_of l fs f all_again is = repeat_right l (held l.entries) (λ e there. there) f is
right_of l fs f all_again_and_ack is =
    behind l (repeats l) (empty Ack l ∷ []) f (λ g there. repeat_right l (held l.entries) (λ e here. here) g there) (λ g there. alone g there) is
  where
    alone : (g : Sent) → Among g (empty Ack l ∷ []) → Right l g
    alone g first = ack_right
    alone g (further is) = elim is [ ]
