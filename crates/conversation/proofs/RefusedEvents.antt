-- A refused event leaves the session and the bytes that were lent as they were: its contract says so, whatever the session.
use mathlib.Core.Path.{◌≡◌, refl, sym, ap, ◌∙◌}
use mathlib.Core.List.{List, []}
use Prim.Native.Nat.{ℕ}
use lib.ListN.{length}
use Rattle.std.specs.Prelude.{Err}
use Rattle.refusals.specs.declared.Refusal.{Refusal}
use Rattle.slices.specs.Put.{put_at}
use Rattle.slices.proofs.Impossible.{impossible}
use Rattle.session.specs.Frames.{bytes_of}
use Rattle.session.specs.Results.{Result, refused, given, frames_sent, payload_handed, outcome_of}
use Rattle.session.specs.Events.{reset_of, send_of, timeout_of}
use Rattle.session.specs.Receiving.{receive_of}
use Rattle.session.specs.declared.state.Outcome.{Outcome}
use Rattle.session.specs.declared.state.Session.{Session}
use Rattle.conversation.proofs.Chain.{Resets, Sends, TimesOut, Receives, was_reset, was_sent, was_timeout, was_received}

-- nothing is sent or handed up, and the session stays
record Unchanged (s : Session) (r : Result) : Type 0 where
  session_is : (outcome_of s r).session ≡ s
  sent : bytes_of (frames_sent r) ≡ []
  handed : payload_handed r ≡ []

refusal : (s : Session) (r : Result) (n : Refusal) → (outcome_of s r).answer ≡ Err n → Unchanged s r
unfolding bytes_of
refusal s (refused m) n is = record { session_is = refl; sent = refl; handed = refl }
refusal s (given g) n is = impossible cc

module _ (s : Session) (r : Result) (outcome : Outcome) (answers : outcome ≡ outcome_of s r) (n : Refusal) (is : outcome.answer ≡ Err n) where
  kept : Unchanged s r
  kept = refusal s r n (ap (λ (o : Outcome). o.answer) (sym answers) ∙ is)

  session_kept : outcome.session ≡ s
  session_kept = ap (λ (o : Outcome). o.session) answers ∙ kept.session_is

  output_kept : (output output₁ : List ℕ) → output₁ ≡ put_at output 0 (bytes_of (frames_sent r)) → output₁ ≡ output
  output_kept output output₁ put = put ∙ ap (put_at output 0) kept.sent

  buffer_kept : (buffer buffer₁ : List ℕ) → buffer₁ ≡ put_at buffer 0 (payload_handed r) → buffer₁ ≡ buffer
  buffer_kept buffer buffer₁ put = put ∙ ap (put_at buffer 0) kept.handed

module _ (s : Session) (output : List ℕ) (outcome : Outcome) (output₁ : List ℕ) (n : Refusal) (is : outcome.answer ≡ Err n) where
  -- THEOREM. A call of `reset`, of `timeout` or of `send` that answered a refusal left session and output as they were.
  pub refused_reset : Resets s output outcome output₁ → (outcome.session ≡ s) × (output₁ ≡ output)
  refused_reset call =
      let did = was_reset call in
      let r = reset_of s (length output) in
      (session_kept s r outcome did.answers n is, output_kept s r outcome did.answers n is output output₁ did.sends)

  pub refused_timeout : TimesOut s output outcome output₁ → (outcome.session ≡ s) × (output₁ ≡ output)
  refused_timeout call =
      let did = was_timeout call in
      let r = timeout_of s (length output) in
      (session_kept s r outcome did.answers n is, output_kept s r outcome did.answers n is output output₁ did.sends)

  pub refused_send : (payload : List ℕ) → Sends s payload output outcome output₁ → (outcome.session ≡ s) × (output₁ ≡ output)
  refused_send payload call =
      let did = was_sent call in
      let r = send_of s payload (length output) in
      (session_kept s r outcome did.answers n is, output_kept s r outcome did.answers n is output output₁ did.sends)

  -- THEOREM. A call of `receive` that answered a refusal left session, output and payload buffer as they were.
  pub refused_receive : (frame buffer buffer₁ : List ℕ) → Receives s frame output buffer outcome output₁ buffer₁
      → (outcome.session ≡ s) × (output₁ ≡ output) × (buffer₁ ≡ buffer)
  refused_receive frame buffer buffer₁ call =
      let did = was_received call in
      let r = receive_of s frame (length output) (length buffer) in (
        session_kept s r outcome did.answers n is,
        output_kept s r outcome did.answers n is output output₁ did.sends,
        buffer_kept s r outcome did.answers n is buffer buffer₁ did.hands_up,
      )
