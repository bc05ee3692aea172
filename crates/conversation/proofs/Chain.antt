-- A chain of events: each is given the session that the last one left, and meets the contract of the function that runs. The contracts are
-- those that the toolchain reads off the source (`Learnt`, `Asked`), so a contract that says less breaks what is built on this.
use mathlib.Core.Path.{refl}
use mathlib.Core.List.{List, [], ◌∷◌}
use Prim.Native.Nat.{ℕ}
use lib.ListN.{length}
use contract.Lifetimes.{Lfts}
use Rattle.slices.specs.Put.{put_at}
use Rattle.slices.proofs.Lent.{Lent, LentOut, lent, lent_out, OutCall, InOutCall, out_call, in_out_call}
use Rattle.session.specs.State.{fresh_session}
use Rattle.session.specs.Frames.{bytes_of}
use Rattle.session.specs.Results.{Result, frames_sent, payload_handed, outcome_of, SendsAs, HandsAs}
use Rattle.session.specs.Events.{reset_of, send_of, timeout_of}
use Rattle.session.specs.Receiving.{receive_of}
use Rattle.session.specs.declared.state.Outcome.{Outcome}
use Rattle.session.specs.declared.state.Session.{Session}
use Rattle.session.proofs.state.fresh.Reads as fresh
use Rattle.session.proofs.ours.reset.Reads as reset
use Rattle.session.proofs.ours.send.Reads as send
use Rattle.session.proofs.ours.timeout.Reads as timeout
use Rattle.session.proofs.receiving.receive.Reads as receive
use Rattle.conversation.specs.Events as events
use Rattle.conversation.specs.Events.{Event}
use Rattle.conversation.specs.Shown.{Left}

-- a call of `session::state::fresh`
abbrev pub Starts : Session → Type 0
Starts s = fresh.Learnt tt tt s tt

-- a call of `reset`, `send` and `timeout`: the output is lent as it was before, and left as it is after
abbrev pub Resets : (s : Session) (output : List ℕ) (outcome : Outcome) (output₁ : List ℕ) → Type 0
Resets s = OutCall reset.Asked reset.Learnt (λ output. (s, (output, tt)))

abbrev pub Sends : (s : Session) (payload output : List ℕ) (outcome : Outcome) (output₁ : List ℕ) → Type 0
Sends s = InOutCall send.Asked send.Learnt (λ payload output. (s, (payload, (output, tt))))

abbrev pub TimesOut : (s : Session) (output : List ℕ) (outcome : Outcome) (output₁ : List ℕ) → Type 0
TimesOut s = OutCall timeout.Asked timeout.Learnt (λ output. (s, (output, tt)))

-- a call of `receive`
pub record Receives (s : Session) (frame output buffer : List ℕ) (outcome : Outcome) (output₁ buffer₁ : List ℕ) : Type 0 where
  pub lifetimes : Lfts 3
  pub frame_lent : Lent frame
  pub output_lent : LentOut output
  pub buffer_lent : LentOut buffer
  pub output_left : LentOut output₁
  pub buffer_left : LentOut buffer₁
  pub asked : receive.Asked lifetimes (s, (frame_lent.slice, (output_lent.slice, (buffer_lent.slice, tt))))
  pub learnt :
      receive.Learnt lifetimes (s, (frame_lent.slice, (output_lent.slice, (buffer_lent.slice, tt)))) outcome
      (s, (frame_lent.slice, (output_left.slice, (buffer_left.slice, tt))))

-- what such calls did, by the contracts
pub was_reset : {s : Session} {output : List ℕ} {outcome : Outcome} {output₁ : List ℕ} → Resets s output outcome output₁
    → SendsAs s (reset_of s (length output)) output outcome output₁
was_reset r = rw (r.output_lent.holds, r.output_left.holds) at r.learnt

pub was_sent : {s : Session} {payload output : List ℕ} {outcome : Outcome} {output₁ : List ℕ} → Sends s payload output outcome output₁
    → SendsAs s (send_of s payload (length output)) output outcome output₁
was_sent r = rw (r.input_lent.holds, r.output_lent.holds, r.output_left.holds) at r.learnt

pub was_timeout : {s : Session} {output : List ℕ} {outcome : Outcome} {output₁ : List ℕ} → TimesOut s output outcome output₁
    → SendsAs s (timeout_of s (length output)) output outcome output₁
was_timeout r = rw (r.output_lent.holds, r.output_left.holds) at r.learnt

pub was_received : {s : Session} {frame output buffer : List ℕ} {outcome : Outcome} {output₁ buffer₁ : List ℕ}
    → Receives s frame output buffer outcome output₁ buffer₁
    → HandsAs s (receive_of s frame (length output) (length buffer)) output buffer outcome output₁ buffer₁
was_received r =
    rw (r.frame_lent.holds, r.output_lent.holds, r.buffer_lent.holds, r.output_left.holds, r.buffer_left.holds) at r.learnt

abbrev pub left_by : Outcome → List ℕ → List ℕ → Left
left_by outcome output handed = record { answer = outcome.answer; output = output; handed = handed }

pub data Chain : Session → List Event → List Left → Session → Type 0 where
  done : {s : Session} → Chain s [] [] s
  resets : {s end : Session} {output output₁ : List ℕ} {outcome : Outcome} {es : List Event} {left : List Left} → Resets s output outcome output₁
      → Chain outcome.session es left end → Chain s (events.reset output ∷ es) (left_by outcome output₁ [] ∷ left) end
  sends : {s end : Session} {payload output output₁ : List ℕ} {outcome : Outcome} {es : List Event} {left : List Left} → Sends s payload output outcome output₁
      → Chain outcome.session es left end → Chain s (events.send payload output ∷ es) (left_by outcome output₁ [] ∷ left) end
  receives : {s end : Session} {frame output buffer output₁ buffer₁ : List ℕ} {outcome : Outcome} {es : List Event} {left : List Left}
      → Receives s frame output buffer outcome output₁ buffer₁ → Chain outcome.session es left end
      → Chain s (events.receive frame output buffer ∷ es) (left_by outcome output₁ buffer₁ ∷ left) end
  times_out : {s end : Session} {output output₁ : List ℕ} {outcome : Outcome} {es : List Event} {left : List Left} → TimesOut s output outcome output₁
      → Chain outcome.session es left end → Chain s (events.timeout output ∷ es) (left_by outcome output₁ [] ∷ left) end

-- There is a fresh session, and such chains are there, since the contracts ask nothing: one for every list of events.
pub fresh_starts : Starts fresh_session
fresh_starts = refl

pub record Runs (s : Session) (es : List Event) : Type 0 where
  pub left : List Left
  pub end : Session
  pub chain : Chain s es left end

abbrev sent_out : Result → List ℕ → List ℕ
sent_out r output = put_at output 0 (bytes_of (frames_sent r))

pub every_list_runs : (s : Session) (es : List Event) → Runs s es
every_list_runs s [] = record { left = []; end = s; chain = done }
every_list_runs s (events.reset output ∷ es) =
    let r = reset_of s (length output) in
    let call : Resets s output (outcome_of s r) (sent_out r output) = out_call tt (record { answers = refl; sends = refl }) in
    let rest = every_list_runs (outcome_of s r).session es in
    record { left = left_by (outcome_of s r) (sent_out r output) [] ∷ rest.left; end = rest.end; chain = resets call rest.chain }
every_list_runs s (events.send payload output ∷ es) =
    let r = send_of s payload (length output) in
    let call : Sends s payload output (outcome_of s r) (sent_out r output) = in_out_call tt (record { answers = refl; sends = refl }) in
    let rest = every_list_runs (outcome_of s r).session es in
    record { left = left_by (outcome_of s r) (sent_out r output) [] ∷ rest.left; end = rest.end; chain = sends call rest.chain }
every_list_runs s (events.timeout output ∷ es) =
    let r = timeout_of s (length output) in
    let call : TimesOut s output (outcome_of s r) (sent_out r output) = out_call tt (record { answers = refl; sends = refl }) in
    let rest = every_list_runs (outcome_of s r).session es in
    record { left = left_by (outcome_of s r) (sent_out r output) [] ∷ rest.left; end = rest.end; chain = times_out call rest.chain }
every_list_runs s (events.receive frame output buffer ∷ es) =
    let r = receive_of s frame (length output) (length buffer) in
    let handed = put_at buffer 0 (payload_handed r) in
    let call : Receives s frame output buffer (outcome_of s r) (sent_out r output) handed =
    record {
      lifetimes = ([], ([], ([], tt)));
      frame_lent = lent frame;
      output_lent = lent_out output;
      buffer_lent = lent_out buffer;
      output_left = lent_out (sent_out r output);
      buffer_left = lent_out handed;
      asked = tt;
      learnt = record { answers = refl; sends = refl; hands_up = refl };
    } in
    let rest = every_list_runs (outcome_of s r).session es in
    record { left = left_by (outcome_of s r) (sent_out r output) handed ∷ rest.left; end = rest.end; chain = receives call rest.chain }
