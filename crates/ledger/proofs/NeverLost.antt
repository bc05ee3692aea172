-- 02, C-13, in the owner's words: a frame that was sent is sent again at most twice, and is at any time held, acknowledged or reported as
-- dropped, never lost silently. The ledger holds the frame from its send on, and the sender is the ledger's.
use mathlib.Core.Path.{◌≡◌, ap, ◌∙◌}
use mathlib.Core.List.{List, [], ◌∷◌, map}
use mathlib.Core.Option.{some}
use Prim.Native.Nat.{ℕ, ◌≤◌}
use native.Mathlib.Omega.{arith}
use lib.ListN.{length, take, replicate}
use Rattle.slices.proofs.Impossible.{impossible}
use Rattle.slices.specs.Put.{put_at}
use Rattle.slices.proofs.PutLaws.{put_first}
use Rattle.frame.specs.Content.{payload_max}
use Rattle.sender.specs.declared.state.Answer.TheVariants.{Sent}
use Rattle.display.specs.declared.Display.{Display}
use Rattle.ledger.specs.Ledger.{Ledger, start}
use Rattle.ledger.specs.Answers as answers
use Rattle.ledger.specs.Answers.{WatchList, names_in, Call}
use Rattle.ledger.specs.Sending.{SenderStep, own_frame, send_step}
use Rattle.ledger.specs.Calls.{step, given, after}
use Rattle.ledger.specs.Shown.{as_sending, Left, outgoing, as_left}
use Rattle.ledger.specs.SentFrames.{AccountedFor, status_of, repeats_in, reports_in, repeats_sent, drops_reported}
use Rattle.ledger.proofs.Chain.{Begins, Chain}
use Rattle.ledger.proofs.EveryList.{chain_agrees, agreeing, next_call}
use Rattle.ledger.proofs.SenderLaws.{by_send}
use Rattle.ledger.proofs.SentAccounted.{course}

-- a frame that was sent, and all that the calls behind it left
pub record NeverLost (sequence : ℕ) (payload frame : List ℕ) (since : List Left) (end : Display) : Type 0 where
  -- it is of type 01, with its sequence and payload
  pub frame_is : frame ≡ own_frame sequence payload
  -- it is held, acknowledged, or reported as dropped
  pub accounted_for : AccountedFor sequence payload (status_of sequence 0 since) end.sender
  -- up to the next frame it was sent again as often as the status says, and each time the same
  pub again : repeats_sent since ≡ replicate (repeats_in (status_of sequence 0 since)) frame
  -- and a drop was reported, once, where the status says so, and else none
  pub reports : drops_reported since ≡ reports_in sequence (status_of sequence 0 since)

-- an accepted send, by the ledger
record Accepted (l : Ledger) (payload output : List ℕ) (sequence size : ℕ) (output₁ : List ℕ) (s : SenderStep) : Type 0 where
  number : sequence ≡ l.sender.next
  short : length payload ≤ payload_max
  holds : s.sender.held ≡ some (record { sequence = sequence; payload = payload; repeats = 0 })
  frame_is : take size output₁ ≡ own_frame sequence payload

send_accepted : (l : Ledger) (payload output : List ℕ) (sequence size : ℕ) (output₁ : List ℕ)
    → outgoing (Sent sequence size) output₁ ≡ outgoing (as_sending (send_step l.sender payload (length output)).answer) (put_at output 0 (send_step l.sender payload (length output)).output)
    → Accepted l payload output sequence size output₁ (send_step l.sender payload (length output))
send_accepted l payload output sequence size output₁ =
    by_send
    (λ (s : SenderStep). outgoing (Sent sequence size) output₁ ≡ outgoing (as_sending s.answer) (put_at output 0 s.output) → Accepted l payload output sequence size output₁ s)
    l.sender payload (length output) (λ n said. impossible cc)
    (λ free short fits said.
    let number : sequence ≡ l.sender.next = cc in
    let own = own_frame l.sender.next payload in
    let long : size ≡ length own = cc in
    let put : output₁ ≡ put_at output 0 own = cc in
    record { number = number; short = short; holds = rw number; frame_is = rw (number, long, put) (put_first output own fits) })

-- THEOREM. After every list of calls: where a send is answered by "sent", and whatever calls come behind it, the frame is not lost.
pub never_lost : (names : List (List ℕ)) (w : WatchList) → names_in w ≡ some names → (d : Display) → Begins w d
    → (cs : List Call) (left : List Left) (before : Display) → Chain d cs left before
    → (payload output : List ℕ) (sequence size : ℕ) (output₁ : List ℕ) (behind : Display)
    → Chain before (answers.send payload output ∷ []) (outgoing (Sent sequence size) output₁ ∷ []) behind
    → (more : List Call) (since : List Left) (end : Display) → Chain behind more since end → NeverLost sequence payload (take size output₁) since end
unfolding step
never_lost names w listed d begins cs left before chain payload output sequence size output₁ behind next more since end further =
    let a = agreeing listed begins chain in
    let l = after (start names) cs in
    let one = next_call a next in
    let accepts = send_accepted l payload output sequence size output₁ one.gives in
    let m = (step l (answers.send payload output)).ledger in
    let rest = chain_agrees names a.fit m further one.agrees in
    let one_frame = course names sequence payload accepts.short more m 0 (omega arith) accepts.holds in
    let all : one_frame.count ≡ repeats_in (status_of sequence 0 (map (as_left names) (given m more))) = omega (arith, one_frame.counted) in
    record {
      frame_is = accepts.frame_is;
      accounted_for = rw (rest.gives, rest.agrees.sender_is) one_frame.accounted;
      again = rw (rest.gives, accepts.frame_is) (one_frame.again ∙ ap (λ (n : ℕ). replicate n (own_frame sequence payload)) all);
      reports = rw rest.gives one_frame.reports;
    }
