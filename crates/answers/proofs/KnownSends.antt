-- 02, C-13, on calls that can be looked at: what each send and timeout answers and leaves in its output computes, and each status of a frame is
-- met.
use mathlib.Core.Path.{◌≡◌, refl, ◌∙◌}
use mathlib.Core.List.{List, [], ◌∷◌}
use Prim.Native.Nat.{ℕ}
use lib.ListN.{replicate}
use native.Mathlib.Omega.{arith}
use Rattle.refusals.specs.Numbers.{short_output, long_payload, frame_waiting}
use Rattle.slices.specs.Written.{fitted}
use Rattle.frame.specs.Writing.{write_content, write_frame}
use Rattle.rows.specs.Rows.{row_count, board_of}
use Rattle.board.specs.WatchList.{all_valid, distinct}
use Rattle.sender.specs.State.{fresh_sender, holding}
use Rattle.sender.specs.Events.{send_of}
use Rattle.sender.specs.declared.state.Answer.TheVariants as says
use Rattle.sender.specs.declared.state.Answer.TheVariants.{Sent, Repeated, Dropped}
use Rattle.display.specs.Display as display
use Rattle.display.specs.Sending.{with_sender}
use Rattle.display.specs.declared.Answer.TheVariants.{Heard}
use Rattle.display.specs.declared.Display.{Display}
use Rattle.ledger.specs.Answers.{one_by_one, Call, piece, send, timeout}
use Rattle.ledger.specs.Calls.{given}
use Rattle.ledger.specs.Sending.{send_step, timeout_step}
use Rattle.ledger.specs.SentFrames.{held, acknowledged, dropped, status_of, repeats_sent, drops_reported, sequences_sent, sequence_at}
use Rattle.ledger.specs.Shown.{Left, took, outgoing}
use Rattle.ledger.proofs.Chain.{Begins, Chain, done, sends}
use Rattle.ledger.proofs.EveryListRuns.{sent_by_law, every_list_runs}
use Rattle.ledger.proofs.FreshStarts.{good_names_begin}
use Rattle.ledger.proofs.NeverLost.{NeverLost, never_lost}
use Rattle.ledger.proofs.EveryList.{agreeing}
use Rattle.answers.specs.Table.{h1}
use Rattle.answers.proofs.Steps.{packet_steps, frame_steps, ledger_steps}

abbrev names : List (List ℕ)
names = h1 ∷ []

-- our first frame, with the payload 41: type 01, sequence 00
abbrev first : List ℕ
first = 0x7e ∷ 0x01 ∷ 0x00 ∷ 0x41 ∷ 0xa3 ∷ 0x49 ∷ 0x7e ∷ []

-- and the second one, without a payload
abbrev second : List ℕ
second = 0x7e ∷ 0x01 ∷ 0x01 ∷ 0x3e ∷ 0x1f ∷ 0x7e ∷ []

abbrev room : ℕ → List ℕ
room size = replicate size 0

-- A frame that is never acknowledged: exact room, a byte too little, both repeats, the third timeout and one more, which ask no room; then
-- the next frame, of six bytes.
abbrev lost : List Call
lost =
    send (0x41 ∷ []) (room 7) ∷ timeout (room 6) ∷ timeout (room 7) ∷ timeout (room 7) ∷ timeout [] ∷ timeout [] ∷ send [] (room 6) ∷ []

abbrev lost_left : List Left
lost_left =
    outgoing (Sent 0 7) first
    ∷ outgoing (says.Refused short_output) (room 6)
    ∷ outgoing (Repeated 0 7) first
    ∷ outgoing (Repeated 0 7) first
    ∷ outgoing (Dropped 0) []
    ∷ outgoing says.Nothing []
    ∷ outgoing (Sent 1 6) second
    ∷ []

-- THEOREM. Every display that watches h1 and is given these calls answers them so.
pub lost_told : (d end : Display) (left : List Left) → Begins (one_by_one names) d → Chain d lost left end → left ≡ lost_left
unfolding frame_steps ledger_steps given send_step timeout_step
lost_told d end left begins chain = (agreeing {w = one_by_one names} {names = names} refl begins chain).all.gives ∙ refl

-- A frame that is acknowledged: while it waits a send is refused with 25, also one of 384 bytes into no room, and another acknowledgement
-- frees nothing. Free again, 384 bytes are refused with 8, also into no room.
abbrev call : List ℕ → Call
call string = piece string (room 9) (room 383)

abbrev heard : List Call
heard =
    send (0x41 ∷ []) (room 8)
    ∷ send (replicate 384 0) []
    ∷ call (0x7e ∷ 0x02 ∷ 0x01 ∷ 0x6b ∷ 0x4c ∷ 0x7e ∷ [])
    ∷ timeout (room 7)
    ∷ call (0x02 ∷ 0x00 ∷ 0x7b ∷ 0x6d ∷ 0x7e ∷ [])
    ∷ send (replicate 384 0) []
    ∷ []

abbrev heard_left : List Left
heard_left =
    outgoing (Sent 0 7) (0x7e ∷ 0x01 ∷ 0x00 ∷ 0x41 ∷ 0xa3 ∷ 0x49 ∷ 0x7e ∷ 0 ∷ [])
    ∷ outgoing (says.Refused frame_waiting) []
    ∷ took 6 (Heard 1) (room 9) (room 383)
    ∷ outgoing (Repeated 0 7) first
    ∷ took 5 (Heard 0) (room 9) (room 383)
    ∷ outgoing (says.Refused long_payload) []
    ∷ []

-- THEOREM. Every display that watches h1 and is given these calls answers them so.
pub heard_told : (d end : Display) (left : List Left) → Begins (one_by_one names) d → Chain d heard left end → left ≡ heard_left
unfolding frame_steps ledger_steps given send_step timeout_step
heard_told d end left begins chain = (agreeing {w = one_by_one names} {names = names} refl begins chain).all.gives ∙ refl

-- a fresh start, and the first send
abbrev fresh : Display
fresh = display.fresh (board_of row_count names)

begins : Begins (one_by_one names) fresh
unfolding packet_steps all_valid distinct
begins = good_names_begin names (record { valid = refl; once = refl; few = omega arith })

sent_first : Chain fresh (send (0x41 ∷ []) (room 7) ∷ []) (outgoing (Sent 0 7) first ∷ []) (with_sender fresh (holding fresh_sender (0x41 ∷ [])))
unfolding frame_steps send_of fresh_sender write_frame write_content fitted
sent_first = sends (sent_by_law fresh (0x41 ∷ []) (room 7)) done

-- THEOREM. Behind this send whatever calls may come: all that `never_lost` asks is met, so the frame is held, acknowledged or reported.
pub first_accounted : (more : List Call)
    → let behind = with_sender fresh (holding fresh_sender (0x41 ∷ [])) in
    NeverLost 0 (0x41 ∷ []) first (every_list_runs behind more).left (every_list_runs behind more).end
first_accounted more =
    let behind = with_sender fresh (holding fresh_sender (0x41 ∷ [])) in
    never_lost names (one_by_one names) refl fresh begins [] [] fresh done (0x41 ∷ []) (room 7) 0 7 first behind sent_first more _ _ (every_list_runs behind more).chain

-- each status, read off what the calls behind a send left; another frame, its repeats, its drop and another acknowledgement tell nothing of
-- this one
pub record Statuses : Type 0 where
  pub waits : status_of 0 0 [] ≡ held 0
  pub waits_repeated : status_of 0 0 (outgoing (Repeated 0 7) first ∷ took 6 (Heard 1) (room 9) (room 383) ∷ []) ≡ held 1
  pub is_heard :
      status_of 0 0 (outgoing (Repeated 0 7) first ∷ took 5 (Heard 0) (room 9) (room 383) ∷ outgoing (says.Refused long_payload) [] ∷ []) ≡ acknowledged 1
  pub others : status_of 0 0 (outgoing (Sent 1 6) second ∷ outgoing (Repeated 1 6) second ∷ outgoing (Dropped 1) [] ∷ outgoing says.Nothing [] ∷ []) ≡ held 0
  pub is_dropped : status_of 0 0 (outgoing (Repeated 0 7) first ∷ outgoing (Repeated 0 7) first ∷ outgoing (Dropped 0) [] ∷ []) ≡ dropped 2

pub statuses : Statuses
unfolding status_of
statuses = record { waits = refl; waits_repeated = refl; is_heard = refl; others = refl; is_dropped = refl }

-- what is read off these calls: the sequences sent, the repeats up to the next frame, and the drops reported up to it
pub record ReadOff : Type 0 where
  pub sequences_sent_law : sequences_sent lost_left ≡ 0 ∷ 1 ∷ []
  pub repeats : repeats_sent (outgoing (Repeated 0 7) first ∷ took 6 (Heard 1) (room 9) (room 383) ∷ outgoing (Repeated 0 7) first ∷ outgoing (Sent 1 6) second ∷ outgoing (Repeated 1 6) second ∷ []) ≡ first ∷ first ∷ []
  pub drops : drops_reported (outgoing (Dropped 0) [] ∷ outgoing says.Nothing [] ∷ outgoing (Sent 1 6) second ∷ outgoing (Dropped 1) [] ∷ []) ≡ 0 ∷ []

pub read_off : ReadOff
unfolding sequences_sent repeats_sent drops_reported
read_off = record { sequences_sent_law = refl; repeats = refl; drops = refl }

-- the sequences of the first frames, of the 255th to the 257th, and of the 511th and the 512th
pub record Sequences : Type 0 where
  pub first_ones : (sequence_at 0 ≡ 0) × ((sequence_at 1 ≡ 1) × (sequence_at 2 ≡ 2))
  pub at_the_end : (sequence_at 254 ≡ 254) × ((sequence_at 255 ≡ 255) × (sequence_at 256 ≡ 1))
  pub later : (sequence_at 510 ≡ 255) × (sequence_at 511 ≡ 1)

pub sequences : Sequences
sequences = record { first_ones = (refl, (refl, refl)); at_the_end = (refl, (refl, refl)); later = (refl, refl) }
