-- 02, C-13: what a send, a timeout and an acknowledgement do to the sender that the ledger holds.
use Rattle.std.specs.Prelude.{ℕ, suc, Bool, true, false, cond, List, [], eqb, ltb, length}
use Rattle.std.proofs.Math.Option.{Option, some, none}
use Rattle.refusals.specs.Numbers.{short_output, long_payload, frame_waiting}
use Rattle.refusals.specs.declared.Refusal.{Refusal}
use Rattle.frame.specs.Content.{payload_max}
use Rattle.frame.specs.Writing as writing
use Rattle.ledger.specs.Ledger.{Held, Sender}
use Rattle.ledger.specs.Frames.{data_type}
use Rattle.ledger.specs.Answers.{Sending, idle, refused, sent, repeated, dropped}

-- our frames have type 01: only those are acknowledged
abbrev pub own_frame : ℕ → List ℕ → List ℕ
own_frame sequence payload = writing.frame_of data_type sequence payload

-- first sequence 0, then 1 to 255, then 1 again
abbrev pub next_sequence : ℕ → ℕ
next_sequence sequence = cond (eqb sequence 255) 1 (suc sequence)

-- the sender after an event, the answer, and the bytes put at the start of the output
pub record SenderStep : Type 0 where
  pub sender : Sender
  pub answer : Sending
  pub output : List ℕ

-- a send: the frame of the next sequence goes out, and is held
abbrev pub sends : Sender → List ℕ → SenderStep
sends s payload =
    record {
      sender = record { next = next_sequence s.next; held = some (record { sequence = s.next; payload = payload; repeats = 0 }) };
      answer = sent s.next payload;
      output = own_frame s.next payload;
    }

-- a timeout event sends the same frame again the first two times; the third drops and reports it
abbrev pub repeats_max : ℕ
repeats_max = 2

abbrev pub sends_again : Sender → Held → SenderStep
sends_again s frame =
    record {
      sender = record { next = s.next; held = some (record { sequence = frame.sequence; payload = frame.payload; repeats = suc frame.repeats }) };
      answer = repeated frame.sequence frame.payload;
      output = own_frame frame.sequence frame.payload;
    }

abbrev pub drops : Sender → Held → SenderStep
drops s frame = record { sender = record { next = s.next; held = none }; answer = dropped frame; output = [] }

-- with nothing held it changes nothing
abbrev pub times_out_from : Option Held → Sender → SenderStep
times_out_from none s = record { sender = s; answer = idle; output = [] }
times_out_from (some frame) s = cond (ltb frame.repeats repeats_max) (sends_again s frame) (drops s frame)

abbrev pub times_out : Sender → SenderStep
times_out s = times_out_from s.held s

-- a refused event changes nothing and sends nothing
abbrev pub refusing : Sender → Refusal → SenderStep
refusing s n = record { sender = s; answer = refused n; output = [] }

-- too little output for the frame going out is 7; an event that sends none asks no room
abbrev pub with_room : ℕ → Sender → SenderStep → SenderStep
with_room room s step = cond (ltb room (length step.output)) (refusing s short_output) step

abbrev pub waiting : Option Held → Bool
waiting none = false
waiting (some frame) = true

-- 25, a frame is still waiting, before 8 and 7
unfoldable pub send_step : Sender → List ℕ → ℕ → SenderStep
send_step s payload room =
    cond (waiting s.held) (refusing s frame_waiting)
    (cond (ltb payload_max (length payload)) (refusing s long_payload) (with_room room s (sends s payload)))

unfoldable pub timeout_step : Sender → ℕ → SenderStep
timeout_step s room = with_room room s (times_out s)

-- an acknowledgement of its sequence frees the held frame; any other changes nothing
abbrev pub held_behind : ℕ → Option Held → Option Held
held_behind sequence none = none
held_behind sequence (some frame) = cond (eqb sequence frame.sequence) none (some frame)

abbrev pub acknowledged : Sender → ℕ → Sender
acknowledged s sequence = record { next = s.next; held = held_behind sequence s.held }
