-- 01, The ledger: what a call does to it, and what it answers.
use Rattle.std.specs.Prelude.{ℕ, Bool, false, cond, ◌||◌, List, [], ◌∷◌, map, eqb, ltb, length}
use Rattle.std.proofs.Math.Option.{Option, some, none}
use Rattle.refusals.specs.Numbers.{short_output, number_of}
use Rattle.refusals.specs.declared.Refusal.{Refusal}
use Rattle.slices.specs.Put.{put_at}
use Rattle.frame.specs.Content.{no_place}
use Rattle.frame.specs.Writing as writing
use Rattle.board.specs.Reading as reading
use Rattle.board.specs.Reading.{Verdict, reading_of}
use Rattle.ledger.specs.Ledger.{Counts, Ledger, with_line, with_sender, with_entries, name_of, plus_new, plus_again, plus_heard, plus_unread, plus_refused, updated, older_entry}
use Rattle.ledger.specs.Answers.{Call, piece, tick, send, timeout, Answer, nothing, refused, heard, again, new, Given, took, ticked, outgoing}
use Rattle.ledger.specs.Sending.{SenderStep, acknowledged, send_step, timeout_step}
use Rattle.ledger.specs.Frames as frames
use Rattle.ledger.specs.Frames.{Frame, Taken, taken, acknowledgement_type, frame_of}

-- what a frame does: the ledger after it, the answer, and the bytes put at the start of the reply and of the packet buffer
pub record Effect : Type 0 where
  pub ledger : Ledger
  pub answer : Answer
  pub reply : List ℕ
  pub packet : List ℕ

abbrev pub with_counts : Ledger → Counts → Ledger
with_counts l counts = with_line l (record { run = l.line.run; sequence = l.line.sequence; counts = counts })

-- refused: its count plus 1. 02, C-16: the answer has the place.
abbrev pub refused_frame : Ledger → Refusal → ℕ → Effect
refused_frame l n place =
    record { ledger = with_counts l (plus_refused (number_of n) l.line.counts); answer = refused n place; reply = []; packet = [] }

-- type 02: heard plus 1. 02, C-13: one of its sequence frees the frame that our sender holds.
abbrev pub heard_frame : Ledger → ℕ → Effect
heard_frame l sequence =
    record {
      ledger = with_sender (with_counts l (plus_heard l.line.counts)) (acknowledged l.sender sequence);
      answer = heard sequence;
      reply = [];
      packet = [];
    }

-- a good data frame is answered by type 02, the same sequence, no payload
abbrev pub answer_to : ℕ → List ℕ
answer_to sequence = writing.frame_of acknowledgement_type sequence []

-- with the last sequence, not 0, it is repeated at once: again plus 1
abbrev pub repeated : Option ℕ → ℕ → Bool
repeated none sequence = false
repeated (some before) sequence = cond (eqb sequence 0) false (eqb sequence before)

abbrev pub repeated_frame : Ledger → ℕ → Effect
repeated_frame l sequence =
    record {
      ledger = with_counts l (plus_again l.line.counts);
      answer = again sequence;
      reply = answer_to sequence;
      packet = [];
    }

-- refused by the board, unread plus 1; end mark, nothing; all else is an accepted update, 0 ticks old
abbrev pub after_reading : Ledger → Verdict → Ledger
after_reading l (reading.refused n) =
    with_counts l (plus_unread l.line.counts)
after_reading l (reading.end_mark id) = l
after_reading l (reading.update id name value) = with_entries l (updated name value l.hives.entries)

-- else new plus 1, its sequence is the last
abbrev pub after_new : Ledger → ℕ → Ledger
after_new l sequence = with_line l (record { run = l.line.run; sequence = some sequence; counts = plus_new l.line.counts })

-- its payload is handed up and read at once by the board rules
abbrev pub reading_by : Ledger → List ℕ → Verdict
reading_by l payload = reading_of (map name_of l.hives.entries) payload

abbrev pub new_frame : Ledger → ℕ → List ℕ → Effect
new_frame l sequence payload =
    record {
      ledger = after_reading (after_new l sequence) (reading_by l payload);
      answer = new sequence payload (reading_by l payload);
      reply = answer_to sequence;
      packet = payload;
    }

abbrev pub closed : Ledger → Frame → Effect
closed l (frames.refused n place) = refused_frame l n place
closed l (frames.acknowledgement sequence) = heard_frame l sequence
closed l (frames.good sequence payload) =
    cond (repeated l.line.sequence sequence) (repeated_frame l sequence) (new_frame l sequence payload)

-- a piece with the frame that it closed, if it closed one
abbrev pub effect_of : Ledger → Option (List ℕ) → Effect
effect_of l none = record { ledger = l; answer = nothing; reply = []; packet = [] }
effect_of l (some run) = closed l (frame_of run)

abbrev pub with_run : Ledger → Option (List ℕ) → Ledger
with_run l run = with_line l (record { run = run; sequence = l.line.sequence; counts = l.line.counts })

-- tick: 1 more on each name's ticks
abbrev pub after_tick : Ledger → Ledger
after_tick l = with_entries l (map older_entry l.hives.entries)

-- a step: what is given, and the ledger after it
pub record Step : Type 0 where
  pub given : Given
  pub ledger : Ledger

abbrev pub piece_step : Ledger → Taken → List ℕ → List ℕ → Step
piece_step l t reply packet =
    let effect = effect_of (with_run l t.run) t.frame in
    record {
      given = took t.count effect.answer (put_at reply 0 effect.reply) (put_at packet 0 effect.packet);
      ledger = effect.ledger;
    }

-- the least room of a reply and of a packet buffer
abbrev pub reply_room : ℕ
reply_room = 9

abbrev pub packet_room : ℕ
packet_room = 383

-- short buffer: refusal 7, 0 taken, no change
abbrev pub short_step : Ledger → List ℕ → List ℕ → Step
short_step l reply packet = record { given = took 0 (refused short_output no_place) reply packet; ledger = l }

-- 02, C-13: a send or a timeout; what goes out stands at the start of the output
abbrev pub sender_step : Ledger → SenderStep → List ℕ → Step
sender_step l s output = record { given = outgoing s.answer (put_at output 0 s.output); ledger = with_sender l s.sender }

unfoldable pub step : Ledger → Call → Step
step l (piece bytes reply packet) =
    cond (ltb (length reply) reply_room || ltb (length packet) packet_room) (short_step l reply packet) (piece_step l (taken l.line.run bytes 0) reply packet)
step l tick = record { given = ticked; ledger = after_tick l }
step l (send payload output) = sender_step l (send_step l.sender payload (length output)) output
step l (timeout output) = sender_step l (timeout_step l.sender (length output)) output

-- the whole list of calls: all that is given, in order, and the ledger afterwards
unfoldable pub given : Ledger → List Call → List Given
given l [] = []
given l (c ∷ cs) = (step l c).given ∷ given (step l c).ledger cs

unfoldable pub after : Ledger → List Call → Ledger
after l [] = l
after l (c ∷ cs) = after (step l c).ledger cs
