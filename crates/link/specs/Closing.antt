-- 01, The receiver: what a frame does once the flag behind it is met.
use Rattle.std.specs.Prelude.{ℕ, Option, Some, None, Ok, Err, Bool, false, cond, List, [], length, take, ◌==◌}
use Rattle.refusals.specs.Numbers.{unknown_type, loaded_acknowledgement, number_of}
use Rattle.refusals.specs.declared.Refusal.{Refusal}
use Rattle.frame.specs.Content as content
use Rattle.frame.specs.Content.{data_type, acknowledgement_type, no_place, judged}
use Rattle.frame.specs.Writing.{frame_of}
use Rattle.frame.specs.Answers.{fault_at}
use Rattle.link.specs.declared.counts.Counts.{Counts}
use Rattle.link.specs.declared.counts.Event.TheVariants as event
use Rattle.link.specs.declared.receiver.Answer.{Answer}
use Rattle.link.specs.declared.receiver.Answer.TheVariants as says
use Rattle.link.specs.Counts.{count_of}
use Rattle.link.specs.Reader.{Ended}

-- a reply buffer has at least 9 bytes: an acknowledgement's six, and three that may be escaped
abbrev pub reply_room : ℕ
reply_room = 9

-- type 01 is answered by type 02, the same sequence, no payload
unfoldable pub acknowledgement : ℕ → List ℕ
acknowledgement sequence = frame_of acknowledgement_type sequence []

-- equal to the previous data frame's sequence, and not 0. The first data frame is new with any sequence.
abbrev pub repeats : Option ℕ → ℕ → Bool
repeats None sequence = false
repeats (Some previous) sequence = cond (sequence == 0) false (sequence == previous)

-- what a closed frame leaves: the last sequence and the counts, the answer, and the bytes put at the start of the reply and
-- of the packet buffer
pub record Outcome : Type 0 where
  pub last : Option ℕ
  pub counts : Counts
  pub answer : Answer
  pub reply : List ℕ
  pub packet : List ℕ

-- 01, Refusal numbers: a frame refused by 1 to 6 adds one to its count. 02, C-16: the receiver hands its place on.
abbrev pub refused_frame : Refusal → ℕ → Option ℕ → Counts → Outcome
refused_frame n place previous before =
    record { last = previous; counts = count_of (event.Refused (number_of n)) before; answer = says.Refused (fault_at n place); reply = []; packet = [] }

-- a valid type 02 is heard, with its sequence reported; with a payload it is refusal 6
abbrev pub acknowledgement_frame : ℕ → ℕ → Option ℕ → Counts → Outcome
acknowledgement_frame sequence size previous before =
    cond (size == 0)
    (record { last = previous; counts = count_of event.Heard before; answer = says.Heard sequence; reply = []; packet = [] })
    (refused_frame loaded_acknowledgement no_place previous before)

-- a repeated data frame is answered and dropped: the packet buffer is untouched
abbrev pub again_frame : ℕ → Option ℕ → Counts → Outcome
again_frame sequence previous before =
    record {
      last = previous;
      counts = count_of event.Again before;
      answer = says.Again (length (acknowledgement sequence));
      reply = acknowledgement sequence;
      packet = [];
    }

-- otherwise it is new, and its payload is put at the start of the packet buffer
abbrev pub new_frame : ℕ → List ℕ → Counts → Outcome
new_frame sequence payload before =
    record {
      last = Some sequence;
      counts = count_of event.New before;
      answer = says.New (length (acknowledgement sequence)) (length payload);
      reply = acknowledgement sequence;
      packet = payload;
    }

unfoldable pub data_frame : ℕ → List ℕ → Option ℕ → Counts → Outcome
data_frame sequence payload previous before =
    cond (repeats previous sequence) (again_frame sequence previous before) (new_frame sequence payload before)

-- by type: neither 01 nor 02 is refusal 5
abbrev pub read_outcome : content.Read → Option ℕ → Counts → Outcome
read_outcome (content.refused n place) previous before = refused_frame n place previous before
read_outcome (content.frame kind sequence payload) previous before =
    cond (kind == data_type) (data_frame sequence payload previous before)
    (cond (kind == acknowledgement_type) (acknowledgement_frame sequence (length payload) previous before)
    (refused_frame unknown_type no_place previous before))

-- a frame by its whole content: 3 and 4, then 5 and 6
unfoldable pub frame_outcome : List ℕ → Option ℕ → Counts → Outcome
frame_outcome c previous before = read_outcome (judged c) previous before

-- 01, Frames: an empty frame is dropped uncounted; a fault is its refusal; other content is judged
abbrev pub close_of : Ended → List ℕ → Option ℕ → Counts → Outcome
close_of (Ok None) array previous before =
    record { last = previous; counts = before; answer = says.Nothing; reply = []; packet = [] }
close_of (Ok (Some n)) array previous before = frame_outcome (take n array) previous before
close_of (Err fault) array previous before = refused_frame fault.refusal fault.place previous before
