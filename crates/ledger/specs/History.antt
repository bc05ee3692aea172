-- 01, The ledger: the history is the bytes taken and the ticks, in order, as the calls took them; and what they handed out and answered.
-- 02, C-13: it gains sends and timeouts. Refused events are no part of it.
use Rattle.std.specs.Prelude.{ℕ, Bool, true, false, cond, List, [], ◌∷◌, ◌++◌, map, eqb, take}
use Rattle.refusals.specs.Numbers.{short_output, number_of}
use Rattle.display.specs.declared.Answer.{Answer}
use Rattle.display.specs.declared.Answer.TheVariants.{Nothing, Refused, Heard, Again, New}
use Rattle.sender.specs.declared.state.Answer as sender_answer
use Rattle.sender.specs.declared.state.Answer.TheVariants as sender_says
use Rattle.sender.specs.declared.state.Answer.TheVariants.{Sent, Repeated, Dropped}
use Rattle.ledger.specs.Answers as answers
use Rattle.ledger.specs.Answers.{Call}
use Rattle.ledger.specs.Shown.{Left, took, ticked, outgoing}

pub data Event : Type 0 where
  byte : ℕ → Event
  minute : Event
  send : List ℕ → Event
  timeout : Event

-- the refused events: a piece is one only by 7
abbrev pub refused_piece : Answer → Bool
refused_piece Nothing = false
refused_piece (Refused fault) = eqb (number_of fault.refusal) (number_of short_output)
refused_piece (Heard sequence) = false
refused_piece (Again replied) = false
refused_piece (New replied size verdict) = false

abbrev pub refused_sending : sender_answer.Answer → Bool
refused_sending sender_says.Nothing = false
refused_sending (sender_says.Refused n) = true
refused_sending (Sent sequence length) = false
refused_sending (Repeated sequence length) = false
refused_sending (Dropped sequence) = false

abbrev pub refused_event : Left → Bool
refused_event (took n answer reply packet) = refused_piece answer
refused_event ticked = false
refused_event (outgoing answer output) = refused_sending answer

abbrev pub unless_refused : sender_answer.Answer → Event → List Event
unless_refused answer event = cond (refused_sending answer) [] (event ∷ [])

-- what one call adds to the history: of a piece the bytes that were taken. (A chain has what each call left beside the call; other pairs
-- do not come.)
abbrev pub events_of : Call → Left → List Event
events_of (answers.piece bytes reply packet) (took n answer reply₁ packet₁) = map byte (take n bytes)
events_of (answers.piece bytes reply packet) ticked = []
events_of (answers.piece bytes reply packet) (outgoing answer output) = []
events_of answers.tick left = minute ∷ []
events_of (answers.send payload output) (outgoing answer output₁) = unless_refused answer (send payload)
events_of (answers.send payload output) (took n answer reply packet) = []
events_of (answers.send payload output) ticked = []
events_of (answers.timeout output) (outgoing answer output₁) = unless_refused answer timeout
events_of (answers.timeout output) (took n answer reply packet) = []
events_of (answers.timeout output) ticked = []

unfoldable pub history : List Call → List Left → List Event
history [] left = []
history (c ∷ cs) [] = []
history (c ∷ cs) (l ∷ left) = events_of c l ++ history cs left

-- what is handed out: an acknowledgement for the module, a frame of our own for it, or a packet from it
pub data Handed : Type 0 where
  as_reply : List ℕ → Handed
  as_sent : List ℕ → Handed
  as_packet : List ℕ → Handed

-- it stands at the start of the buffers, as long as the answer says
abbrev pub handed_as : Answer → List ℕ → List ℕ → List Handed
handed_as Nothing reply packet = []
handed_as (Refused fault) reply packet = []
handed_as (Heard sequence) reply packet = []
handed_as (Again replied) reply packet = as_reply (take replied reply) ∷ []
handed_as (New replied size verdict) reply packet = as_reply (take replied reply) ∷ as_packet (take size packet) ∷ []

abbrev pub sent_as : sender_answer.Answer → List ℕ → List Handed
sent_as sender_says.Nothing output = []
sent_as (sender_says.Refused n) output = []
sent_as (Sent sequence length) output = as_sent (take length output) ∷ []
sent_as (Repeated sequence length) output = as_sent (take length output) ∷ []
sent_as (Dropped sequence) output = []

abbrev pub handed_left : Left → List Handed
handed_left (took n answer reply packet) = handed_as answer reply packet
handed_left ticked = []
handed_left (outgoing answer output) = sent_as answer output

-- all replies, frames of our own and packets of a list of calls, in order
unfoldable pub all_handed : List Left → List Handed
all_handed [] = []
all_handed (left ∷ more) = handed_left left ++ all_handed more

-- the strings of one sort among them
unfoldable pub among : (Handed → List (List ℕ)) → List Handed → List (List ℕ)
among sort [] = []
among sort (handed ∷ more) = sort handed ++ among sort more

-- 02, C-13: replies gain the frames sent
abbrev pub reply_in : Handed → List (List ℕ)
reply_in (as_reply bytes) = bytes ∷ []
reply_in (as_sent bytes) = bytes ∷ []
reply_in (as_packet bytes) = []

abbrev pub packet_in : Handed → List (List ℕ)
packet_in (as_reply bytes) = []
packet_in (as_sent bytes) = []
packet_in (as_packet bytes) = bytes ∷ []

abbrev pub replies_handed : List Handed → List (List ℕ)
replies_handed handed = among reply_in handed

abbrev pub packets_handed : List Handed → List (List ℕ)
packets_handed handed = among packet_in handed

-- the answers that do not depend on where a piece was cut: all but "nothing", and refusal 7, after which nothing was taken
abbrev pub answers_as : Answer → List Answer
answers_as Nothing = []
answers_as (Refused fault) = cond (refused_piece (Refused fault)) [] (Refused fault ∷ [])
answers_as (Heard sequence) = Heard sequence ∷ []
answers_as (Again replied) = Again replied ∷ []
answers_as (New replied size verdict) = New replied size verdict ∷ []

-- an answer of a piece, or of a send or a timeout that was not refused
pub data Told : Type 0 where
  of_piece : Answer → Told
  of_sender : sender_answer.Answer → Told

abbrev pub sending_told : sender_answer.Answer → List Told
sending_told answer = cond (refused_sending answer) [] (of_sender answer ∷ [])

abbrev pub answers_left : Left → List Told
answers_left (took n answer reply packet) = map of_piece (answers_as answer)
answers_left ticked = []
answers_left (outgoing answer output) = sending_told answer

-- all such answers of a list of calls, in order
unfoldable pub all_answers : List Left → List Told
all_answers [] = []
all_answers (left ∷ more) = answers_left left ++ all_answers more
