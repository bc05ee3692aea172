-- How the code says what the ledger says: its answer, and the bytes left in the buffers that were lent.
use Rattle.std.specs.Prelude.{ℕ, Result, Ok, Err, List, [], ◌∷◌, ◌++◌, length}
use Rattle.refusals.specs.declared.Refusal.{Refusal}
use Rattle.slices.specs.Put.{put_at}
use Rattle.session.specs.Counters.{of_ours}
use Rattle.session.specs.State.{kept}
use Rattle.session.specs.Results.{gave}
use Rattle.session.specs.declared.counters.OFC.{OFC}
use Rattle.session.specs.declared.state.Held.{Held}
use Rattle.session.specs.declared.state.Held.TheVariants.{Nothing, One, Two}
use Rattle.session.specs.declared.state.Session.{Session}
use Rattle.session.specs.declared.state.Done.{Done}
use Rattle.conversation.specs.Ledger.{Ledger, Entry, on_line}
use Rattle.conversation.specs.Events.{Event, reset, send, receive, timeout, Told, refused, told, frames_in, handed_in, line_of}
use Rattle.conversation.specs.Steps.{step}

-- the numbers of none, one or two frames, as they are on the line; there are never more
abbrev pub as_held : List ℕ → Held
as_held [] = Nothing
as_held (a ∷ []) = One (of_ours (on_line a))
as_held (a ∷ b ∷ more) = Two (of_ours (on_line a)) (of_ours (on_line b))

abbrev pub as_answer : Told → Result Done Refusal
as_answer (refused n) = Err n
as_answer (told frames handed dropped) = Ok (gave (length (line_of frames)) (length handed) (as_held dropped))

-- what a call answered, and the output and the payload buffer as it left them; where none is lent it is empty
pub record Left : Type 0 where
  pub answer : Result Done Refusal
  pub output : List ℕ
  pub handed : List ℕ

abbrev pub output_lent : Event → List ℕ
output_lent (reset output) = output
output_lent (send payload output) = output
output_lent (receive frame output buffer) = output
output_lent (timeout output) = output

abbrev pub buffer_lent : Event → List ℕ
buffer_lent (reset output) = []
buffer_lent (send payload output) = []
buffer_lent (receive frame output buffer) = buffer
buffer_lent (timeout output) = []

-- what is sent and what is handed up stands at the start of its buffer, all else stays
abbrev pub leaves : Event → Told → Left
leaves e t =
    record { answer = as_answer t; output = put_at (output_lent e) 0 (line_of (frames_in t)); handed = put_at (buffer_lent e) 0 (handed_in t) }

unfoldable pub given : Ledger → List Event → List Left
given l [] = []
given l (e ∷ es) = leaves e (step l e).says ∷ given (step l e).ledger es

-- a held frame: its number and its data
pub record Kept : Type 0 where
  pub number : OFC
  pub payload : List ℕ

-- the frames that a session holds, oldest first
abbrev pub kept_by : Held → Session → List Kept
kept_by Nothing s = []
kept_by (One older) s = record { number = older; payload = kept s.older } ∷ []
kept_by (Two older newer) s = record { number = older; payload = kept s.older } ∷ record { number = newer; payload = kept s.newer } ∷ []

abbrev pub kept_in : Session → List Kept
kept_in s = kept_by s.held s

abbrev pub as_kept : Entry → Kept
as_kept e = record { number = of_ours (on_line e.number); payload = e.payload }

-- the data of the sends that were accepted, in order, read off the answers
abbrev pub accepted_of : Result Done Refusal → List ℕ → List (List ℕ)
accepted_of (Err n) payload = []
accepted_of (Ok d) payload = payload ∷ []

abbrev pub accepted_in : Event → Left → List (List ℕ)
accepted_in (reset output) left = []
accepted_in (send payload output) left = accepted_of left.answer payload
accepted_in (receive frame output buffer) left = []
accepted_in (timeout output) left = []

unfoldable pub accepted : List Event → List Left → List (List ℕ)
accepted [] left = []
accepted (e ∷ es) [] = []
accepted (e ∷ es) (l ∷ left) = accepted_in e l ++ accepted es left

-- the numbers of the frames that were reported as dropped, in order, read off the answers
abbrev pub reported_by : Held → List OFC
reported_by Nothing = []
reported_by (One older) = older ∷ []
reported_by (Two older newer) = older ∷ newer ∷ []

abbrev pub reported_in : Result Done Refusal → List OFC
reported_in (Err n) = []
reported_in (Ok d) = reported_by d.dropped

unfoldable pub reported : List Left → List OFC
reported [] = []
reported (l ∷ left) = reported_in l.answer ++ reported left
