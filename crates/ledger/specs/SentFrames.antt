-- 02, C-13, in the owner's words: what became of a frame that was sent, how often it was sent again, and which sequences were sent. All of it
-- is read off what the calls answered and left in the output.
use Rattle.std.specs.Prelude.{ℕ, Some, zero, suc, ◌%◌, ◌≤◌, ◌≡◌, cond, List, [], ◌∷◌, ◌++◌, eqb, take}
use Rattle.sender.specs.State.{kept}
use Rattle.sender.specs.declared.state.Answer as sender_answer
use Rattle.sender.specs.declared.state.Answer.TheVariants as sender_says
use Rattle.sender.specs.declared.state.Answer.TheVariants.{Sent, Repeated, Dropped}
use Rattle.sender.specs.declared.state.Sender as sender
use Rattle.display.specs.declared.Answer.{Answer}
use Rattle.display.specs.declared.Answer.TheVariants.{Nothing, Refused, Heard, Again, New}
use Rattle.ledger.specs.Shown.{Left, took, ticked, outgoing}

-- what a call tells of the frame of a sequence
pub data Notice : Type 0 where
  untold : Notice
  sent_again : Notice
  heard : Notice
  reported : Notice

abbrev pub notice_of_piece : ℕ → Answer → Notice
notice_of_piece sequence Nothing = untold
notice_of_piece sequence (Refused fault) = untold
notice_of_piece sequence (Heard other) = cond (eqb other sequence) heard untold
notice_of_piece sequence (Again replied) = untold
notice_of_piece sequence (New replied size verdict) = untold

abbrev pub notice_of_sender : ℕ → sender_answer.Answer → Notice
notice_of_sender sequence sender_says.Nothing = untold
notice_of_sender sequence (sender_says.Refused n) = untold
notice_of_sender sequence (Sent other length) = untold
notice_of_sender sequence (Repeated other length) = cond (eqb other sequence) sent_again untold
notice_of_sender sequence (Dropped other) = cond (eqb other sequence) reported untold

abbrev pub notice_of : ℕ → Left → Notice
notice_of sequence (took n answer reply packet) = notice_of_piece sequence answer
notice_of sequence ticked = untold
notice_of sequence (outgoing answer output) = notice_of_sender sequence answer

-- what became of it, with how often it was sent again: it is held, it was acknowledged, or it was reported as dropped
pub data Status : Type 0 where
  held : ℕ → Status
  acknowledged : ℕ → Status
  dropped : ℕ → Status

abbrev pub status_behind : Notice → ℕ → (ℕ → Status) → Status
status_behind untold repeats rest = rest repeats
status_behind sent_again repeats rest = rest (suc repeats)
status_behind heard repeats rest = acknowledged repeats
status_behind reported repeats rest = dropped repeats

unfoldable pub status_of : ℕ → ℕ → List Left → Status
status_of sequence repeats [] = held repeats
status_of sequence repeats (left ∷ more) = status_behind (notice_of sequence left) repeats (λ again. status_of sequence again more)

abbrev pub repeats_in : Status → ℕ
repeats_in (held repeats) = repeats
repeats_in (acknowledged repeats) = repeats
repeats_in (dropped repeats) = repeats

-- a report of a drop has the sequence
abbrev pub reports_in : ℕ → Status → List ℕ
reports_in sequence (held repeats) = []
reports_in sequence (acknowledged repeats) = []
reports_in sequence (dropped repeats) = sequence ∷ []

-- what each status says of the sender: it holds the frame, so often sent again; or the frame was acknowledged after at most two repeats; or
-- it was dropped after two
abbrev pub AccountedFor : ℕ → List ℕ → Status → sender.Sender → Type 0
AccountedFor sequence payload (held repeats) s = (repeats ≤ 2) × ((s.held ≡ Some (record { sequence = sequence; repeats = repeats })) × (kept s.payload ≡ payload))
AccountedFor sequence payload (acknowledged repeats) s = repeats ≤ 2
AccountedFor sequence payload (dropped repeats) s = repeats ≡ 2

-- up to the next frame that is sent for the first time: the frames that were sent again, and the reports of drops
abbrev pub repeat_behind : sender_answer.Answer → List ℕ → List (List ℕ) → List (List ℕ)
repeat_behind sender_says.Nothing output rest = rest
repeat_behind (sender_says.Refused n) output rest = rest
repeat_behind (Sent sequence length) output rest = []
repeat_behind (Repeated sequence length) output rest = take length output ∷ rest
repeat_behind (Dropped sequence) output rest = rest

unfoldable pub repeats_sent : List Left → List (List ℕ)
repeats_sent [] = []
repeats_sent (took n answer reply packet ∷ more) = repeats_sent more
repeats_sent (ticked ∷ more) = repeats_sent more
repeats_sent (outgoing answer output ∷ more) = repeat_behind answer output (repeats_sent more)

abbrev pub report_behind : sender_answer.Answer → List ℕ → List ℕ
report_behind sender_says.Nothing rest = rest
report_behind (sender_says.Refused n) rest = rest
report_behind (Sent sequence length) rest = []
report_behind (Repeated sequence length) rest = rest
report_behind (Dropped sequence) rest = sequence ∷ rest

unfoldable pub drops_reported : List Left → List ℕ
drops_reported [] = []
drops_reported (took n answer reply packet ∷ more) = drops_reported more
drops_reported (ticked ∷ more) = drops_reported more
drops_reported (outgoing answer output ∷ more) = report_behind answer (drops_reported more)

-- the sequences of the frames that were sent for the first time, in order
abbrev pub sequence_told : sender_answer.Answer → List ℕ
sequence_told sender_says.Nothing = []
sequence_told (sender_says.Refused n) = []
sequence_told (Sent sequence length) = sequence ∷ []
sequence_told (Repeated sequence length) = []
sequence_told (Dropped sequence) = []

unfoldable pub sequences_sent : List Left → List ℕ
sequences_sent [] = []
sequences_sent (took n answer reply packet ∷ more) = sequences_sent more
sequences_sent (ticked ∷ more) = sequences_sent more
sequences_sent (outgoing answer output ∷ more) = sequence_told answer ++ sequences_sent more

-- the first one is 0, then they go from 1 to 255 and from 1 again
abbrev pub sequence_at : ℕ → ℕ
sequence_at zero = 0
sequence_at (suc n) = suc (n % 255)

-- so many of them, from a place on
unfoldable pub sequences_from : ℕ → ℕ → List ℕ
sequences_from place zero = []
sequences_from place (suc more) = sequence_at place ∷ sequences_from (suc place) more
