-- 02, C-21: what a frame of the peer's does to the ledger.
use Rattle.std.specs.Prelude.{ℕ, suc, Bool, true, false, cond, ◌&&◌, List, [], ◌∷◌, ◌++◌, eqb, length}
use Rattle.ash.specs.Reading as reading
use Rattle.session.specs.Control.{control_of}
use Rattle.session.specs.declared.control.Kind.{Kind}
use Rattle.session.specs.declared.control.Kind.TheVariants.{Reset, ResetAck, Ack, Nack}
use Rattle.session.specs.declared.control.Control.{Control}
use Rattle.conversation.specs.Ledger.{Ledger, Entry, on_line, cover}
use Rattle.conversation.specs.Events.{Sent, Effect}
use Rattle.conversation.specs.OurEvents.{saying, empty, repeats, restarting}

abbrev pub ignoring : Ledger → Effect
ignoring l = saying l [] [] []

-- a frame at fault only gets an empty NACK with the last good OFC
abbrev pub nacking : Ledger → Effect
nacking l = saying l (empty Nack l ∷ []) [] []

-- good data is handed up and gets an empty ACK, behind what is sent again
abbrev pub ack_for : Ledger → List ℕ → List Sent
ack_for l [] = []
ack_for l (b ∷ bs) = empty Ack l ∷ []

abbrev pub answering : Ledger → List Sent → List ℕ → Effect
answering l before payload = saying l (before ++ ack_for l payload) payload []

-- a RESET is 1/0 without payload. It gets RESET ACK 1/1, and does not end the wait
abbrev pub good_reset : Control → List ℕ → Bool
good_reset c payload = eqb (length payload) 0 && (eqb c.number.0 1 && eqb c.acknowledged.0 0)

unfoldable pub hear_reset : Ledger → Control → List ℕ → Effect
hear_reset l c payload = cond (good_reset c payload) (restarting ResetAck l 1 l.awaiting) (nacking l)

-- the number of the peer's frame, which the last good one becomes
abbrev pub hear : Ledger → ℕ → List Entry → Ledger
hear l good entries = record { entries = entries; counter = l.counter; good = good; awaiting = false }

-- an awaited RESET ACK is good only as 1/1 empty or 2/1 with data; one not awaited is ignored
abbrev pub reset_ack_good : List ℕ → ℕ
reset_ack_good [] = 1
reset_ack_good (b ∷ bs) = 2

abbrev pub good_reset_ack : Control → List ℕ → Bool
good_reset_ack c payload = eqb c.acknowledged.0 1 && eqb c.number.0 (reset_ack_good payload)

unfoldable pub hear_reset_ack : Ledger → Control → List ℕ → Effect
hear_reset_ack l c payload =
    cond l.awaiting (cond (good_reset_ack c payload) (answering (hear l (reset_ack_good payload) l.entries) [] payload) (nacking l)) (ignoring l)

-- data is good whose OFC is next; without data the OFC is not looked at and the last good number stays
abbrev pub good_next : Ledger → List ℕ → ℕ
good_next l [] = l.good
good_next l (b ∷ bs) = suc l.good

abbrev pub is_next : Ledger → Control → List ℕ → Bool
is_next l c [] = true
is_next l c (b ∷ bs) = eqb c.number.0 (on_line (suc l.good))

-- a NACK sends those still held again, before any ACK
abbrev pub repeats_if : Bool → Ledger → List Sent
repeats_if true l = repeats l
repeats_if false l = []

-- ACK and NACK are ignored until RESET ACK; they cover the held frames up to the one that they name
unfoldable pub hear_reply : Ledger → Control → Bool → List ℕ → Effect
hear_reply l c nack payload =
    let next = hear l (good_next l payload) (cover c.acknowledged.0 l.entries) in
    cond l.awaiting (ignoring l) (cond (is_next l c payload) (answering next (repeats_if nack next) payload) (nacking l))

abbrev pub by_kind : Kind → Ledger → Control → List ℕ → Effect
by_kind Reset l c payload = hear_reset l c payload
by_kind ResetAck l c payload = hear_reset_ack l c payload
by_kind Ack l c payload = hear_reply l c false payload
by_kind Nack l c payload = hear_reply l c true payload

-- a frame refused by C-11 is at fault too
abbrev pub hearing : Ledger → reading.Read → Effect
hearing l (reading.frame control payload) = by_kind (control_of control).kind l (control_of control) payload
hearing l (reading.refused n) = nacking l
