-- A chain of calls: each is given what the last one left, and meets the contract of the function that runs. The contracts are those
-- that the toolchain reads off the source (`Learnt`, `Asked`), so a contract that says less breaks what is built on this.
use Rattle.std.specs.Prelude.{Ok}
use mathlib.Core.Path.{◌≡◌}
use mathlib.Core.List.{List, [], ◌∷◌, ◌++◌}
use Prim.Native.Nat.{ℕ}
use lib.ListN.{length}
use contract.Lifetimes.{Lfts}
use Rattle.slices.proofs.Lent.{Lent, LentOut, InCall}
use Rattle.rows.specs.declared.Board.{Board}
use Rattle.rows.proofs.fresh.Reads as fresh
use Rattle.board.specs.declared.list.Watched.{Watched}
use Rattle.board.proofs.watch.Reads as watch
use Rattle.board.proofs.watch_list.Reads as watch_list
use Rattle.sender.specs.Events.{send_of, timeout_of}
use Rattle.display.specs.Display.{receive_piece, DisplaysAs}
use Rattle.display.specs.Sending.{SendsAs}
use Rattle.display.specs.declared.Display.{Display}
use Rattle.display.specs.declared.Received.{Received}
use Rattle.display.specs.declared.sending.Outgoing.{Outgoing}
use Rattle.display.proofs.receive.Reads as receive
use Rattle.display.proofs.send.Reads as send
use Rattle.display.proofs.start.Reads as start
use Rattle.display.proofs.tick.Reads as tick
use Rattle.display.proofs.timeout.Reads as timeout
use Rattle.ledger.specs.Answers as answers
use Rattle.ledger.specs.Answers.{WatchList, as_bytes, one_by_one, Call}
use Rattle.ledger.specs.Shown.{Left, took, ticked, outgoing}

-- one call of `display::receive`: the slices lent hold the piece and the buffers as they were, and at exit the buffers as they are
pub record Receives (d : Display) (bytes reply packet : List ℕ) (result : Received) (reply₁ packet₁ : List ℕ) : Type 0 where
  pub lifetimes : Lfts 3
  pub piece_lent : Lent bytes
  pub reply_lent : LentOut reply
  pub packet_lent : LentOut packet
  pub reply_left : LentOut reply₁
  pub packet_left : LentOut packet₁
  pub asked : receive.Asked lifetimes (d, (piece_lent.slice, (reply_lent.slice, (packet_lent.slice, tt))))
  pub learnt :
      receive.Learnt lifetimes (d, (piece_lent.slice, (reply_lent.slice, (packet_lent.slice, tt)))) result
      (d, (piece_lent.slice, (reply_left.slice, (packet_left.slice, tt))))

-- one call of `display::send`, and of `display::timeout`: the slices lent hold the payload and the output as it was, and at exit the output as
-- it is
pub record Sends (d : Display) (payload output : List ℕ) (result : Outgoing) (output₁ : List ℕ) : Type 0 where
  pub lifetimes : Lfts 2
  pub payload_lent : Lent payload
  pub output_lent : LentOut output
  pub output_left : LentOut output₁
  pub asked : send.Asked lifetimes (d, (payload_lent.slice, (output_lent.slice, tt)))
  pub learnt :
      send.Learnt lifetimes (d, (payload_lent.slice, (output_lent.slice, tt))) result
      (d, (payload_lent.slice, (output_left.slice, tt)))

pub record TimesOut (d : Display) (output : List ℕ) (result : Outgoing) (output₁ : List ℕ) : Type 0 where
  pub lifetimes : Lfts 1
  pub output_lent : LentOut output
  pub output_left : LentOut output₁
  pub asked : timeout.Asked lifetimes (d, (output_lent.slice, tt))
  pub learnt : timeout.Learnt lifetimes (d, (output_lent.slice, tt)) result (d, (output_left.slice, tt))

-- one call of `display::tick`
abbrev pub Ticks : Display → Display → Type 0
Ticks d d₁ = tick.Learnt tt (d, tt) d₁ (d, tt)

-- one call of `display::start`
abbrev pub Starts : Board → Display → Type 0
Starts board d = start.Learnt tt (board, tt) d (board, tt)

-- one call of `board::watch`, and of `board::watch_list`
abbrev pub Watches : (board : Board) (name : List ℕ) (watched : Watched) → Type 0
Watches board = InCall watch.Asked watch.Learnt (λ name. (board, (name, tt)))

abbrev pub Lists : (fields : List ℕ) (watched : Watched) → Type 0
Lists = InCall watch_list.Asked watch_list.Learnt (λ fields. (fields, tt))

-- A fresh start. A list as bytes: `board::watch_list` accepted it, and `display::start` was given its board. Names one at a time, as
-- `replay` takes them: `rows::fresh`, then `board::watch` accepted each name on the board of those before it, and `display::start` was
-- given the board each time.
pub data Begins : WatchList → Display → Type 0 where
  from_bytes : {fields : List ℕ} {watched : Watched} {d : Display} → Lists fields watched → watched.answer ≡ Ok tt → Starts watched.board d
      → Begins (as_bytes fields) d
  no_names : {board : Board} {d : Display} → fresh.Learnt tt tt board tt → Starts board d → Begins (one_by_one []) d
  one_more : {names : List (List ℕ)} {name : List ℕ} {watched : Watched} {d d₁ : Display} → Begins (one_by_one names) d → Watches d.board name watched
      → watched.answer ≡ Ok tt → Starts watched.board d₁ → Begins (one_by_one (names ++ (name ∷ []))) d₁

pub data Chain : Display → List Call → List Left → Display → Type 0 where
  done : {d : Display} → Chain d [] [] d
  receives : {d d₁ : Display} {bytes reply packet reply₁ packet₁ : List ℕ} {result : Received} {cs : List Call} {left : List Left}
      → Receives d bytes reply packet result reply₁ packet₁ → Chain result.display cs left d₁
      → Chain d (answers.piece bytes reply packet ∷ cs) (took result.taken result.answer reply₁ packet₁ ∷ left) d₁
  ticks : {d d₁ d₂ : Display} {cs : List Call} {left : List Left} → Ticks d d₁ → Chain d₁ cs left d₂ → Chain d (answers.tick ∷ cs) (ticked ∷ left) d₂
  sends : {d d₁ : Display} {payload output output₁ : List ℕ} {result : Outgoing} {cs : List Call} {left : List Left}
      → Sends d payload output result output₁ → Chain result.display cs left d₁
      → Chain d (answers.send payload output ∷ cs) (outgoing result.answer output₁ ∷ left) d₁
  times_out : {d d₁ : Display} {output output₁ : List ℕ} {result : Outgoing} {cs : List Call} {left : List Left}
      → TimesOut d output result output₁ → Chain result.display cs left d₁
      → Chain d (answers.timeout output ∷ cs) (outgoing result.answer output₁ ∷ left) d₁

-- what such a call did, by the contract
pub received : {d : Display} {bytes reply packet reply₁ packet₁ : List ℕ} {result : Received} → Receives d bytes reply packet result reply₁ packet₁
    → DisplaysAs (receive_piece d bytes (length reply) (length packet)) reply packet result reply₁ packet₁
received r =
    rw (r.piece_lent.holds, r.reply_lent.holds, r.packet_lent.holds, r.reply_left.holds, r.packet_left.holds) at r.learnt

pub sent : {d : Display} {payload output output₁ : List ℕ} {result : Outgoing} → Sends d payload output result output₁
    → SendsAs d (send_of d.sender payload (length output)) output result output₁
sent r = rw (r.payload_lent.holds, r.output_lent.holds, r.output_left.holds) at r.learnt

pub timed_out : {d : Display} {output output₁ : List ℕ} {result : Outgoing} → TimesOut d output result output₁
    → SendsAs d (timeout_of d.sender (length output)) output result output₁
timed_out r = rw (r.output_lent.holds, r.output_left.holds) at r.learnt
