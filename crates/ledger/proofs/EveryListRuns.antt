-- The theorems on lists of calls are about something: each call can be made as its contract says, from every display, and nothing is asked
-- before it.
use mathlib.Core.Path.{refl}
use mathlib.Core.List.{List, [], ◌∷◌}
use Prim.Native.Nat.{ℕ}
use lib.ListN.{length}
use contract.Lifetimes.{Lfts}
use Rattle.slices.specs.Put.{put_at}
use Rattle.slices.proofs.Lent.{lent, lent_out}
use Rattle.rows.specs.declared.Board.{Board}
use Rattle.rows.proofs.fresh.Reads as fresh
use Rattle.sender.specs.Events.{send_of, timeout_of}
use Rattle.display.specs.Display.{receive_piece, tick_display}
use Rattle.display.specs.Sending.{with_sender, sent_by}
use Rattle.display.specs.declared.Display.{Display}
use Rattle.display.proofs.receive.Reads as receive
use Rattle.display.proofs.send.Reads as send
use Rattle.display.proofs.start.Reads as start
use Rattle.display.proofs.tick.Reads as tick
use Rattle.display.proofs.timeout.Reads as timeout
use Rattle.ledger.specs.Answers as answers
use Rattle.ledger.specs.Answers.{Call}
use Rattle.ledger.specs.Shown.{Left, ticked}
use Rattle.ledger.proofs.Chain.{Receives, Sends, TimesOut, Chain, done, receives, ticks, sends, times_out}

-- from every display there is a chain for every list of calls
pub record Runs (d : Display) (cs : List Call) : Type 0 where
  pub left : List Left
  pub end : Display
  pub chain : Chain d cs left end

pub received_by : (d : Display) (bytes reply packet : List ℕ)
    → Receives d bytes reply packet (receive_piece d bytes (length reply) (length packet)).result
    (put_at reply 0 (receive_piece d bytes (length reply) (length packet)).reply)
    (put_at packet 0 (receive_piece d bytes (length reply) (length packet)).packet)
received_by d bytes reply packet =
    let outcome = receive_piece d bytes (length reply) (length packet) in
    record {
      lifetimes = ([], ([], ([], tt)));
      piece_lent = lent bytes;
      reply_lent = lent_out reply;
      packet_lent = lent_out packet;
      reply_left = lent_out (put_at reply 0 outcome.reply);
      packet_left = lent_out (put_at packet 0 outcome.packet);
      asked = tt;
      learnt = record { answers = refl; replied = refl; handed_out = refl };
    }

pub sent_by_law : (d : Display) (payload output : List ℕ)
    → Sends d payload output (sent_by d (send_of d.sender payload (length output)).outcome) (put_at output 0 (send_of d.sender payload (length output)).output)
sent_by_law d payload output =
    record {
      lifetimes = ([], ([], tt));
      payload_lent = lent payload;
      output_lent = lent_out output;
      output_left = lent_out (put_at output 0 (send_of d.sender payload (length output)).output);
      asked = tt;
      learnt = record { answers = refl; sends = refl };
    }

pub timed_out_by : (d : Display) (output : List ℕ)
    → TimesOut d output (sent_by d (timeout_of d.sender (length output)).outcome) (put_at output 0 (timeout_of d.sender (length output)).output)
timed_out_by d output =
    record {
      lifetimes = ([], tt);
      output_lent = lent_out output;
      output_left = lent_out (put_at output 0 (timeout_of d.sender (length output)).output);
      asked = tt;
      learnt = record { answers = refl; sends = refl };
    }

pub every_list_runs : (d : Display) (cs : List Call) → Runs d cs
every_list_runs d [] = record { left = []; end = d; chain = done }
every_list_runs d (answers.piece bytes reply packet ∷ cs) =
    let first = received_by d bytes reply packet in
    let rest = every_list_runs (receive_piece d bytes (length reply) (length packet)).result.display cs in
    record { left = _ ∷ rest.left; end = rest.end; chain = receives first rest.chain }
every_list_runs d (answers.tick ∷ cs) =
    let rest = every_list_runs (tick_display d) cs in
    record { left = ticked ∷ rest.left; end = rest.end; chain = ticks refl rest.chain }
every_list_runs d (answers.send payload output ∷ cs) =
    let rest = every_list_runs (with_sender d (send_of d.sender payload (length output)).outcome.sender) cs in
    record { left = _ ∷ rest.left; end = rest.end; chain = sends (sent_by_law d payload output) rest.chain }
every_list_runs d (answers.timeout output ∷ cs) =
    let rest = every_list_runs (with_sender d (timeout_of d.sender (length output)).outcome.sender) cs in
    record { left = _ ∷ rest.left; end = rest.end; chain = times_out (timed_out_by d output) rest.chain }

-- Nothing is asked before the next call, whatever came before it.
pub next_piece : (d : Display) (bytes reply packet : List ℕ) (lifetimes : Lfts 3)
    → receive.Asked lifetimes (d, ((lent bytes).slice, ((lent_out reply).slice, ((lent_out packet).slice, tt))))
next_piece d bytes reply packet lifetimes = tt

pub next_send : (d : Display) (payload output : List ℕ) (lifetimes : Lfts 2) → send.Asked lifetimes (d, ((lent payload).slice, ((lent_out output).slice, tt)))
next_send d payload output lifetimes = tt

pub next_timeout : (d : Display) (output : List ℕ) (lifetimes : Lfts 1) → timeout.Asked lifetimes (d, ((lent_out output).slice, tt))
next_timeout d output lifetimes = tt

pub next_tick : (d : Display) → tick.Asked tt (d, tt)
next_tick d = tt

-- nor before a start
pub next_start : (board : Board) → start.Asked tt (board, tt)
next_start board = tt

pub next_fresh : fresh.Asked tt tt
next_fresh = tt
