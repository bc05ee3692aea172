-- A piece keeps display and ledger in agreement, and gives what the ledger gives: the walk over it reaches the same run, and the frame
-- that it closes does the same to both.
use Rattle.std.specs.Prelude as code
use mathlib.Core.Path.{◌≡◌, refl, ap, ap₂, ◌∙◌, subst⁻¹}
use mathlib.Core.List.{List}
use mathlib.Core.Option.{Option, some, none}
use Prim.Native.Nat.{ℕ, ◌≤◌}
use lib.ListN.{length}
use Rattle.slices.specs.Put.{put_at}
use Rattle.frame.specs.Stuffing.{content_max}
use Rattle.frame.specs.Reading.{read_run}
use Rattle.rows.specs.declared.Board.{Board}
use Rattle.board.proofs.NameLaws.{Fits}
use Rattle.link.specs.Closing.{Outcome, close_of}
use Rattle.link.specs.Receiving.{short_call, walk_call}
use Rattle.link.specs.Walk.{Walk, walk_of}
use Rattle.link.specs.declared.counts.Counts as link_counts
use Rattle.link.specs.Reader.{Ended}
use Rattle.link.proofs.OursLaws.{walk_within}
use Rattle.link.proofs.ReceivingLaws.{room_for_both}
use Rattle.link.proofs.WalkLaws.{walk_length}
use Rattle.display.specs.Display.{outcome_of, receive_piece, DisplaysAs}
use Rattle.display.specs.declared.Answer as display_answer
use Rattle.display.specs.declared.Display.{Display}
use Rattle.display.specs.declared.Received.{Received}
use Rattle.ledger.specs.Ledger.{Ledger}
use Rattle.ledger.specs.Frames as frames
use Rattle.ledger.specs.Frames.{Taken, taken, Frame, frame_of}
use Rattle.ledger.specs.Answers.{piece}
use Rattle.ledger.specs.Calls.{effect_of, with_run, Step, piece_step, short_step, step}
use Rattle.ledger.specs.Shown.{as_counts, as_sender, took}
use Rattle.ledger.proofs.RunAgreement.{Standing, Reached, Agreement}
use Rattle.ledger.proofs.FrameOutcomes.{as_last, read_by_type, Shows, EffectsOf}
use Rattle.ledger.proofs.FrameAgreement.{frame_agrees, nothing_agrees}
use Rattle.ledger.specs.OwnFrames.{sender_behind_frame}
use Rattle.ledger.proofs.LineLaws.{run_kept, sender_followed}
use Rattle.ledger.proofs.SenderAgreement.{HeldFits, acknowledged_fits}
use Rattle.ledger.proofs.WalkAgreement.{agree}
use Rattle.ledger.proofs.StepAgreement.{Agrees, Gives}
use Rattle.ledger.proofs.RoomLaws.{by_room, call_short}

-- a piece frees what the sender holds, or leaves it
effect_fits : (l : Ledger) (frame : Option (List ℕ)) → HeldFits l.sender → HeldFits (effect_of l frame).ledger.sender
effect_fits l none fits = fits
effect_fits l (some run) fits = rw (sender_followed l (frame_of run)) (frame_fits (frame_of run))
  where
    frame_fits : (f : Frame) → HeldFits (sender_behind_frame l.sender f)
    frame_fits (frames.refused n place) = fits
    frame_fits (frames.acknowledgement sequence) = acknowledged_fits sequence l.sender fits
    frame_fits (frames.good sequence payload) = fits

effect_run : (l : Ledger) (frame : Option (List ℕ)) → (effect_of l frame).ledger.line.run ≡ l.line.run
effect_run l none = refl
effect_run l (some run) = run_kept l (frame_of run)

standing_reached : (run frame : Option (List ℕ)) (w : Walk) → Reached run frame w → Standing run w.content w.reader
standing_reached run none w r = r.1
standing_reached run (some frame) w r = r.0

same_left : {n n₁ : ℕ} {answer answer₁ : display_answer.Answer} {reply reply₁ packet packet₁ : List ℕ}
    → n ≡ n₁ → answer ≡ answer₁ → reply ≡ reply₁ → packet ≡ packet₁ → took n answer reply packet ≡ took n₁ answer₁ reply₁ packet₁
same_left a b c d = cc

-- what the frame that a walk closed does, if it closed one
module _ {count : ℕ} (names : List (List ℕ)) (fit : Fits names) (l : Ledger) (board : Board) (shows₀ : Shows count names l.hives.entries board)
    (last : code.Option ℕ) (counts : link_counts.Counts) (last_is₀ : last ≡ as_last l.line.sequence) (counts_are₀ : counts ≡ as_counts l.line.counts) where
  walk_effects : (run frame : Option (List ℕ)) (w : Walk) → Reached run frame w
      → EffectsOf count names (as_sender l.sender) board w (close_of w.ended w.content last counts) (effect_of (with_run l run) frame)
  unfolding frame_of
  walk_effects run none w r =
      nothing_agrees names fit w (with_run l run) board shows₀ (close_of w.ended w.content last counts)
      (ap₂ (λ (x : code.Option ℕ) (y : link_counts.Counts). close_of w.ended w.content x y) last_is₀ counts_are₀
      ∙ ap (λ (end : Ended). close_of end w.content (as_last l.line.sequence) (as_counts l.line.counts)) r.0)
  walk_effects run (some frame) w r =
      subst⁻¹ (λ (o : Outcome). EffectsOf count names (as_sender l.sender) board w o (effect_of (with_run l run) (some frame)))
      (ap₂ (λ (x : code.Option ℕ) (y : link_counts.Counts). close_of w.ended w.content x y) last_is₀ counts_are₀
      ∙ r.1 (as_last l.line.sequence) (as_counts l.line.counts)
      ∙ read_by_type (read_run frame) (as_last l.line.sequence) (as_counts l.line.counts))
      (frame_agrees names fit w (with_run l run) board shows₀ (frame_of frame))

-- a call whose buffers have room
module _ {count : ℕ} (names : List (List ℕ)) (fit : Fits names) (l : Ledger) (d : Display) (a : Agrees count names l d) (bytes reply packet : List ℕ) where
  long_agrees : (t : Taken) (w : Walk) → Agreement t w → length w.content ≡ content_max → w.reader.length ≤ content_max
      → (result : Received) (reply₁ packet₁ : List ℕ) → DisplaysAs (outcome_of (as_sender l.sender) d.board (walk_call d.link w)) reply packet result reply₁ packet₁
      → Gives count names (piece_step l t reply packet) (took result.taken result.answer reply₁ packet₁) result.display
  unfolding walk_call
  long_agrees t w both whole within result reply₁ packet₁ does =
      let e = walk_effects names fit l d.board a.shows d.link.last d.link.counts a.last_is a.counts_are t.run t.frame w both.reached in
      let standing = standing_reached t.run t.frame w both.reached in
      let run = effect_run (with_run l t.run) t.frame in
      rw (does.answers, does.replied, does.handed_out)
      (record {
        gives = same_left (e.counted ∙ both.counted) e.answers (ap (put_at reply 0) e.replied) (ap (put_at packet 0) e.handed);
        agrees =
            record {
              ours = record { whole = rw e.content_is whole; within = rw e.reader_is within };
              standing = rw (run, e.content_is, e.reader_is) standing;
              last_is = e.last_is;
              counts_are = e.counts_are;
              sender_is = e.sender_is;
              held_fits = effect_fits (with_run l t.run) t.frame a.held_fits;
              shows = e.shows;
            };
      })

  short_agrees : (result : Received) (reply₁ packet₁ : List ℕ) → DisplaysAs (outcome_of (as_sender l.sender) d.board (short_call d.link)) reply packet result reply₁ packet₁
      → Gives count names (short_step l reply packet) (took result.taken result.answer reply₁ packet₁) result.display
  short_agrees result reply₁ packet₁ does =
      rw (does.answers, does.replied, does.handed_out)
      (record {
        gives = refl;
        agrees =
            record {
              ours = a.ours;
              standing = a.standing;
              last_is = a.last_is;
              counts_are = a.counts_are;
              sender_is = refl;
              held_fits = a.held_fits;
              shows = a.shows;
            };
      })

  pub piece_agrees : (result : Received) (reply₁ packet₁ : List ℕ)
      → DisplaysAs (receive_piece d bytes (length reply) (length packet)) reply packet result reply₁ packet₁
      → Gives count names (step l (piece bytes reply packet)) (took result.taken result.answer reply₁ packet₁) result.display
  unfolding receive_piece
  piece_agrees result reply₁ packet₁ does =
      by_room (λ (s : Step). Gives count names s (took result.taken result.answer reply₁ packet₁) result.display) l bytes reply packet
      (λ short. let is = call_short d bytes reply packet short in short_agrees result reply₁ packet₁ (rw (is, a.sender_is) at does))
      (λ room_for_reply room_for_packet.
      let is = room_for_both d.link bytes (length reply) (length packet) room_for_reply room_for_packet in
      long_agrees (taken l.line.run bytes 0) (walk_of bytes d.link.content d.link.reader 0)
      (agree bytes 0 d.link.content d.link.reader l.line.run a.ours.whole a.ours.within a.standing)
      (walk_length bytes d.link.content d.link.reader 0 ∙ a.ours.whole)
      (walk_within bytes d.link.content d.link.reader 0 a.ours.whole a.ours.within)
      result reply₁ packet₁ (rw (is, a.sender_is) at does))
