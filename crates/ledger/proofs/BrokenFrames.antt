-- 02, C-16, of the display: the place in an answer says where the frame broke, counted from the last flag before it, whatever the pieces in which
-- its bytes came. The ledger's run is what came since that flag, and it is read as a whole.
use mathlib.Core.Path.{◌≡◌, refl, ap, ◌∙◌}
use mathlib.Core.Bool.{Bool, true, false, cond}
use mathlib.Core.List.{List, [], ◌∷◌}
use mathlib.Core.Option.{Option, some, none}
use Prim.Native.Nat.{ℕ, ◌≤◌}
use lib.Dec.{eqb}
use lib.ListN.{length}
use Rattle.slices.proofs.Impossible.{impossible}
use Rattle.refusals.specs.Numbers.{bad_framing, long_content, bad_check, unknown_type, loaded_acknowledgement}
use Rattle.refusals.specs.declared.Refusal.{Refusal}
use Rattle.frame.specs.Answers.{fault_at}
use Rattle.frame.specs.Content as content
use Rattle.frame.specs.Content.{no_place}
use Rattle.frame.specs.Places.{BadEscape, PassesLimit, FailsCheck, Places}
use Rattle.frame.specs.Reading.{read_run}
use Rattle.frame.proofs.RunPlaces.{run_places, escape_read, limit_read, check_read}
use Rattle.display.specs.declared.Answer.{Answer}
use Rattle.display.specs.declared.Answer.TheVariants.{Refused}
use Rattle.display.specs.declared.Display.{Display}
use Rattle.ledger.specs.Ledger.{Ledger, start}
use Rattle.ledger.specs.Frames as frames
use Rattle.ledger.specs.Frames.{data_type, acknowledgement_type, taken, by_type, frame_of}
use Rattle.ledger.specs.Answers.{WatchList, names_in, Call, piece}
use Rattle.ledger.specs.Calls.{effect_of, with_run, after, reply_room, packet_room}
use Rattle.ledger.specs.Shown.{as_answer, Left, took}
use Rattle.ledger.proofs.Chain.{Begins, Chain}
use Rattle.ledger.proofs.EveryList.{agreeing}
use Rattle.ledger.proofs.RefusedFrames.{frame_refused}
use Rattle.ledger.proofs.ClosedCalls.{next_gives}

-- refusals 5 and 6 have place 0
no_place_law : (run : List ℕ) (number n : Refusal) (place : ℕ) → (number ≡ bad_framing → ⊥) → (number ≡ long_content → ⊥) → (number ≡ bad_check → ⊥)
    → frames.refused number no_place ≡ frames.refused n place → Places run n place
no_place_law run number n place one two four e =
    let same : number ≡ n = cc in
    let none : place ≡ no_place = cc in
    record {
      of_1 = λ f. absurd (one (same ∙ f));
      of_2 = λ f. absurd (two (same ∙ f));
      of_4 = λ f. absurd (four (same ∙ f));
      of_others = λ f g h. none;
    }

frame_places : (run : List ℕ) (n : Refusal) (place : ℕ) → frame_of run ≡ frames.refused n place → Places run n place
unfolding frame_of
frame_places run n place e = by_read (read_run run) refl e
  where
    by_type_law : (sequence : ℕ) (payload : List ℕ) (t u v : Bool)
        → cond t (frames.good sequence payload)
        (cond u (cond v (frames.acknowledgement sequence) (frames.refused loaded_acknowledgement no_place)) (frames.refused unknown_type no_place))
        ≡ frames.refused n place
        → Places run n place
    by_type_law sequence payload true u v e = impossible cc
    by_type_law sequence payload false true true e = impossible cc
    by_type_law sequence payload false true false e = no_place_law run loaded_acknowledgement n place (λ f. impossible cc) (λ f. impossible cc) (λ f. impossible cc) e
    by_type_law sequence payload false false v e = no_place_law run unknown_type n place (λ f. impossible cc) (λ f. impossible cc) (λ f. impossible cc) e

    by_read : (found : content.Read) → read_run run ≡ found → by_type found ≡ frames.refused n place → Places run n place
    by_read (content.refused m at) f e =
        let number : m ≡ n = cc in
        let there : at ≡ place = cc in
        run_places run n place (f ∙ rw (number, there))
    by_read (content.frame kind sequence payload) f e =
        by_type_law sequence payload (eqb kind data_type) (eqb kind acknowledgement_type) (eqb (length payload) 0) e

-- the run that was closed, and where it broke
pub record BrokenFrame (before : Option (List ℕ)) (bytes : List ℕ) (n : Refusal) (place : ℕ) : Type 0 where
  pub run : List ℕ
  pub closed : (taken before bytes 0).frame ≡ some run
  pub places : Places run n place

effect_broken : (names : List (List ℕ)) (l : Ledger) (before : Option (List ℕ)) (bytes : List ℕ) (n : Refusal) (place : ℕ)
    → as_answer names (effect_of l (taken before bytes 0).frame).answer ≡ Refused (fault_at n place) → BrokenFrame before bytes n place
effect_broken names l before bytes n place e = cases (taken before bytes 0).frame refl e
  where
    cases : (frame : Option (List ℕ)) → (taken before bytes 0).frame ≡ frame → as_answer names (effect_of l frame).answer ≡ Refused (fault_at n place) → BrokenFrame before bytes n place
    cases none f e = impossible cc
    cases (some run) f e = record { run = run; closed = f; places = frame_places run n place (frame_refused names n place l (frame_of run) e) }

-- THEOREM (02, C-16). After every list of calls: where the next call has room and is answered by a refusal, the place says where the frame broke that
-- it closed, which began at the last flag, in whichever piece that was.
pub broken_frame : (names : List (List ℕ)) (w : WatchList) → names_in w ≡ some names → (d : Display) → Begins w d
    → (cs : List Call) (left : List Left) (end : Display) → Chain d cs left end
    → (bytes reply packet : List ℕ) → reply_room ≤ length reply → packet_room ≤ length packet → (n : Refusal) (place count : ℕ) (reply₁ packet₁ : List ℕ) (end₁ : Display)
    → Chain end (piece bytes reply packet ∷ []) (took count (Refused (fault_at n place)) reply₁ packet₁ ∷ []) end₁
    → BrokenFrame (after (start names) cs).line.run bytes n place
broken_frame names w listed d begins cs left end chain bytes reply packet r p n place count reply₁ packet₁ end₁ next =
    let l = after (start names) cs in
    let t = taken l.line.run bytes 0 in
    let a = agreeing listed begins chain in
    let gave = next_gives a next r p in
    let said : as_answer names (effect_of (with_run l t.run) t.frame).answer ≡ Refused (fault_at n place) = cc in
    effect_broken names (with_run l t.run) l.line.run bytes n place said

-- the next call with room, after every list of calls, and the run of the frame that it closes
module _ (names : List (List ℕ)) (w : WatchList) (listed : names_in w ≡ some names) (d : Display) (begins : Begins w d)
    (cs : List Call) (left : List Left) (end : Display) (chain : Chain d cs left end)
    (bytes reply packet : List ℕ) (r : reply_room ≤ length reply) (p : packet_room ≤ length packet)
    (run : List ℕ) (closed : (taken (after (start names) cs).line.run bytes 0).frame ≡ some run)
    (count : ℕ) (answer : Answer) (reply₁ packet₁ : List ℕ) (end₁ : Display)
    (next : Chain end (piece bytes reply packet ∷ []) (took count answer reply₁ packet₁ ∷ []) end₁) where
  answered : (n : Refusal) (place : ℕ) → read_run run ≡ content.refused n place → answer ≡ Refused (fault_at n place)
  unfolding frame_of
  answered n place broke =
      let l = after (start names) cs in
      let t = taken l.line.run bytes 0 in
      let a = agreeing listed begins chain in
      let gave = next_gives a next r p in
      let said : answer ≡ as_answer names (effect_of (with_run l t.run) t.frame).answer = cc in
      said ∙ ap (λ (frame : Option (List ℕ)). as_answer names (effect_of (with_run l t.run) frame).answer) closed ∙ rw broke

  -- THEOREM (02, C-16). A frame that broke at a place is answered with that place.
  pub escape_answered : (place : ℕ) → BadEscape run place → answer ≡ Refused (fault_at bad_framing place)
  escape_answered place b = answered bad_framing place (escape_read run place b)

  pub limit_answered : (place : ℕ) → PassesLimit run place → answer ≡ Refused (fault_at long_content place)
  limit_answered place b = answered long_content place (limit_read run place b)

  pub check_answered : (place : ℕ) → FailsCheck run place → answer ≡ Refused (fault_at bad_check place)
  check_answered place b = answered bad_check place (check_read run place b)
