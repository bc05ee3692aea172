-- Cuts of the line do not matter: it is offered piece by piece, and what a call did not take is offered again. The bytes taken are the line,
-- wherever it is cut, and every cutting gets through, since a call with room takes at least one byte.
use mathlib.Core.Path.{◌≡◌, refl, sym, ap, ◌∙◌}
use mathlib.Core.List.{List, [], ◌∷◌, ◌++◌, append_assoc}
use Prim.Native.Nat.{ℕ, zero, suc, ◌≤◌, ◌<◌}
use native.Mathlib.Omega.{arith}
use lib.ListN.{length, take, drop, replicate, length-drop, take-append-drop}
use Rattle.std.specs.Prelude.{Option, None, Result, Ok}
use Rattle.refusals.specs.declared.Refusal.{Refusal}
use Rattle.slices.proofs.Impossible.{impossible}
use Rattle.cutter.specs.Cutting.{Step, goes_on, hands_on, handed_on, frames_from, frames_of}
use Rattle.ash.specs.Size.{frame_max}
use Rattle.cutter.specs.Calls.{place_in, walk_of, Call, call_of, cut_of}
use Rattle.cutter.specs.History.{Offer, Left, line_taken, all_frames, joined}
use Rattle.cutter.specs.declared.state.Cutter.{Cutter}
use Rattle.cutter.specs.declared.state.Cut.{Cut}
use Rattle.cutter.proofs.StreamLaws.{walk_takes}
use Rattle.cutter.proofs.CallLaws.{long_call}
use Rattle.cutter.proofs.Chain.{Cuts, Begins, left_by, Chain, done, cuts, was_cut, cut_by_law}
use Rattle.cutter.proofs.CallAgreement.{takes_all}
use Rattle.cutter.proofs.EveryList.{every_list, Alike, same_line}

-- how much of its piece a call takes: all of it where no frame came of it, and nothing behind the byte that made one
pub record CallTakes (cutter : Cutter) (piece : List ℕ) (taken : ℕ) (answer : Result (Option ℕ) Refusal) : Type 0 where
  pub most : taken ≤ length piece
  pub some : 1 ≤ length piece → 1 ≤ taken
  pub no_earlier : (k : ℕ) → k < taken → frames_from (place_in cutter) (take k piece) ≡ []
  pub all : answer ≡ Ok None → taken ≡ length piece

no_frame : (step : Step) (n : ℕ) → (call_of step n).answer ≡ Ok None → handed_on step ≡ []
no_frame (goes_on place) n e = refl
no_frame (hands_on frame place) n e = impossible cc

-- THEOREM. Whatever the state, a call that is lent a buffer of at least 64 bytes takes so much.
pub room_takes : {cutter : Cutter} {piece before after : List ℕ} {result : Cut} → Cuts cutter piece before result after → frame_max ≤ length before
    → CallTakes cutter piece result.taken result.answer
room_takes {cutter} {piece} {before} {result = result} c h =
    let walk = walk_of piece (place_in cutter) 0 in
    let t = walk_takes piece (place_in cutter) 0 in
    let is = long_call cutter piece (length before) h in
    let count : result.taken ≡ t.count =
    ap (λ (r : Cut). r.taken) (was_cut c).answers ∙ ap (λ (x : Call). x.taken) is ∙ takes_all walk.taken walk.last ∙ omega (arith, t.counts) in
    let answer = ap (λ (r : Cut). r.answer) (was_cut c).answers ∙ ap (λ (x : Call). x.answer) is in
    rw (count, answer)
    (record { most = t.within; some = t.some; no_earlier = t.no_earlier; all = λ e. t.all (no_frame walk.last walk.taken e) })

-- a line that is cut into pieces is offered, refused calls among them: each piece, then what of it was not taken, until it is all taken
pub data Feeds : Cutter → List (List ℕ) → List Offer → List Left → Cutter → Type 0 where
  fed : {cutter : Cutter} → Feeds cutter [] [] [] cutter
  all_taken : {cutter end : Cutter} {pieces : List (List ℕ)} {os : List Offer} {left : List Left} → Feeds cutter pieces os left end
      → Feeds cutter ([] ∷ pieces) os left end
  offered : {cutter end : Cutter} {piece before after : List ℕ} {result : Cut} {pieces : List (List ℕ)} {os : List Offer} {left : List Left}
      → Cuts cutter piece before result after → Feeds result.cutter (drop result.taken piece ∷ pieces) os left end
      → Feeds cutter (piece ∷ pieces) (record { piece = piece; buffer = before } ∷ os) (left_by result after ∷ left) end

fed_chain : {cutter end : Cutter} {pieces : List (List ℕ)} {os : List Offer} {left : List Left} → Feeds cutter pieces os left end → Chain cutter os left end
fed_chain fed = done
fed_chain (all_taken rest) = fed_chain rest
fed_chain (offered c rest) = cuts c (fed_chain rest)

-- the bytes taken and those offered again are the piece
rejoined : (n : ℕ) (piece rest : List ℕ) → take n piece ++ (drop n piece ++ rest) ≡ piece ++ rest
rejoined n piece rest =
    sym (append_assoc (take n piece) (drop n piece) rest) ∙ ap (λ (l : List ℕ). l ++ rest) (take-append-drop n piece)

-- THEOREM. The bytes that such calls took are the pieces joined.
pub fed_line : {cutter end : Cutter} {pieces : List (List ℕ)} {os : List Offer} {left : List Left} → Feeds cutter pieces os left end
    → line_taken os left ≡ joined pieces
unfolding line_taken joined
fed_line fed = refl
fed_line (all_taken rest) = fed_line rest
fed_line (offered {piece = piece} {result = result} {pieces = pieces} c rest) =
    ap (λ (l : List ℕ). take result.taken piece ++ l) (fed_line rest) ∙ rejoined result.taken piece (joined pieces)

-- THEOREM. From a fresh state a line's frames are handed on, wherever it is cut.
pub fed_frames : {cutter end : Cutter} {pieces : List (List ℕ)} {os : List Offer} {left : List Left} → Begins cutter → Feeds cutter pieces os left end
    → all_frames left ≡ frames_of (joined pieces)
fed_frames b f = (every_list b (fed_chain f)).frames ∙ ap frames_of (fed_line f)

-- THEOREM. So two ways to cut the same line are alike in frames, in the state that they leave, and in all that comes behind.
pub cuts_do_not_matter : {cutter cutter₁ end end₁ : Cutter} {pieces pieces₁ : List (List ℕ)} {os os₁ : List Offer} {left left₁ : List Left}
    → Begins cutter → Begins cutter₁ → joined pieces ≡ joined pieces₁
    → Feeds cutter pieces os left end → Feeds cutter₁ pieces₁ os₁ left₁ end₁ → Alike left left₁ end end₁
cuts_do_not_matter b b₁ same f f₁ = same_line b b₁ (fed_chain f) (fed_chain f₁) (fed_line f ∙ same ∙ sym (fed_line f₁))

-- calls that take a line
pub record Fed (cutter : Cutter) (pieces : List (List ℕ)) : Type 0 where
  pub os : List Offer
  pub left : List Left
  pub end : Cutter
  pub feeds : Feeds cutter pieces os left end

-- a piece is taken in at most as many calls as it has bytes
module _ (pieces : List (List ℕ)) (behind : (cutter : Cutter) → Fed cutter pieces) where
  nothing_left : (cutter : Cutter) → Fed cutter ([] ∷ pieces)
  nothing_left cutter =
      let rest = behind cutter in
      record { os = rest.os; left = rest.left; end = rest.end; feeds = all_taken rest.feeds }

  offer : (n : ℕ) (piece : List ℕ) → length piece ≤ suc n → (cutter : Cutter)
      → ((rest : List ℕ) → length rest ≤ n → (cutter₁ : Cutter) → Fed cutter₁ (rest ∷ pieces)) → Fed cutter (piece ∷ pieces)
  offer n [] few cutter again = nothing_left cutter
  offer n (b ∷ bs) few cutter again =
      let first = cut_by_law cutter (b ∷ bs) (replicate frame_max 0) in
      let call = cut_of cutter (b ∷ bs) frame_max in
      let takes = room_takes first (omega arith) in
      let fewer : length (drop call.taken (b ∷ bs)) ≤ n = omega (arith, length-drop call.taken (b ∷ bs), takes.some (omega arith)) in
      let rest = again (drop call.taken (b ∷ bs)) fewer call.cutter in
      record { os = _ ∷ rest.os; left = _ ∷ rest.left; end = rest.end; feeds = offered first rest.feeds }

  piece_fed : (n : ℕ) (piece : List ℕ) → length piece ≤ n → (cutter : Cutter) → Fed cutter (piece ∷ pieces)
  piece_fed zero piece few cutter = by_bytes piece few
    where
      by_bytes : (piece : List ℕ) → length piece ≤ 0 → Fed cutter (piece ∷ pieces)
      by_bytes [] few = nothing_left cutter
      by_bytes (b ∷ bs) few = absurd (omega arith)
  piece_fed (suc n) piece few cutter = offer n piece few cutter (λ rest fewer cutter₁. piece_fed n rest fewer cutter₁)

-- THEOREM. From every state there are calls that take any line, wherever it is cut.
pub every_cut : (pieces : List (List ℕ)) (cutter : Cutter) → Fed cutter pieces
every_cut [] cutter = record { os = []; left = []; end = cutter; feeds = fed }
every_cut (piece ∷ pieces) cutter = piece_fed pieces (λ cutter₁. every_cut pieces cutter₁) (length piece) piece (omega arith) cutter
