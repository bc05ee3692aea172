-- A chain of calls of the cutter: each is given the state that the last one left, and meets the contract of the function that runs. The contracts
-- are those that the toolchain reads off the source (`Learnt`, `Asked`), so a contract that says less breaks what is built on this.
use mathlib.Core.Path.{◌≡◌, refl, sym, ap, ap₂, ◌∙◌}
use mathlib.Core.List.{List, [], ◌∷◌}
use Prim.Native.Nat.{ℕ}
use lib.ListN.{length}
use contract.Lifetimes.{Lfts}
use Rattle.slices.specs.Put.{put_at}
use Rattle.slices.proofs.Lent.{lent, lent_out, InOutCall, in_out_call}
use Rattle.cutter.specs.Calls.{Call, cut_of, cut_by, CutsAs}
use Rattle.cutter.specs.History.{Offer, Left}
use Rattle.cutter.specs.declared.state.Cutter.{Cutter}
use Rattle.cutter.specs.declared.state.Cut.{Cut}
use Rattle.cutter.proofs.cut.Reads as cut
use Rattle.cutter.proofs.fresh.Reads as fresh

-- one call of `cut`: the buffer is lent as it was before, and left as it is after
abbrev pub Cuts : (cutter : Cutter) (piece before : List ℕ) (result : Cut) (after : List ℕ) → Type 0
Cuts cutter = InOutCall cut.Asked cut.Learnt (λ piece buffer. (cutter, (piece, (buffer, tt))))

-- one call of `fresh`
abbrev pub Begins : Cutter → Type 0
Begins cutter = fresh.Learnt tt tt cutter tt

-- what a call left beside the state
abbrev pub left_by : Cut → List ℕ → Left
left_by result after = record { taken = result.taken; answer = result.answer; buffer = after }

pub data Chain : Cutter → List Offer → List Left → Cutter → Type 0 where
  done : {cutter : Cutter} → Chain cutter [] [] cutter
  cuts : {cutter end : Cutter} {piece before after : List ℕ} {result : Cut} {os : List Offer} {left : List Left}
      → Cuts cutter piece before result after → Chain result.cutter os left end
      → Chain cutter (record { piece = piece; buffer = before } ∷ os) (left_by result after ∷ left) end

-- what such a call did, by the contract
pub was_cut : {cutter : Cutter} {piece before after : List ℕ} {result : Cut} → Cuts cutter piece before result after
    → CutsAs (cut_of cutter piece (length before)) before result after
was_cut c = rw (c.input_lent.holds, c.output_lent.holds, c.output_left.holds) at c.learnt

-- The theorems are about something: from every state there is a chain for every list of pieces and buffers.
pub cut_by_law : (cutter : Cutter) (piece before : List ℕ)
    → Cuts cutter piece before (cut_by (cut_of cutter piece (length before))) (put_at before 0 (cut_of cutter piece (length before)).frame)
cut_by_law cutter piece before = in_out_call tt (record { answers = refl; frame_handed_on = refl })

pub record Runs (cutter : Cutter) (os : List Offer) : Type 0 where
  pub left : List Left
  pub end : Cutter
  pub chain : Chain cutter os left end

pub every_list_runs : (cutter : Cutter) (os : List Offer) → Runs cutter os
every_list_runs cutter [] = record { left = []; end = cutter; chain = done }
every_list_runs cutter (o ∷ os) =
    let rest = every_list_runs (cut_of cutter o.piece (length o.buffer)).cutter os in
    record { left = _ ∷ rest.left; end = rest.end; chain = cuts (cut_by_law cutter o.piece o.buffer) rest.chain }

-- a fresh state is there, and nothing is asked before a call, whatever came before it
pub next_cut : (cutter : Cutter) (piece before : List ℕ) (lifetimes : Lfts 2)
    → cut.Asked lifetimes (cutter, ((lent piece).slice, ((lent_out before).slice, tt)))
next_cut cutter piece before lifetimes = tt

pub next_fresh : fresh.Asked tt tt
next_fresh = tt

-- THEOREM. The same calls of the same state leave the same, one by one.
pub same_calls : {cutter cutter₁ end end₁ : Cutter} {os : List Offer} {left left₁ : List Left} → cutter ≡ cutter₁
    → Chain cutter os left end → Chain cutter₁ os left₁ end₁ → (left ≡ left₁) × (end ≡ end₁)
same_calls e done done = (refl, e)
same_calls e (cuts {piece = piece} {before = before} {after = after} {result = result} c rest) (cuts {after = after₁} {result = result₁} c₁ rest₁) =
    let call = ap (λ (x : Cutter). cut_of x piece (length before)) e in
    let same : result ≡ result₁ = (was_cut c).answers ∙ ap cut_by call ∙ sym (was_cut c₁).answers in
    let put : after ≡ after₁ =
    (was_cut c).frame_handed_on ∙ ap (λ (x : Call). put_at before 0 x.frame) call ∙ sym (was_cut c₁).frame_handed_on in
    let others = same_calls (ap (λ (x : Cut). x.cutter) same) rest rest₁ in
    (ap₂ ◌∷◌ (ap₂ left_by same put) others.0, others.1)
