-- How many bytes of a buffer are touched follows from the last one that is: those behind it leave the count, and it sets the count.
use mathlib.Core.Path.{◌≡◌, refl, sym, ◌∙◌}
use mathlib.Core.Bool.{cond}
use mathlib.Core.List.{List, [], ◌∷◌}
use Prim.Native.Nat.{ℕ, zero, suc, ◌+◌, ◌<◌}
use native.Mathlib.Omega.{arith}
use lib.Dec.{eqb}
use lib.ListN.{length, get_or}
use borrow.Author.Tests.{eq-eqb, ne_eqb}
use Rattle.std.proofs.Common.{Option, None, Some}
use Rattle.std.specs.Option.{option_map_or}
use Rattle.cases.specs.Buffer.{untouched, written_from, written_of, LastTouched}

none_touched : (count place : ℕ) (bytes : List ℕ) → ((k : ℕ) → k < length bytes → get_or bytes k 0 ≡ untouched) → written_from count place bytes ≡ count
unfolding written_from
none_touched count place [] all = refl
none_touched count place (byte ∷ bytes) all =
    rw (eq-eqb byte untouched (all 0 (omega arith))) (none_touched count (suc place) bytes (λ k h. all (suc k) (omega arith)))

last_at : (count place i : ℕ) (bytes : List ℕ) → i < length bytes → (get_or bytes i 0 ≡ untouched → ⊥)
    → ((k : ℕ) → i < k → k < length bytes → get_or bytes k 0 ≡ untouched) → written_from count place bytes ≡ place + suc i
unfolding written_from
last_at count place i [] h other behind = absurd (omega arith)
last_at count place zero (byte ∷ bytes) h other behind =
    let one : place + suc zero ≡ suc place = omega arith in
    rw (ne_eqb byte untouched other, one) (none_touched (suc place) (suc place) bytes (λ k l. behind (suc k) (omega arith) (omega arith)))
last_at count place (suc i) (byte ∷ bytes) h other behind =
    let one : place + suc (suc i) ≡ suc place + suc i = omega arith in
    rw one (last_at (cond (eqb byte untouched) count (suc place)) (suc place) i bytes (omega arith) other (λ k l m. behind (suc k) (omega arith) (omega arith)))

-- the count that goes with the last touched byte
pub written_by : (buffer : List ℕ) (last : Option ℕ) → LastTouched buffer last → option_map_or (λ n. n + 1) last 0 ≡ written_of buffer
written_by buffer None all = sym (none_touched 0 0 buffer all)
written_by buffer (Some last) at = let same : 0 + suc last ≡ last + 1 = omega arith in sym (last_at 0 0 last buffer at.0 at.1 at.2 ∙ same)
