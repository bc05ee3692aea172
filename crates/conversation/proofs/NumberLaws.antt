-- The numbers on the line: the next one follows, two neighbours differ, and each has three bits.
use mathlib.Core.Path.{◌≡◌, refl}
use Prim.Native.Nat.{ℕ, zero, suc, ◌<◌}
use native.Mathlib.Omega.{arith}
use Rattle.session.specs.Counters.{next}
use Rattle.conversation.specs.Ledger.{on_line}

pub next_on_line : (n : ℕ) → next (on_line n) ≡ on_line (suc n)
next_on_line zero = refl
next_on_line (suc n) = omega arith

pub neighbours_differ : (n : ℕ) → on_line n ≡ on_line (suc n) → ⊥
neighbours_differ zero e = omega arith
neighbours_differ (suc n) e = omega arith

pub three_bits : (n : ℕ) → on_line n < 8
three_bits zero = omega arith
three_bits (suc n) = omega arith
