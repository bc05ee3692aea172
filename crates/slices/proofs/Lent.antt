-- A slice that is lent to a call, or left by it, stands for its bytes: of a slice a contract reads its bytes alone, so for any bytes there
-- is such a slice. One that is only read is an input, one that is written is an output.
use mathlib.Core.Path.{◌≡◌, refl}
use mathlib.Core.List.{List, []}
use Prim.Native.Nat.{ℕ}
use contract.Lifetimes.{Lfts}
use denote.Bor.{Bor}
use denote.MutBor.{MutBor}

abbrev pub Slice : Type 0
Slice = Bor (List ℕ)

abbrev pub OutSlice : Type 0
OutSlice = MutBor (List ℕ)

pub record Lent (bytes : List ℕ) : Type 0 where
  pub slice : Slice
  pub holds : slice.now ≡ bytes

pub record LentOut (bytes : List ℕ) : Type 0 where
  pub slice : OutSlice
  pub holds : slice.now ≡ bytes

abbrev pub lent : (bytes : List ℕ) → Lent bytes
lent bytes = record { slice = record { ref_ptr = (0, 0); now = bytes }; holds = refl }

abbrev pub lent_out : (bytes : List ℕ) → LentOut bytes
lent_out bytes = record { slice = record { ref_ptr = (0, 0); ghost_name = 0; now = bytes }; holds = refl }

-- A call of a function whose contract is `Asked` and `Learnt`. `args` are its arguments, given the slices that are lent.
module _ {Args Answer : Type 0} (Asked : Lfts 1 → Args → Type 0) (Learnt : Lfts 1 → Args → Answer → Args → Type 0) (args : Slice → Args) where
  -- it is lent an input
  pub record InCall (input : List ℕ) (answer : Answer) : Type 0 where
    pub lifetimes : Lfts 1
    pub input_lent : Lent input
    pub asked : Asked lifetimes (args input_lent.slice)
    pub learnt : Learnt lifetimes (args input_lent.slice) answer (args input_lent.slice)

module _ {Args Answer : Type 0} (Asked : Lfts 1 → Args → Type 0) (Learnt : Lfts 1 → Args → Answer → Args → Type 0) (args : OutSlice → Args) where
  -- it is lent an output, as it was before, and leaves it as it is after
  pub record OutCall (before : List ℕ) (answer : Answer) (after : List ℕ) : Type 0 where
    pub lifetimes : Lfts 1
    pub output_lent : LentOut before
    pub output_left : LentOut after
    pub asked : Asked lifetimes (args output_lent.slice)
    pub learnt : Learnt lifetimes (args output_lent.slice) answer (args output_left.slice)

module _ {Args Answer : Type 0} (Asked : Lfts 2 → Args → Type 0) (Learnt : Lfts 2 → Args → Answer → Args → Type 0) (args : Slice → OutSlice → Args) where
  -- it is lent both
  pub record InOutCall (input before : List ℕ) (answer : Answer) (after : List ℕ) : Type 0 where
    pub lifetimes : Lfts 2
    pub input_lent : Lent input
    pub output_lent : LentOut before
    pub output_left : LentOut after
    pub asked : Asked lifetimes (args input_lent.slice output_lent.slice)
    pub learnt : Learnt lifetimes (args input_lent.slice output_lent.slice) answer (args input_lent.slice output_left.slice)

-- There is such a call where the contract holds of the slices that `lent` and `lent_out` give.
module _ {Args Answer : Type 0} {Asked : Lfts 1 → Args → Type 0} {Learnt : Lfts 1 → Args → Answer → Args → Type 0} {args : Slice → Args} where
  pub in_call : {input : List ℕ} {answer : Answer} → Asked ([], tt) (args (lent input).slice)
      → Learnt ([], tt) (args (lent input).slice) answer (args (lent input).slice)
      → InCall Asked Learnt args input answer
  in_call {input} asked learnt = record { lifetimes = ([], tt); input_lent = lent input; asked = asked; learnt = learnt }

module _ {Args Answer : Type 0} {Asked : Lfts 1 → Args → Type 0} {Learnt : Lfts 1 → Args → Answer → Args → Type 0} {args : OutSlice → Args} where
  pub out_call : {before : List ℕ} {answer : Answer} {after : List ℕ} → Asked ([], tt) (args (lent_out before).slice)
      → Learnt ([], tt) (args (lent_out before).slice) answer (args (lent_out after).slice)
      → OutCall Asked Learnt args before answer after
  out_call {before} {answer} {after} asked learnt =
      record { lifetimes = ([], tt); output_lent = lent_out before; output_left = lent_out after; asked = asked; learnt = learnt }

module _ {Args Answer : Type 0} {Asked : Lfts 2 → Args → Type 0} {Learnt : Lfts 2 → Args → Answer → Args → Type 0} {args : Slice → OutSlice → Args} where
  pub in_out_call : {input before : List ℕ} {answer : Answer} {after : List ℕ} → Asked ([], ([], tt)) (args (lent input).slice (lent_out before).slice)
      → Learnt ([], ([], tt)) (args (lent input).slice (lent_out before).slice) answer (args (lent input).slice (lent_out after).slice)
      → InOutCall Asked Learnt args input before answer after
  in_out_call {input} {before} {answer} {after} asked learnt =
      record { lifetimes = ([], ([], tt)); input_lent = lent input; output_lent = lent_out before; output_left = lent_out after; asked = asked; learnt = learnt }
