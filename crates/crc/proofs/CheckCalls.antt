-- What 02 promises of calls of the check, by the contracts that the toolchain reads off the source (`Learnt`): the two laws of C-24, the
-- sentence of C-15 on the tabled check, and C-19's on damage. A contract that says less breaks them. They hold for each start value and
-- for strings of any length, empty ones too.
use mathlib.Core.Path.{◌≡◌, refl, sym, ap, ap₂, ◌∙◌}
use mathlib.Core.List.{List, ◌++◌}
use Prim.Native.Nat.{ℕ}
use lib.Bits.{bit_xor}
use lib.ListN.{length}
use Rattle.slices.specs.Bits.{Bytes}
use Rattle.slices.specs.Difference.{DifferWithin}
use Rattle.slices.specs.ExclusiveOr.{xor_of}
use Rattle.slices.proofs.Lent.{InCall, in_call}
use Rattle.crc.specs.Burst.{Burst}
use Rattle.crc.specs.Crc.{crc_of}
use Rattle.crc.proofs.BurstLaws.{burst_seen, pair_burst}
use Rattle.crc.proofs.CrcLaws.{crc_append}
use Rattle.crc.proofs.ThreeStrings.{crc_three}
use Rattle.crc.proofs.check.Reads as check
use Rattle.crc.proofs.table.check_by_table.Reads as table

-- a call of `crc::check`
abbrev pub Checks : (start : ℕ) (bytes : List ℕ) (answer : ℕ) → Type 0
Checks start = InCall check.Asked check.Learnt (λ bytes. (start, (bytes, tt)))

-- what such a call answered, by the contract
pub was_checked : {start : ℕ} {bytes : List ℕ} {answer : ℕ} → Checks start bytes answer → answer ≡ crc_of start bytes
was_checked c = rw c.input_lent.holds at c.learnt

-- THEOREM. The check of two strings joined is the second's, started from the first's check.
pub joined : (start : ℕ) (xs ys : List ℕ) (first second both : ℕ) → Checks start xs first → Checks first ys second → Checks start (xs ++ ys) both
    → both ≡ second
joined start xs ys first second both of-first of-second of-both =
    was_checked of-both ∙ crc_append start xs ys ∙ ap (λ (register : ℕ). crc_of register ys) (sym (was_checked of-first)) ∙ sym (was_checked of-second)

-- THEOREM. The check of the bytewise exclusive-or of three strings of equal length is the exclusive-or of their checks.
pub exclusive_or : (start : ℕ) (xs ys zs : List ℕ) (first second third all : ℕ) → length xs ≡ length ys → length ys ≡ length zs
    → Checks start xs first → Checks start ys second → Checks start zs third → Checks start (xor_of (xor_of xs ys) zs) all
    → all ≡ bit_xor (bit_xor first second) third
exclusive_or start xs ys zs first second third all two three of-first of-second of-third of-all =
    was_checked of-all ∙ crc_three start xs ys zs two three
    ∙ sym (ap₂ bit_xor (ap₂ bit_xor (was_checked of-first) (was_checked of-second)) (was_checked of-third))

-- There is such a call for each start value and all bytes, since the contract asks nothing.
pub all_bytes_are_checked : (start : ℕ) (bytes : List ℕ) → Checks start bytes (crc_of start bytes)
all_bytes_are_checked start bytes = in_call tt refl

-- THEOREM (02, C-19). Two contents of equal length that differ, and only within 16 adjacent bits, high bit first, do not both pass the check.
-- They may have any length, and the bits may stand anywhere, among the check bytes too.
pub burst : (start : ℕ) (xs ys : List ℕ) → Burst xs ys → Checks start xs 0 → Checks start ys 0 → ⊥
burst start xs ys b of-first of-second = burst_seen start xs ys b (sym (was_checked of-first) ∙ was_checked of-second)

-- THEOREM (02, C-19). Nor do two that differ in one byte alone or in two neighbouring ones.
pub neighbouring_bytes : (start : ℕ) (xs ys : List ℕ) → Bytes xs → Bytes ys → DifferWithin 2 xs ys → Checks start xs 0 → Checks start ys 0 → ⊥
neighbouring_bytes start xs ys first-bytes second-bytes d = burst start xs ys (pair_burst xs ys first-bytes second-bytes d)

-- a call of the tabled loop
abbrev pub ChecksByTable : (start : ℕ) (bytes : List ℕ) (answer : ℕ) → Type 0
ChecksByTable start = InCall table.Asked table.Learnt (λ bytes. (start, (bytes, tt)))

-- THEOREM (02, C-15). The tabled check equals the bitwise one, `crc_of`.
pub tabled : (start : ℕ) (bytes : List ℕ) (answer : ℕ) → ChecksByTable start bytes answer → answer ≡ crc_of start bytes
tabled start bytes answer call = rw call.input_lent.holds at call.learnt

-- There is such a call for each start value and all bytes.
pub all_bytes_are_tabled : (start : ℕ) (bytes : List ℕ) → ChecksByTable start bytes (crc_of start bytes)
all_bytes_are_tabled start bytes = in_call tt refl
