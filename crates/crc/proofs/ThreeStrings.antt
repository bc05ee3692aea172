-- The law of three strings: what halves of a capture rest on.
use mathlib.Core.Path.{◌≡◌, sym, ap, ◌∙◌}
use mathlib.Core.List.{List}
use Prim.Native.Nat.{ℕ}
use lib.Bits.{bit_xor, xor_self}
use lib.ListN.{length}
use Rattle.slices.specs.ExclusiveOr.{xor_of}
use Rattle.slices.proofs.XorStrings.{xor_length}
use Rattle.crc.specs.Crc.{crc_of}
use Rattle.crc.proofs.LinearLaws.{crc_xor}

-- THEOREM (02, C-24). The check of the bytewise exclusive-or of three strings of equal length is the exclusive-or of their checks, for each
-- start value: of three equal starts two cancel. (Of two strings it is not so: answers/proofs/KnownChecks.)
pub crc_three : (start : ℕ) (xs ys zs : List ℕ) → length xs ≡ length ys → length ys ≡ length zs
    → crc_of start (xor_of (xor_of xs ys) zs) ≡ bit_xor (bit_xor (crc_of start xs) (crc_of start ys)) (crc_of start zs)
crc_three start xs ys zs two three =
    ap (λ (none : ℕ). crc_of (bit_xor none start) (xor_of (xor_of xs ys) zs)) (sym (xor_self start))
    ∙ crc_xor (bit_xor start start) start (xor_of xs ys) zs (xor_length xs ys two ∙ two ∙ three)
    ∙ ap (λ (both : ℕ). bit_xor both (crc_of start zs)) (crc_xor start start xs ys two)
