-- The check goes over the header and on over the payload.
use mathlib.Core.Path.{◌≡◌, sym, ap, ◌∙◌}
use mathlib.Core.List.{List, [], ◌∷◌, ◌++◌}
use Prim.Native.Nat.{ℕ}
use Rattle.crc.specs.Crc.{crc_of}
use Rattle.crc.proofs.CrcLaws.{crc_append}
use Rattle.ash.specs.Reserved.{flag_byte}
use Rattle.ash.specs.Header.{header_escape, header_of}
use Rattle.ash.specs.Check.{check_start, spread, check_over}

-- the check bytes, once the check has gone over the header, two bytes at once, and the payload
pub check_over_law : (control size : ℕ) (payload : List ℕ) (escape : ℕ) (opened begun done : ℕ) (bytes : List ℕ)
    → escape ≡ header_escape control size → opened ≡ crc_of check_start (flag_byte ∷ escape ∷ []) → begun ≡ crc_of opened (control ∷ size ∷ [])
    → done ≡ crc_of begun payload → bytes ≡ spread done → bytes ≡ check_over control size payload
unfolding check_over header_of
check_over_law control size payload escape opened begun done bytes e o b d s =
    let first = flag_byte ∷ header_escape control size ∷ [] in
    let second = control ∷ size ∷ [] in
    rw (s, d, b, o, e)
    (ap spread (sym (crc_append check_start (first ++ second) payload ∙ ap (λ (n : ℕ). crc_of n payload) (crc_append check_start first second))))
