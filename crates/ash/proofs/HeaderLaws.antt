-- A header that sets no reserved bit and has a right control byte is good as its length byte is.
use mathlib.Core.Path.{◌≡◌}
use mathlib.Core.Bool.{true}
use Prim.Native.Nat.{ℕ}
use Rattle.ash.specs.Reserved.{rightly_escaped}
use Rattle.ash.specs.Header.{control_escaped, length_escaped, no_reserved_bit, good_header}

module _ (escape control size : ℕ) where
  pub length_decides : no_reserved_bit escape ≡ true → rightly_escaped (control_escaped escape) control ≡ true
      → good_header escape control size ≡ rightly_escaped (length_escaped escape) size
  unfolding good_header
  length_decides e h = rw (e, h)
