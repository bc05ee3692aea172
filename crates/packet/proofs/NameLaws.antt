-- How long valid names and locations are.
use mathlib.Core.Path.{◌≡◌}
use mathlib.Core.Bool.{true, ◌&&◌}
use mathlib.Core.List.{List}
use Prim.Native.Nat.{ℕ, ◌≤◌}
use lib.Dec.{leb}
use lib.ListN.{length, get_or}
use borrow.Author.Tests.{leb-true}
use Rattle.slices.proofs.TestLaws.{both}
use Rattle.packet.specs.Names.{between, is_letter, all_name_bytes, longest_name, longest_location, valid_name, valid_location}

-- a number that was found between two others is
within : (low high n : ℕ) → between low high n ≡ true → (low ≤ n) × (n ≤ high)
unfolding between
within low high n h = let tests = both (leb low n) (leb n high) h in (leb-true low n tests.first, leb-true n high tests.second)

-- a valid name has 1 to 27 bytes, and a valid location 1 to 64
pub name_size : (name : List ℕ) → valid_name name ≡ true → (1 ≤ length name) × (length name ≤ longest_name)
unfolding valid_name
name_size name h =
    let size = between 1 longest_name (length name) in
    let letter = is_letter (get_or name 0 0) in
    within 1 longest_name (length name) (both size letter (both (size && letter) (all_name_bytes name) h).first).first

pub location_size : (location : List ℕ) → valid_location location ≡ true → (1 ≤ length location) × (length location ≤ longest_location)
unfolding valid_location
location_size location h = within 1 longest_location (length location) h
