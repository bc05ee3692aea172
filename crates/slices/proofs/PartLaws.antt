-- A part of a slice from a place to its end is the rest from that place on.
use mathlib.Core.Path.{◌≡◌}
use mathlib.Core.List.{List}
use Prim.Native.Nat.{ℕ, ◌-◌, ◌≤◌}
use native.Mathlib.Omega.{arith}
use lib.ListN.{length, take, drop, length-drop}
use lib.Seq.{take_all}

pub part_rest : (bytes : List ℕ) (n : ℕ) → take (length bytes - n) (drop n bytes) ≡ drop n bytes
part_rest bytes n =
    let all : length (drop n bytes) ≤ length bytes - n = rw length-drop (omega arith) in
    take_all (length bytes - n) (drop n bytes) all
