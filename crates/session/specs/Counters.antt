-- 02, C-21 and 002, 3.2: the two counters, each from 1 to 7 and back to 1. They count different directions and stay apart.
use Rattle.std.specs.Prelude.{ℕ, ◌+◌, ◌%◌}
use Rattle.session.specs.declared.counters.OFC.{OFC}
use Rattle.session.specs.declared.counters.AFC.{AFC}

abbrev pub next : ℕ → ℕ
next number = number % 7 + 1

-- a number of a frame that we send, and of one that the peer sends
abbrev pub of_ours : ℕ → OFC
of_ours number = record { 0 = number }

abbrev pub of_peers : ℕ → AFC
of_peers number = record { 0 = number }

abbrev pub next_of_ours : OFC → OFC
next_of_ours counter = of_ours (next counter.0)

abbrev pub next_of_peers : AFC → AFC
next_of_peers good = of_peers (next good.0)
