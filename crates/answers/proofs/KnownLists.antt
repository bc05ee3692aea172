-- 02, C-20: "the case pair becomes 40 and 41". Forty names are accepted and forty-one refused; of seventeen an old display shows none. An
-- update of the fortieth name is shown in the fortieth row.
use mathlib.Core.Path.{◌≡◌, refl, ap, ◌∙◌}
use mathlib.Core.List.{List, [], ◌∷◌, ◌++◌, map}
use Prim.Native.Nat.{ℕ, zero, suc}
use native.Mathlib.Omega.{arith}
use lib.IntN.{pos}
use lib.ListN.{replicate}
use Rattle.frame.specs.Writing as writing
use Rattle.rows.specs.Entries.{board_showing}
use Rattle.rows.specs.OldRows.{old_row_count}
use Rattle.rows.specs.Rows.{row_count, board_of}
use Rattle.rows.specs.declared.Board.{Board}
use Rattle.rows.specs.declared.State.TheVariants.{Current}
use Rattle.board.specs.OldDisplays.{old_listed, ReadAsBefore}
use Rattle.board.specs.WatchList.{Good, all_valid, distinct, fields_of, as_watched, accepted_with, refused_with}
use Rattle.board.specs.declared.list.Watched.{Watched}
use Rattle.board.proofs.GoodLists.{good_listed}
use Rattle.display.specs.Display as display
use Rattle.display.specs.declared.Display.{Display}
use Rattle.ledger.specs.Ledger.{start}
use Rattle.ledger.specs.Answers.{as_bytes, Call, piece, tick}
use Rattle.ledger.specs.Calls.{after}
use Rattle.ledger.specs.Shown.{as_entry, Left, row_at}
use Rattle.ledger.proofs.Chain.{Begins, Chain, Lists}
use Rattle.ledger.proofs.EveryListRuns.{Runs, every_list_runs}
use Rattle.ledger.proofs.EveryList.{agreeing}
use Rattle.ledger.proofs.FreshStarts.{good_list_accepted, too_many_names_refused, good_begins}
use Rattle.ledger.proofs.OldDisplays.{names_as_before, more_names_refused, old_start, ShownAsBefore, calls_as_before}
use Rattle.answers.proofs.Steps.{packet_steps, frame_steps, ledger_steps}

-- names of two letters: h, and so many letters from one on
abbrev lettered : ℕ → ℕ → List (List ℕ)
lettered zero letter = []
lettered (suc n) letter = (0x68 ∷ letter ∷ []) ∷ lettered n (suc letter)

abbrev sixteen : List (List ℕ)
sixteen = lettered 16 0x41

abbrev seventeen : List (List ℕ)
seventeen = lettered 17 0x41

-- hA to hZ, then ha to hn
abbrev forty : List (List ℕ)
forty = lettered 26 0x41 ++ lettered 14 0x61

abbrev forty_one : List (List ℕ)
forty_one = lettered 26 0x41 ++ lettered 15 0x61

-- each list is good but for a limit that is smaller
pub sixteen_good : Good old_row_count sixteen
unfolding packet_steps all_valid distinct
sixteen_good = record { valid = refl; once = refl; few = omega arith }

pub seventeen_good : Good row_count seventeen
unfolding packet_steps all_valid distinct
seventeen_good = record { valid = refl; once = refl; few = omega arith }

pub forty_good : Good row_count forty
unfolding packet_steps all_valid distinct
forty_good = record { valid = refl; once = refl; few = omega arith }

pub forty_one_good : Good 41 forty_one
unfolding packet_steps all_valid distinct
forty_one_good = record { valid = refl; once = refl; few = omega arith }

-- THEOREM. Every call of `board::watch_list` with the forty names is accepted, with their board; with the forty-one it is refused with 15.
pub forty_accepted : (watched : Watched) → Lists (fields_of forty) watched → watched ≡ accepted_with (board_of row_count forty)
forty_accepted = good_list_accepted forty forty_good

pub forty_one_refused : (watched : Watched) → Lists (fields_of forty_one) watched → watched ≡ refused_with (board_of row_count [])
forty_one_refused = too_many_names_refused forty_one (omega arith)

-- THEOREM. Sixteen names an old display accepts, and they are read as before; of seventeen, which are accepted today, it shows none.
pub old_accepts_sixteen : old_listed (fields_of sixteen) ≡ accepted_with (board_of old_row_count sixteen)
old_accepts_sixteen = ap (as_watched old_row_count) (good_listed sixteen sixteen_good)

pub sixteen_as_before : (watched : Watched) → Lists (fields_of sixteen) watched → ReadAsBefore (old_listed (fields_of sixteen)) watched
sixteen_as_before = names_as_before sixteen (omega arith)

pub seventeen_accepted : (watched : Watched) → Lists (fields_of seventeen) watched → watched ≡ accepted_with (board_of row_count seventeen)
seventeen_accepted = good_list_accepted seventeen seventeen_good

pub old_refuses_seventeen : old_listed (fields_of seventeen) ≡ refused_with (board_of old_row_count [])
old_refuses_seventeen = more_names_refused seventeen (omega arith)

-- THEOREM. Every list of calls with the sixteen names is answered and shown as before: there are such calls of both displays.
pub sixteen_shown_as_before : (cs : List Call)
    → ShownAsBefore (every_list_runs (old_start sixteen) cs).left (every_list_runs (display.fresh (board_of row_count sixteen)) cs).left
    (every_list_runs (old_start sixteen) cs).end (every_list_runs (display.fresh (board_of row_count sixteen)) cs).end
sixteen_shown_as_before cs =
    let good : Good row_count sixteen = record { valid = sixteen_good.valid; once = sixteen_good.once; few = omega arith } in
    calls_as_before (as_bytes (fields_of sixteen)) (display.fresh (board_of row_count sixteen)) (good_begins sixteen good) sixteen (good_listed sixteen good) (omega arith)
    cs _ _ _ _ (every_list_runs (display.fresh (board_of row_count sixteen)) cs).chain (every_list_runs (old_start sixteen) cs).chain

-- an update of hn to 3450, and a tick
abbrev payload : List ℕ
payload = 0x01 ∷ 0x03 ∷ 0x00 ∷ 0x00 ∷ 0x01 ∷ 0x02 ∷ 0x68 ∷ 0x6e ∷ 0x16 ∷ 0x04 ∷ 0x00 ∷ 0x00 ∷ 0x0d ∷ 0x7a ∷ []

abbrev cs : List Call
cs = piece (writing.frame_of 0x01 0x01 payload) (replicate 9 0) (replicate 383 0) ∷ tick ∷ []

computed : (row_at (board_showing row_count (map as_entry (after (start forty) cs).hives.entries)) 39).state ≡ Current (pos 3450) 1
unfolding packet_steps frame_steps ledger_steps
computed = refl

-- THEOREM. Every display of the forty names that is given these calls shows 3450 with age 1 in its fortieth row; such a start and such calls
-- are there.
pub fortieth_is_shown : (d end : Display) (left : List Left) → Begins (as_bytes (fields_of forty)) d → Chain d cs left end
    → (row_at end.board 39).state ≡ Current (pos 3450) 1
fortieth_is_shown d end left begins chain =
    ap (λ (b : Board). (row_at b 39).state) (agreeing (good_listed forty forty_good) begins chain).all.agrees.shows.showing ∙ computed

pub forty_begin : Begins (as_bytes (fields_of forty)) (display.fresh (board_of row_count forty))
forty_begin = good_begins forty forty_good

pub forty_run : Runs (display.fresh (board_of row_count forty)) cs
forty_run = every_list_runs (display.fresh (board_of row_count forty)) cs
