-- DEMAND 3. For every watch list that is accepted, as bytes or name by name, and every list of calls from a fresh start, refused calls
-- among them, the answers and the bytes left in the buffers are the ledger's, call by call, and afterwards the counts, the board and the sender are.
-- It holds since a fresh start agrees with the ledger's and each call keeps the agreement.
use mathlib.Core.Path.{◌≡◌, refl, ap, ap₂, ◌∙◌, subst⁻¹}
use mathlib.Core.List.{List, [], ◌∷◌, map}
use mathlib.Core.Option.{Option, some}
use Prim.Native.Nat.{ℕ}
use Rattle.rows.specs.Entries as shown
use Rattle.rows.specs.Entries.{fresh_entry, board_showing}
use Rattle.rows.specs.Rows.{row_count, board_of}
use Rattle.board.specs.WatchList.{Good}
use Rattle.board.proofs.NameLaws.{Fits, good_fits}
use Rattle.rows.proofs.EntryLaws.{fresh_showing}
use Rattle.link.proofs.OursLaws.{ours_fresh}
use Rattle.slices.proofs.Impossible.{impossible}
use Rattle.sender.specs.State.{fresh_sender}
use Rattle.display.specs.Display as display
use Rattle.display.specs.declared.Display.{Display}
use Rattle.ledger.specs.Ledger.{Ledger, none_sent, unheard, name_of, start}
use Rattle.ledger.specs.Answers as answers
use Rattle.ledger.specs.Answers.{WatchList, names_in, Call}
use Rattle.ledger.specs.Calls.{step, given, after}
use Rattle.ledger.specs.Shown.{as_counts, as_sender, as_entry, Left, as_left}
use Rattle.ledger.proofs.StepAgreement.{Agrees, Gives, tick_agrees, send_agrees, timeout_agrees}
use Rattle.ledger.proofs.PieceAgreement.{piece_agrees}
use Rattle.ledger.proofs.Chain.{Begins, Chain, done, receives, ticks, sends, times_out, received, sent, timed_out}
use Rattle.ledger.proofs.FreshStarts.{began}

-- what the ledger says of a list of calls
pub record IsLedgers (w : WatchList) (cs : List Call) (left : List Left) (end : Display) : Type 0 where
  pub names : List (List ℕ)
  pub watch_list : names_in w ≡ some names
  -- the answers and the bytes left in the buffers, call by call
  pub answers : left ≡ map (as_left names) (given (start names) cs)
  -- each count modulo 65,536
  pub counts : end.link.counts ≡ as_counts (after (start names) cs).line.counts
  -- the board, with all its rows, is the one that shows the ledger's entries
  pub board : end.board ≡ board_showing row_count (map as_entry (after (start names) cs).hives.entries)
  -- 02, C-13: the sender holds what the ledger holds
  pub sender : end.sender ≡ as_sender (after (start names) cs).sender

fresh_shown : (names : List (List ℕ)) → map fresh_entry names ≡ map as_entry (map unheard names)
fresh_shown [] = refl
fresh_shown (n ∷ names) = ap (λ (l : List shown.Entry). fresh_entry n ∷ l) (fresh_shown names)

pub fresh_named : (names : List (List ℕ)) → map name_of (map unheard names) ≡ names
fresh_named [] = refl
fresh_named (n ∷ names) = ap (λ (l : List (List ℕ)). n ∷ l) (fresh_named names)

fresh_sender_law : fresh_sender ≡ as_sender none_sent
unfolding fresh_sender
fresh_sender_law = refl

pub fresh_agrees : (count : ℕ) (names : List (List ℕ)) → Agrees count names (start names) (display.fresh (board_of count names))
fresh_agrees count names =
    record {
      ours = ours_fresh;
      standing = refl;
      last_is = refl;
      counts_are = refl;
      sender_is = fresh_sender_law;
      held_fits = λ frame e. impossible cc;
      shows = record { showing = fresh_showing count names ∙ ap (board_showing count) (fresh_shown names); named = fresh_named names };
    }

-- after some calls display and ledger agree, and all that was left is what the ledger gives
pub record Agreed (count : ℕ) (names : List (List ℕ)) (l : Ledger) (cs : List Call) (left : List Left) (end : Display) : Type 0 where
  pub gives : left ≡ map (as_left names) (given l cs)
  pub agrees : Agrees count names (after l cs) end

pub chain_agrees : {count : ℕ} (names : List (List ℕ)) → Fits names → (l : Ledger) {d end : Display} {cs : List Call} {left : List Left}
    → Chain d cs left end → Agrees count names l d → Agreed count names l cs left end
unfolding given after
chain_agrees names fit l done a = record { gives = refl; agrees = a }
chain_agrees names fit l (receives {d = d} {bytes = bytes} {reply = reply} {packet = packet} r rest) a =
    let first = piece_agrees names fit l d a bytes reply packet _ _ _ (received r) in
    let more = chain_agrees names fit (step l (answers.piece bytes reply packet)).ledger rest first.agrees in
    record { gives = ap₂ (λ (x : Left) (xs : List Left). x ∷ xs) first.gives more.gives; agrees = more.agrees }
chain_agrees {count} names fit l (ticks {d = d} t rest) a =
    let first = tick_agrees names l d a in
    let more = chain_agrees {count = count} names fit (step l answers.tick).ledger rest (rw t first.agrees) in
    record { gives = ap₂ (λ (x : Left) (xs : List Left). x ∷ xs) first.gives more.gives; agrees = more.agrees }
chain_agrees {count} names fit l (sends {d = d} {payload = payload} {output = output} s rest) a =
    let first = send_agrees names l d a payload output _ _ (sent s) in
    let more = chain_agrees {count = count} names fit (step l (answers.send payload output)).ledger rest first.agrees in
    record { gives = ap₂ (λ (x : Left) (xs : List Left). x ∷ xs) first.gives more.gives; agrees = more.agrees }
chain_agrees {count} names fit l (times_out {d = d} {output = output} t rest) a =
    let first = timeout_agrees names l d a output _ _ (timed_out t) in
    let more = chain_agrees {count = count} names fit (step l (answers.timeout output)).ledger rest first.agrees in
    record { gives = ap₂ (λ (x : Left) (xs : List Left). x ∷ xs) first.gives more.gives; agrees = more.agrees }

-- the names of a fresh start are those of its watch list
same_names : {found : Option (List (List ℕ))} {names names₁ : List (List ℕ)} → found ≡ some names → found ≡ some names₁ → names₁ ≡ names
same_names a b = cc

-- names, and a list of calls from a fresh start with them
pub record Agreeing (names : List (List ℕ)) (cs : List Call) (left : List Left) (end : Display) : Type 0 where
  pub good : Good row_count names
  pub fit : Fits names
  pub all : Agreed row_count names (start names) cs left end

pub agreeing : {w : WatchList} {names : List (List ℕ)} → names_in w ≡ some names → {d end : Display} → Begins w d → {cs : List Call} {left : List Left}
    → Chain d cs left end → Agreeing names cs left end
agreeing {w = w} {names = names} listed {d = d} begins chain =
    let b = began w d begins in
    let same = same_names listed b.listed in
    let good = rw same at b.good in
    let fit = good_fits names good.valid in
    let is : d ≡ display.fresh (board_of row_count names) = b.is ∙ ap (λ (ns : List (List ℕ)). display.fresh (board_of row_count ns)) same in
    record {
      good = good;
      fit = fit;
      all = chain_agrees names fit (start names) chain (subst⁻¹ (λ (x : Display). Agrees row_count names (start names) x) is (fresh_agrees row_count names));
    }

-- the next call, by the ledger that the calls before it left
pub next_call : {names : List (List ℕ)} {cs : List Call} {left : List Left} {end : Display} → Agreeing names cs left end
    → {c : Call} {more : Left} {end₁ : Display} → Chain end (c ∷ []) (more ∷ []) end₁ → Gives row_count names (step (after (start names) cs) c) more end₁
unfolding given after
next_call {names = names} {cs = cs} a next =
    let one = chain_agrees names a.fit (after (start names) cs) next a.all.agrees in
    let given_is = one.gives in
    record { gives = cc; agrees = one.agrees }

-- THEOREM. Every list of calls is the ledger's.
pub every_list : (w : WatchList) (d : Display) → Begins w d → (cs : List Call) (left : List Left) (end : Display) → Chain d cs left end
    → IsLedgers w cs left end
every_list w d begins cs left end chain =
    let b = began w d begins in
    let agreed = (agreeing b.listed begins chain).all in
    record {
      names = b.names;
      watch_list = b.listed;
      answers = agreed.gives;
      counts = agreed.agrees.counts_are;
      board = agreed.agrees.shows.showing;
      sender = agreed.agrees.sender_is;
    }
