-- What a look at a packet answers: by the packet's first four bytes, and by what the item reader finds behind them.
use mathlib.Core.Path.{◌≡◌, refl, ap}
use mathlib.Core.Bool.{true, false}
use mathlib.Core.List.{List, []}
use mathlib.Core.Option.{Option, none, some}
use Prim.Native.Nat.{ℕ, ◌≤◌, ◌<◌}
use lib.Dec.{leb, eqb}
use lib.ListN.{length, get_or, drop}
use borrow.Author.Tests.{le-leb, lt-leb, leb-true, ne_eqb}
use Rattle.std.specs.Prelude.{◌≢◌, None, Result, Ok, Err, MatchOption, MatchResult, IsOkAnd}
use Rattle.std.specs.Option.{ok_or}
use Rattle.std.specs.Result.{result_map_both, result_ok}
use Rattle.refusals.specs.Numbers.{no_data_packet, bad_items}
use Rattle.slices.proofs.Impossible.{impossible}
use Rattle.slices.specs.HighFirst.{pair_of}
use Rattle.slices.proofs.TestLaws.{both}
use Rattle.packet.specs.Items.{Item, items_of, count_of}
use Rattle.refusals.specs.declared.Refusal.{Refusal}
use Rattle.packet.specs.Packet.{Packet, Judged, packet, refused, head_length, is_data, with_items, packet_of, judged_items}
use Rattle.packet.specs.Answers.{Found, reading_of, find_in, behind_in, look_at, look_by, look_of}
use Rattle.packet.specs.ReaderSteps.{tally_of}
use Rattle.packet.specs.declared.reading.Look.{Look}
use Rattle.packet.specs.declared.reading.Head.{Head}
use Rattle.packet.specs.declared.items.Survey.{Survey}

-- a data packet has its first four bytes
pub data_length : (bytes : List ℕ) → is_data bytes ≡ true → head_length ≤ length bytes
unfolding is_data
data_length bytes h = leb-true head_length (length bytes) (both (leb head_length (length bytes)) (eqb (get_or bytes 0 0) 1) h).first

-- what says whether bytes are a data packet: their length and the first of them
pub is_data_by : (bytes : List ℕ) → head_length ≤ length bytes → get_or bytes 0 0 ≡ 1 → is_data bytes ≡ true
unfolding is_data
is_data_by bytes long first = rw (le-leb head_length (length bytes) long, first)

pub no_data_short : (bytes : List ℕ) → length bytes < head_length → is_data bytes ≡ false
unfolding is_data
no_data_short bytes short = rw (lt-leb head_length (length bytes) short)

pub no_data_other : (bytes : List ℕ) → head_length ≤ length bytes → get_or bytes 0 0 ≢ 1 → is_data bytes ≡ false
unfolding is_data
no_data_other bytes long other = rw (le-leb head_length (length bytes) long, ne_eqb (get_or bytes 0 0) 1 other)

-- a survey of a packet's items, with the packet's opcode and id
abbrev pub look_with : Head → Survey → Look
look_with head survey =
    record { head = head; all = survey.all; count = survey.count; first = survey.first; behind = survey.behind }

module _ (opcode id kind : ℕ) where
  broken_by : (read : Option (List Item)) (r : Refusal) → Err r ≡ ok_or (tally_of head_length kind read) bad_items → Err r ≡ look_by kind (with_items opcode id read)
  unfolding tally_of with_items look_by
  broken_by none r e = let same : r ≡ bad_items = cc in ap Err same
  broken_by (some items) r e = impossible cc

  told_by_law : (read : Option (List Item)) (survey : Survey) → Ok survey ≡ ok_or (tally_of head_length kind read) bad_items → Ok (look_with (record { opcode = opcode; id = id }) survey) ≡ look_by kind (with_items opcode id read)
  unfolding tally_of with_items look_by
  told_by_law none survey e = impossible cc
  told_by_law (some items) survey e = cc

module _ (bytes : List ℕ) (kind : ℕ) where
  -- the three answers of a look
  pub look_no_data : is_data bytes ≡ false → Err no_data_packet ≡ look_of kind bytes
  unfolding packet_of look_by
  look_no_data h = rw h

  pub look_broken : (r : Refusal) → is_data bytes ≡ true → Err r ≡ ok_or (tally_of head_length kind (items_of (drop head_length bytes))) bad_items → Err r ≡ look_of kind bytes
  unfolding packet_of
  look_broken r h e = rw h (broken_by (get_or bytes 1 0) (pair_of (get_or bytes 2 0) (get_or bytes 3 0)) kind (items_of (drop head_length bytes)) r e)

  pub look_told : (survey : Survey) → is_data bytes ≡ true → Ok survey ≡ ok_or (tally_of head_length kind (items_of (drop head_length bytes))) bad_items → Ok (look_with (record { opcode = get_or bytes 1 0; id = pair_of (get_or bytes 2 0) (get_or bytes 3 0) }) survey) ≡ look_of kind bytes
  unfolding packet_of
  look_told survey h e = rw h (told_by_law (get_or bytes 1 0) (pair_of (get_or bytes 2 0) (get_or bytes 3 0)) kind (items_of (drop head_length bytes)) survey e)

-- what a look says of one thing, and what is said where the packet is refused
abbrev pub seen : {A : Type 0} → (Look → A) → A → Result Look Refusal → A
seen f nothing (Ok look) = f look
seen f nothing (Err r) = nothing

pub seen_in : {A : Type 0} (f : Look → A) (nothing : A) (looked : Result Look Refusal) (answer : A)
    → MatchResult looked (λ look. answer ≡ f look) (λ _. answer ≡ nothing) → answer ≡ seen f nothing looked
seen_in f nothing (Ok look) answer e = e
seen_in f nothing (Err r) answer e = e

pub heads_in : (looked : Result Look Refusal) (answer : Result Head Refusal)
    → MatchResult looked (λ look. IsOkAnd answer (λ head. head ≡ look.head)) (λ r. answer ≡ Err r)
    → answer ≡ result_map_both (λ (look : Look). look.head) (λ r. r) looked
heads_in (Ok look) (Ok head) e = rw e
heads_in (Ok look) (Err r) e = absurd e
heads_in (Err r) answer e = e

-- one thing that a look may have found
pub found_in : (f : Look → Found) (looked : Result Look Refusal) (answer : Found)
    → MatchOption (result_ok looked) (answer ≡ None) (λ look. answer ≡ f look) → answer ≡ seen f None looked
found_in f (Ok look) answer e = e
found_in f (Err r) answer e = e

-- what each look says of the packet's items is so of a refused packet's too, which are none
pub items_seen : {A : Type 0} (kind : ℕ) (f : Look → A) (of : List Item → A) (judged : Judged) → ((p : Packet) → f (look_at kind p) ≡ of p.items)
    → seen f (of []) (look_by kind judged) ≡ of (judged_items judged)
unfolding look_by judged_items
items_seen kind f of (packet p) same = same p
items_seen kind f of (refused r) same = refl

module _ (kind : ℕ) (judged : Judged) where
  pub head_seen : reading_of judged ≡ result_map_both (λ (look : Look). look.head) (λ r. r) (look_by kind judged)
  unfolding reading_of look_by
  head_seen = elim judged as (λ j. reading_of j ≡ result_map_both (λ (look : Look). look.head) (λ r. r) (look_by kind j)) [ packet p ↦ refl | refused r ↦ refl ]

  pub all_seen : seen (λ look. look.all) 0 (look_by kind judged) ≡ length (judged_items judged)
  all_seen = items_seen kind _ length judged (λ p. refl)

  pub count_seen : seen (λ look. look.count) 0 (look_by kind judged) ≡ count_of kind (judged_items judged)
  unfolding count_of
  count_seen = items_seen kind _ (count_of kind) judged (λ p. refl)

  pub first_seen : seen (λ look. look.first) None (look_by kind judged) ≡ find_in head_length kind (judged_items judged)
  unfolding find_in
  first_seen = items_seen kind _ (find_in head_length kind) judged (λ p. refl)

  pub behind_seen : seen (λ look. look.behind) None (look_by kind judged) ≡ behind_in head_length kind (judged_items judged)
  unfolding behind_in
  behind_seen = items_seen kind _ (behind_in head_length kind) judged (λ p. refl)
