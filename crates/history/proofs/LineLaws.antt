-- A line that goes through a list: a word, then each turn appends an element's text, and at last the line's end.
use mathlib.Core.Path.{◌≡◌, sym, ap, ◌∙◌}
use mathlib.Core.List.{List, [], ◌∷◌, ◌++◌, append_assoc, append-nil}
use Prim.Native.Nat.{ℕ, ◌+◌, ◌≤◌, ◌<◌}
use lib.ListN.{length, take, get_or}
use lib.Seq.{take_all}
use Rattle.std.proofs.lemmas.List.{take_more}
use Rattle.slices.specs.Each.{each}
use Rattle.slices.proofs.EachLaws.{each_append}
use Rattle.history.specs.Appending.{Appends}
use Rattle.history.specs.Lines.{line_end}
use Rattle.history.proofs.AppendingLaws.{appends_both, appends_same}

-- the word and the texts of the first i elements stand in the buffer
module _ (text : ℕ → List ℕ) (word list before : List ℕ) where
  abbrev pub Line : ℕ → List ℕ → ℕ → Type 0
  Line i after place = Appends (word ++ each text (take i list)) before 0 after place

  pub line_begins : {after : List ℕ} {place : ℕ} → Appends word before 0 after place → Line 0 after place
  unfolding each
  line_begins first = appends_same (sym (append-nil word)) first

  module _ {after next : List ℕ} {i place end : ℕ} (so_far : Line i after place) where
    pub line_goes_on : i < length list → Appends (text (get_or list i 0)) after place next end → Line (i + 1) next end
    unfolding each
    line_goes_on h one =
        let last = text (get_or list i 0) in
        let more : each text (take (i + 1) list) ≡ each text (take i list) ++ last =
        rw (take_more list i 0 h, each_append text (take i list) (get_or list i 0 ∷ []), append-nil last) in
        appends_same (append_assoc word (each text (take i list)) last ∙ ap (λ (texts : List ℕ). word ++ texts) (sym more)) (appends_both so_far one)

    pub line_ends : length list ≤ i → Appends line_end after place next end → Appends (word ++ (each text list ++ line_end)) before 0 next end
    line_ends h last = rw (take_all i list h) at (appends_same (append_assoc word (each text (take i list)) line_end) (appends_both so_far last))
