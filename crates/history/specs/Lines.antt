-- 01, Program and C host: "It prints each reply as `reply` and hex, each row as name and state (current has value and age),
-- then two lines of counts." The words are given as their ASCII bytes.
use Rattle.std.specs.Prelude.{ℕ, List, [], ◌∷◌, ◌++◌}
use Rattle.slices.specs.Each.{each}
use Rattle.rows.specs.Rows.{row_name}
use Rattle.rows.specs.declared.Row.{Row}
use Rattle.rows.specs.declared.State.{State}
use Rattle.rows.specs.declared.State.TheVariants.{Never, Current, Silent}
use Rattle.link.specs.declared.counts.Counts.{Counts}
use Rattle.history.specs.Numbers.{decimal_of, signed_of, hex_of}

abbrev pub line_end : List ℕ
line_end = 10 ∷ []

abbrev pub space : List ℕ
space = 32 ∷ []

-- "reply "
abbrev pub reply_word : List ℕ
reply_word = 114 ∷ 101 ∷ 112 ∷ 108 ∷ 121 ∷ 32 ∷ []

-- `reply 7e02007b6d7e`
abbrev pub reply_line : List ℕ → List ℕ
reply_line bytes = reply_word ++ (hex_of bytes ++ line_end)

-- a label and a number
abbrev pub labelled : List ℕ → ℕ → List ℕ
labelled label number = label ++ decimal_of number

-- " never", " silent", or " current " with value and age
abbrev pub state_text : State → List ℕ
state_text Never = 32 ∷ 110 ∷ 101 ∷ 118 ∷ 101 ∷ 114 ∷ line_end
state_text Silent = 32 ∷ 115 ∷ 105 ∷ 108 ∷ 101 ∷ 110 ∷ 116 ∷ line_end
state_text (Current value age) =
    (32 ∷ 99 ∷ 117 ∷ 114 ∷ 114 ∷ 101 ∷ 110 ∷ 116 ∷ 32 ∷ []) ++ signed_of value ++ labelled space age ++ line_end

-- `h1 current 3450 1`; an unused row, which has no name, has no line
abbrev pub line_of : List ℕ → List ℕ → List ℕ
line_of [] text = []
line_of (byte ∷ bytes) text = (byte ∷ bytes) ++ text

abbrev pub row_line : Row → List ℕ
row_line row = line_of (row_name row) (state_text row.state)

-- "new ", " again ", " heard ", " unread "
abbrev pub new_word : List ℕ
new_word = 110 ∷ 101 ∷ 119 ∷ 32 ∷ []

abbrev pub again_word : List ℕ
again_word = 32 ∷ 97 ∷ 103 ∷ 97 ∷ 105 ∷ 110 ∷ 32 ∷ []

abbrev pub heard_word : List ℕ
heard_word = 32 ∷ 104 ∷ 101 ∷ 97 ∷ 114 ∷ 100 ∷ 32 ∷ []

abbrev pub unread_word : List ℕ
unread_word = 32 ∷ 117 ∷ 110 ∷ 114 ∷ 101 ∷ 97 ∷ 100 ∷ 32 ∷ []

-- `new 1 again 0 heard 0 unread 0`
abbrev pub counts_line : Counts → List ℕ
counts_line counts =
    labelled new_word counts.new
    ++ labelled again_word counts.again
    ++ labelled heard_word counts.heard
    ++ labelled unread_word counts.unread
    ++ line_end

-- "refused"
abbrev pub refused_word : List ℕ
refused_word = 114 ∷ 101 ∷ 102 ∷ 117 ∷ 115 ∷ 101 ∷ 100 ∷ []

-- a space before each number
abbrev pub spaced : List ℕ → List ℕ
spaced numbers = each (labelled space) numbers

-- `refused 0 0 0 0 0 0`
abbrev pub refused_line : List ℕ → List ℕ
refused_line numbers = refused_word ++ (spaced numbers ++ line_end)
