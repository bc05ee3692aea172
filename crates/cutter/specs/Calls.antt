-- 02, C-21: a call of the cutter takes a piece of the line, with a buffer for a frame lent beside it.
use Rattle.std.specs.Prelude.{ℕ, suc, ◌-◌, min, ◌≡◌, cond, Option, Some, None, Result, Ok, Err, List, [], ◌∷◌, ltb, length, take}
use Rattle.refusals.specs.Numbers.{short_output}
use Rattle.refusals.specs.declared.Refusal.{Refusal}
use Rattle.slices.specs.FixedBytes.{fixed_of}
use Rattle.slices.specs.Put.{put_at}
use Rattle.ash.specs.Size.{frame_max}
use Rattle.cutter.specs.Cutting.{Place, between, inside, passing, Step, goes_on, hands_on, step_of}
use Rattle.cutter.specs.declared.state.Place as kinds
use Rattle.cutter.specs.declared.state.Place.TheVariants.{Between, Inside, Passing}
use Rattle.cutter.specs.declared.state.Cutter.{Cutter}
use Rattle.cutter.specs.declared.state.Cut.{Cut}

-- a frame under way has at most one byte less than the longest
abbrev pub held_max : ℕ
held_max = frame_max - 1

-- how a state stands for a place: in a frame its first bytes are those that have come
abbrev pub place_of : kinds.Place → List ℕ → Place
place_of Between bytes = between
place_of Inside bytes = inside bytes
place_of Passing bytes = passing

-- a state's length is taken as at most so many, whoever made it
abbrev pub place_in : Cutter → Place
place_in cutter = place_of cutter.place (take (min cutter.held.length held_max) cutter.held.bytes)

-- the state that a call leaves: beyond the bytes held it is 0
abbrev pub cutter_of : Place → Cutter
cutter_of between = record { place = Between; held = fixed_of frame_max [] }
cutter_of (inside held) = record { place = Inside; held = fixed_of frame_max held }
cutter_of passing = record { place = Passing; held = fixed_of frame_max [] }

abbrev pub fresh_cutter : Cutter
fresh_cutter = cutter_of between

-- how far a walk over a piece came, and what its last byte did
pub record Walk : Type 0 where
  pub last : Step
  pub taken : ℕ

-- one byte, the n-th, and then the rest of the piece
abbrev pub go_on : Step → ℕ → (Place → ℕ → Walk) → Walk
go_on (goes_on place) n rest = rest place n
go_on (hands_on frame place) n rest = record { last = hands_on frame place; taken = n }

-- bytes are taken up to and with the one that makes a frame be handed on, or all; n were taken before
unfoldable pub walk_of : List ℕ → Place → ℕ → Walk
walk_of [] place n = record { last = goes_on place; taken = n }
walk_of (b ∷ bs) place n = go_on (step_of place b) (suc n) (λ place₁ n₁. walk_of bs place₁ n₁)

-- what a call gives: the state after it, the bytes taken, the answer, and the bytes put at the start of the buffer
pub record Call : Type 0 where
  pub cutter : Cutter
  pub taken : ℕ
  pub answer : Result (Option ℕ) Refusal
  pub frame : List ℕ

abbrev pub call_of : Step → ℕ → Call
call_of (goes_on place) n = record { cutter = cutter_of place; taken = n; answer = Ok None; frame = [] }
call_of (hands_on frame place) n = record { cutter = cutter_of place; taken = n; answer = Ok (Some (length frame)); frame = frame }

abbrev pub walk_call : Walk → Call
walk_call walk = call_of walk.last walk.taken

-- a buffer under 64 bytes is refusal 7: nothing is taken, nothing changed
abbrev pub short_call : Cutter → Call
short_call cutter = record { cutter = cutter; taken = 0; answer = Err short_output; frame = [] }

unfoldable pub cut_of : Cutter → List ℕ → ℕ → Call
cut_of cutter piece room = cond (ltb room frame_max) (short_call cutter) (walk_call (walk_of piece (place_in cutter) 0))

-- how the code answers a call
abbrev pub cut_by : Call → Cut
cut_by call = record { cutter = call.cutter; taken = call.taken; answer = call.answer }

pub record CutsAs (call : Call) (frame₀ : List ℕ) (result : Cut) (frame₁ : List ℕ) : Type 0 where
  pub answers : result ≡ cut_by call
  pub frame_handed_on : frame₁ ≡ put_at frame₀ 0 call.frame
