-- How an event's answer and buffers follow from what was put: one law for a refusal, one for what is given.
use mathlib.Core.Path.{◌≡◌, refl, sym, ap, ◌∙◌}
use mathlib.Core.List.{List}
use Prim.Native.Nat.{ℕ}
use lib.ListN.{length}
use Rattle.refusals.specs.declared.Refusal.{Refusal}
use Rattle.slices.specs.Put.{put_at}
use Rattle.session.specs.Frames.{bytes_of}
use Rattle.session.specs.Results.{Given, Result, refused, given, payload_handed, refusing, done, SendsAs, HandsAs, PutsAs}
use Rattle.session.specs.declared.state.Outcome.{Outcome}
use Rattle.session.specs.declared.state.Session.{Session}

pub refuses : (s : Session) (result : Result) (n : Refusal) (output : List ℕ) (o : Outcome) → result ≡ refused n → o ≡ refusing s n
    → SendsAs s result output o output
unfolding bytes_of
refuses s result n output o is told = rw is (record { answers = told; sends = refl })

pub gives : (s : Session) (result : Result) (g : Given) (output : List ℕ) (o : Outcome) (count : ℕ) (output₁ : List ℕ) → result ≡ given g
    → PutsAs g.frames output 0 count output₁ → o ≡ done g.session count (length g.handed) g.dropped → SendsAs s result output o output₁
gives s result g output o count output₁ is put told =
    rw is
    (record { answers = told ∙ ap (λ (n : ℕ). done g.session n (length g.handed) g.dropped) put.counts; sends = put.puts })

-- with what was handed up
pub hands : (s : Session) (result : Result) (output handed : List ℕ) (o : Outcome) (output₁ handed₁ up : List ℕ) → SendsAs s result output o output₁
    → payload_handed result ≡ up → handed₁ ≡ put_at handed 0 up → HandsAs s result output handed o output₁ handed₁
hands s result output handed o output₁ handed₁ up sent is put =
    record { answers = sent.answers; sends = sent.sends; hands_up = put ∙ ap (put_at handed 0) (sym is) }
