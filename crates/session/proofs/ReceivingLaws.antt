-- Good data of the peer's.
use mathlib.Core.Path.{◌≡◌, refl, ap}
use mathlib.Core.List.{List}
use Prim.Native.Nat.{ℕ}
use Rattle.session.specs.Frames.{Sent}
use Rattle.session.specs.Results.{Result, given, payload_handed, HandsAs, PutsAs}
use Rattle.session.specs.Receiving.{ack_for, answered}
use Rattle.session.specs.Steps.{AnswersAs}
use Rattle.session.specs.declared.state.Outcome.{Outcome}
use Rattle.session.specs.declared.state.Session.{Session}
use Rattle.session.proofs.FrameLaws.{put_behind}
use Rattle.session.proofs.ResultLaws.{gives, hands}

-- good data is answered behind the frames that were put before
pub answers_behind : (s₀ s : Session) (before : List Sent) (payload : List ℕ) (result : Result) (output output₁ handed : List ℕ) (sent : ℕ) (o : Outcome)
    (output₂ handed₁ : List ℕ) → result ≡ given (answered s before payload) → PutsAs before output 0 sent output₁
    → AnswersAs s payload sent output₁ handed o output₂ handed₁ → HandsAs s₀ result output handed o output₂ handed₁
answers_behind s₀ s before payload result output output₁ handed sent o output₂ handed₁ is put did =
    let ack : PutsAs (ack_for s payload) output₁ sent _ output₂ = record { counts = refl; puts = did.sends } in
    let sends = gives s₀ result (answered s before payload) output o _ output₂ is (put_behind before (ack_for s payload) output sent _ output₁ output₂ put ack) did.answers in
    hands s₀ result output handed o output₂ handed₁ payload sends (ap payload_handed is) did.hands_up
