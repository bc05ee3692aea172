-- What the writer of a frame refuses, the event refuses: its answer, and an output left as it was.
use Rattle.std.proofs.Common.{◌≡◌, ℕ, List, Result, Err, sym, ◌∙◌}
use Rattle.refusals.specs.declared.Refusal.{Refusal}
use Rattle.slices.proofs.Impossible.{impossible}
use Rattle.slices.specs.Written as writer
use Rattle.slices.specs.Written.{Output, WritesAs}
use Rattle.sender.specs.Events.{goes_out, SendsAs}
use Rattle.sender.specs.declared.state.Answer.{Answer}
use Rattle.sender.specs.declared.state.Answer.TheVariants.{Refused}
use Rattle.sender.specs.declared.state.Outcome.{Outcome}
use Rattle.sender.specs.declared.state.Sender.{Sender}

module _ (before behind : Sender) (says : ℕ → Answer) (out out₁ : List ℕ) (told : Result ℕ Refusal) (n : Refusal) (r : Outcome) where
  pub not_sent : (o : Output) → WritesAs o out told out₁ → told ≡ Err n → r ≡ record { sender = before; answer = Refused n }
      → SendsAs (goes_out o before behind says) out r out₁
  not_sent (writer.written bytes) did e is = let other = sym e ∙ did.answers in impossible cc
  not_sent (writer.refused m) did e is =
      let other = sym e ∙ did.answers in
      let same : n ≡ m = cc in
      record { answers = rw same at is; sends = did.put }
