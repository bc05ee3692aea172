-- `packet::names::all_name_bytes` meets its contract: `all` tests each byte, as the definition does.
use Rattle.std.proofs.Common.{refl, rules}
use Rattle.std.proofs.lemmas.List.Recursion.{and_is}
use Rattle.packet.specs.Names.{is_name_byte, all_name_bytes}
use Rattle.packet.proofs.names.all_name_bytes.Goals as goal

pub returns : goal.returns
unfolding all_name_bytes
returns c = and_is all_name_bytes is_name_byte refl (λ _ _. refl) c.args.name.now 0 c.all.result (search rules) (search rules)
