-- `transfer::taking::take` meets its contract: the verdict settles the transfer and the answer, and what is put is the value of the Binary.
use Rattle.transfer.proofs.JudgeLaws.{takes_fragment}
use Rattle.transfer.proofs.taking.take.Goals as goal

pub returns-in-Ok : goal.returns-in-Ok
returns-in-Ok c =
    rw c.advanced.ensures
    (takes_fragment c.args.transfer c.args.packet.now c.args.file.now c.value_at-bytes.result.now c.put.new.dst c.in-Ok.fragment c.in-Ok.ensures c.value_at-bytes.ensures c.put.ensures)
