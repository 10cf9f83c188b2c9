use Rattle.std.proofs.Common.{arith}
use Rattle.rlp_reading.proofs.{Trees.Canonical.not_whole, Trees.Walks.fault_whole}
use Rattle.rlp_reading.proofs.walking.walk_whole.Goals as goal

pub returns-in-Ok-clause-fault : goal.returns-in-Ok-clause-fault
returns-in-Ok-clause-fault g c =
    fault_whole c.in-Ok.framed.item.now c.args.bytes.now c.args.max_depth c.walk.result c.in-Ok.ensures.whole.1 c.in-Ok.ensures.fault c.walk.ensures.fault

pub returns-in-Err-clause-walked : goal.returns-in-Err-clause-walked
returns-in-Err-clause-walked g c = not_whole c.args.bytes.now c.args.max_depth c.in-Err.fault (omega arith) c.in-Err.ensures.fault
