use Rattle.rlp_trie.proofs.WalkLemmas.{unread_as}
use Rattle.rlp_trie.proofs.walk.read_node.Goals as goal

pub returns-in-Err-clause-fault : goal.returns-in-Err-clause-fault
returns-in-Err-clause-fault c = unread_as c.args.bytes.now c.in-Err.fault c.read_fault.result c.read_fault.ensures c.in-Err.ensures.fault
