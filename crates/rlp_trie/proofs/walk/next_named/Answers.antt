use Rattle.std.proofs.Common.{rules}
use Rattle.rlp_trie.proofs.WalkLemmas.{empty_next, no_next_of}
use Rattle.rlp_trie.proofs.walk.next_named.Goals as goal

pub returns-then-not-is_hash_of-clause-fault : goal.returns-then-not-is_hash_of-clause-fault
returns-then-not-is_hash_of-clause-fault c = no_next_of c.args.hash.now.0 c.args.nodes.now c.in-empty.len_below (search rules)

pub returns-else-not-is_hash_of-clause-value : goal.returns-else-not-is_hash_of-clause-value
returns-else-not-is_hash_of-clause-value c = empty_next c.args.hash.now.0 c.args.nodes.now c.in-empty.len_below (search rules)
