use Rattle.std.proofs.Common.{length, map}
use Rattle.std.specs.Vec.{vec_items}
use Rattle.rlp_trie.specs.Child.{child_item}
use Rattle.rlp_trie.proofs.WalkLemmas.{IsOnWay}
use Rattle.rlp_trie.proofs.walk.walk.Given as goal

abbrev pub invariant-loop-child : goal.invariant-loop-child
invariant-loop-child l = IsOnWay (map vec_items l.fn.nodes) (child_item l.fn.first) l.fn.path (map vec_items l.left) (child_item l.child) l.rest

abbrev pub decreases-loop-child : goal.decreases-loop-child
decreases-loop-child l = length l.rest
