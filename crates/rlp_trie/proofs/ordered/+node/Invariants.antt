use Rattle.std.proofs.Common.{◌≡◌, ◌-◌, map}
use Rattle.rlp.specs.Format.Encoding.{join}
use Rattle.rlp_trie.specs.{Ordered.{below, in_turn, node, reference}, OrderedPairs.seen_pair}
use Rattle.rlp_trie.proofs.ordered.+node.Given as goal

abbrev pub decreases-node : goal.decreases-node
decreases-node l = l.turns

abbrev pub invariant-loop-nibble : goal.invariant-loop-nibble
invariant-loop-nibble l =
    l.items.items ≡ join (in_turn (λ k. reference (node (l.turns - 1) (below k (map seen_pair l.pairs)))) 0 l.nibble)
