use Rattle.std.proofs.Common.{◌≡◌, map, take}
use Rattle.rlp_trie.specs.{Ordered.below, OrderedPairs.seen_pair}
use Rattle.rlp_trie.proofs.ordered.below.Given as goal

abbrev pub invariant-loop-pair : goal.invariant-loop-pair
invariant-loop-pair l = map seen_pair l.found.items ≡ below l.nibble (map seen_pair (take l.pair-index l.pairs))
