use Rattle.std.proofs.Common.{◌≡◌, map, take}
use Rattle.rlp_trie.specs.{Ordered.shared, OrderedPairs.seen_pair}
use Rattle.rlp_trie.proofs.ordered.shared.Given as goal

abbrev pub invariant-loop-pair : goal.invariant-loop-pair
invariant-loop-pair l = l.own ≡ shared l.path (map seen_pair (take l.pair-index l.pairs))
