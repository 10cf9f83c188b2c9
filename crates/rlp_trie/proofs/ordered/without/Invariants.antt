use Rattle.std.proofs.Common.{◌≡◌, map, take}
use Rattle.rlp_trie.specs.OrderedPairs.{seen_pair, without}
use Rattle.rlp_trie.proofs.ordered.without.Given as goal

abbrev pub invariant-loop-pair : goal.invariant-loop-pair
invariant-loop-pair l = map seen_pair l.rest.items ≡ without l.count (map seen_pair (take l.pair-index l.pairs))
