use Rattle.std.proofs.Common.{◌≡◌, map, take}
use Rattle.rlp_trie.specs.{Ordered.pairs_from, OrderedPairs.{seen_pair, slice_bytes}}
use Rattle.rlp_trie.proofs.ordered.ordered_root.Given as goal

abbrev pub invariant-loop-index : goal.invariant-loop-index
invariant-loop-index l = map seen_pair l.pairs.items ≡ pairs_from 0 (take l.index (map slice_bytes l.values))
