use Rattle.std.proofs.Common.{rules}
use Rattle.rlp_trie.proofs.PathLemmas.{pair_more, pairs_are}
use Rattle.rlp_trie.proofs.hex_prefix.push_bytes.Goals as goal

pub loop-rest-preserved : goal.loop-rest-preserved
loop-rest-preserved c = (
  pairs_are _ c.loop-rest.rest.now c.loop-rest.invariant.0,
  pair_more _ c.loop-rest.rest.now c.loop-rest.bytes.items _ _ (search rules) (search rules) (search rules) c.loop-rest.invariant.1,
)
