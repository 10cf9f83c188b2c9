use Rattle.std.proofs.Common.{ap, arith, length, length-append}
use Rattle.rlp_trie.proofs.OrderedBodies.{path_more}
use Rattle.rlp_trie.proofs.ordered.paths_of.Goals as goal

pub loop-place-preserved : goal.loop-place-preserved
loop-place-preserved c = (
  omega (arith, c.loop-place.invariant.0, simp length-append at (ap length c.in_ok-push.ensures.items)),
  path_more c.loop-place.place _ _ _ c.in_ok-push.ensures.items c.loop-place.invariant.1 c.in_ok-path_of.ensures,
)
