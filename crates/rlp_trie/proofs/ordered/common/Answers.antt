use Rattle.std.proofs.Common.{rules}
use Rattle.rlp_trie.proofs.OrderedBodies.{ends_differ, ends_first, ends_second}
use Rattle.rlp_trie.proofs.ordered.common.Goals as goal
use Rattle.rlp_trie.proofs.ordered.common.Goals.{then-loop-count-test+then-count-other+else-path-count, then-loop-count-test+else-count-other, else-loop-count-test}

pub returns : goal.returns
returns c = elim c.loop-count-test.branch [
  | then-loop-count-test+then-count-other+else-path-count w ↦
      ends_differ c.loop-count.count c.args.path.now c.args.other.now (search rules) (search rules) w.if-path-count.false c.loop-count.invariant.2
  | then-loop-count-test+else-count-other w ↦ ends_second c.loop-count.count c.args.path.now c.args.other.now (search rules) c.loop-count.invariant.2
  | else-loop-count-test w ↦ ends_first c.loop-count.count c.args.path.now c.args.other.now (search rules) c.loop-count.invariant.2
]
