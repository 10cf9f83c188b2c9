use Rattle.std.proofs.Common.{◌↔◌, ◌≤◌, length}
use Rattle.rlp_c.specs.Tree.{AreRows}
use Rattle.rlp_c.proofs.tree.describe_tree.Given as goal

-- the first items fit
abbrev pub invariant-loop-rest : goal.invariant-loop-rest
invariant-loop-rest l = record {
  bounded : l.most ≤ 256;
  same : AreRows 256 (length l.bytes) l.least l.most l.rest ↔ AreRows 256 (length l.bytes) 0 0 l.items;
}

abbrev pub decreases-loop-rest : goal.decreases-loop-rest
decreases-loop-rest l = length l.rest
