use Rattle.std.proofs.Common.{◌≡◌, length}
use Rattle.rlp_node_record.specs.NodeKeys.{value_among}
use Rattle.rlp_node_record.proofs.lookup.value_among.Given as goal

-- the value stands among the pairs that are left
abbrev pub invariant-loop-left : goal.invariant-loop-left
invariant-loop-left l = value_among l.key l.left ≡ value_among l.key l.pairs

abbrev pub decreases-loop-left : goal.decreases-loop-left
decreases-loop-left l = length l.left
