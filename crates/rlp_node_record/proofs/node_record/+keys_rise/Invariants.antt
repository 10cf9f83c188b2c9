use Rattle.std.proofs.Common.{length}
use Rattle.rlp_node_record.proofs.node_record.+keys_rise.Given as goal

abbrev pub decreases-keys_rise : goal.decreases-keys_rise
decreases-keys_rise l = length l.pairs.now
