use Rattle.std.proofs.Common.{length}
use Rattle.rlp_write.proofs.Streams.Closings.{Found}
use Rattle.rlp_write.proofs.open_lists.OpenLists.count_unbounded.Given as goal

abbrev pub invariant-loop-count : goal.invariant-loop-count
invariant-loop-count l = Found l.fn.most l.fn.self l.count l.rest

abbrev pub decreases-loop-count : goal.decreases-loop-count
decreases-loop-count l = length l.rest
