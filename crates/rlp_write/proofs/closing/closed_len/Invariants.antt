use Rattle.std.proofs.Common.{length}
use Rattle.rlp_write.proofs.Streams.ClosedSize.{Measured}
use Rattle.rlp_write.proofs.closing.closed_len.Given as goal

abbrev pub invariant-loop-list : goal.invariant-loop-list
invariant-loop-list l = Measured l.fn.start l.fn.end l.fn.more l.fn.lists l.left l.tail l.rest

abbrev pub decreases-loop-list : goal.decreases-loop-list
decreases-loop-list l = length l.rest
