use Rattle.std.proofs.Common.{length}
use Rattle.rlp_write.proofs.Streams.Closings.{Planned}
use Rattle.rlp_write.proofs.closing.plan_count.Given as goal

abbrev pub invariant-loop-list : goal.invariant-loop-list
invariant-loop-list l = Planned l.fn.items l.fn.end l.fn.lists l.closing l.growth l.left l.tail l.counted l.rest

abbrev pub decreases-loop-list : goal.decreases-loop-list
decreases-loop-list l = length l.rest
