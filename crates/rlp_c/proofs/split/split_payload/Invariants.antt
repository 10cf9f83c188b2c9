use Rattle.std.proofs.Common.{length}
use Rattle.rlp_c.proofs.Splitting.{IsSplitting}
use Rattle.rlp_c.proofs.split.split_payload.Given as goal

-- the first items have rows, and the others are those of the rest
abbrev pub invariant-loop-rest : goal.invariant-loop-rest
invariant-loop-rest l = IsSplitting l.fn.payload l.rest l.place l.fn.out l.out l.count

abbrev pub decreases-loop-rest : goal.decreases-loop-rest
decreases-loop-rest l = length l.rest
