use Rattle.std.proofs.Common.{length}
use Rattle.rlp_c.proofs.Measuring.{IsWriting}
use Rattle.rlp_c.proofs.tree.write_tree.Given as goal

-- the last items were written
abbrev pub invariant-loop-rest : goal.invariant-loop-rest
invariant-loop-rest l = IsWriting l.bytes l.items l.rest l.sizes l.fn.out l.end l.place l.out

abbrev pub decreases-loop-rest : goal.decreases-loop-rest
decreases-loop-rest l = length l.rest
