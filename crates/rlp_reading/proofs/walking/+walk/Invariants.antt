use Rattle.std.proofs.Common.{◌-◌, length}
use Rattle.rlp_reading.proofs.Trees.Walks.{IsWalking}
use Rattle.rlp_reading.proofs.walking.+walk.Given as goal

abbrev pub decreases-walk : goal.decreases-walk
decreases-walk g l = l.left

-- the first items were walked, and their rows follow the list's own
abbrev pub invariant-loop-rest : goal.invariant-loop-rest
invariant-loop-rest g l = IsWalking g.R.FlatRow.row_of l.framed.item.now l.rest l.framed.header l.place l.depth (l.left - 1) l.fn.out l.count l.out l.rows

abbrev pub decreases-loop-rest : goal.decreases-loop-rest
decreases-loop-rest g l = length l.rest
