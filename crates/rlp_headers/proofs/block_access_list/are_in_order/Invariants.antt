use Rattle.std.proofs.Common.{◌≡◌, length, map}
use Rattle.rlp_headers.specs.AccessOrder.{in_order}
use Rattle.rlp_headers.proofs.block_access_list.are_in_order.Given as goal

-- the values that are left are in order if all are
abbrev pub invariant-loop-rest : goal.invariant-loop-rest
invariant-loop-rest g l =
    in_order g.T.Ordered.before g.T.Ordered.inside (map g.T.Ordered.seen l.rest)
    ≡ in_order g.T.Ordered.before g.T.Ordered.inside (map g.T.Ordered.seen l.initial.rest)

abbrev pub decreases-loop-rest : goal.decreases-loop-rest
decreases-loop-rest g l = length l.rest
