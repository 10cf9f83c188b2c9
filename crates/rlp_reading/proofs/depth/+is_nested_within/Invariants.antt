use Rattle.std.proofs.Common.{◌≡◌, ◌≤◌, ◌-◌, ◌++◌, length, map, List, ℕ}
use Rattle.rlp_reading.specs.{Format.Framing.{items, split}, Views.Depth.{depth, greatest}}
use Rattle.rlp_reading.proofs.depth.+is_nested_within.Given as goal

abbrev pub decreases-is_nested_within : goal.decreases-is_nested_within
decreases-is_nested_within l = l.limit

-- the first items are within the limit, and the others are those of the rest
abbrev pub invariant-loop-others : goal.invariant-loop-others
invariant-loop-others l = record {
  done : List (List ℕ);
  all : done ++ split l.rest ≡ items l.framed.item.now;
  shallow : greatest (map depth done) ≤ l.limit - 1;
}

abbrev pub decreases-loop-others : goal.decreases-loop-others
decreases-loop-others l = length l.rest
