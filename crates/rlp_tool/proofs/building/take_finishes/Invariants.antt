use Rattle.std.proofs.Common.{◌≤◌, ◌-◌, replicate}
use Rattle.rlp.specs.Streams.Stream.{finalize_unbounded_list}
use Rattle.rlp_tool.specs.Making.{AreMade}
use Rattle.rlp_tool.proofs.building.take_finishes.Given as goal

-- some of the calls are made
abbrev pub invariant-loop-made : goal.invariant-loop-made
invariant-loop-made l = record {
  so_far : AreMade l.fn.stream.state (replicate l.made finalize_unbounded_list) l.stream.state;
  within : l.made ≤ l.count;
}

abbrev pub decreases-loop-made : goal.decreases-loop-made
decreases-loop-made l = l.count - l.made
