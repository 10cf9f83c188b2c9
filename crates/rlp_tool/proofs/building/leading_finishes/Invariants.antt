use Rattle.std.proofs.Common.{◌≡◌, ◌+◌, ◌++◌, length, replicate}
use Rattle.rlp.specs.Streams.Stream.{finalize_unbounded_list}
use Rattle.rlp_tool.specs.StreamCalls.{calls_of}
use Rattle.rlp_tool.proofs.building.leading_finishes.Given as goal

-- the calls so far are `Finish`
abbrev pub invariant-loop-rest : goal.invariant-loop-rest
invariant-loop-rest g l = record {
  split : calls_of g.E.Encodable.item l.calls ≡ replicate l.count finalize_unbounded_list ++ calls_of g.E.Encodable.item l.rest;
  counted : length l.calls ≡ l.count + length l.rest;
}

abbrev pub decreases-loop-rest : goal.decreases-loop-rest
decreases-loop-rest g l = length l.rest
