use Rattle.std.proofs.Common.{◌+◌, ◌≤◌, Ok}
use Rattle.rlp_tool.specs.Making.{MakesSome}
use Rattle.rlp_tool.proofs.calls.make_calls.Given as goal

-- some calls are made
abbrev pub invariant-loop : goal.invariant-loop
invariant-loop g l = record {
  made : MakesSome {T = Unit {0}} g.C.Calls.lacks (g.C.Calls.left l.fn.calls) (g.C.Calls.left l.calls) (g.C.Calls.place l.fn.calls) (g.C.Calls.place l.calls)
      l.fn.stream.state l.stream.state (Ok tt);
  within : g.C.Calls.place l.calls + g.C.Calls.size l.calls ≤ g.C.Calls.place l.fn.calls + g.C.Calls.size l.fn.calls;
}

abbrev pub decreases-loop : goal.decreases-loop
decreases-loop g l = g.C.Calls.size l.calls
