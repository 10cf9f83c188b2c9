use Rattle.std.proofs.Common.{arith}
use Rattle.rlp_tool.proofs.CallsLemmas.{admitted_other, step_finish, step_other, step_tested}
use Rattle.rlp_tool.proofs.building.admit.Goals as goal

pub returns-in-Raw-clause-brings : goal.returns-in-Raw-clause-brings
returns-in-Raw-clause-brings g c = step_tested _ _ _ _ _ _ _
    c.in-Raw.is c.as_slice.ensures.value c.parts_of_sized_are_sized.ensures.join (omega arith) c.admit_raw.ensures.brings

pub returns-then-can_finalize-clause-brings : goal.returns-then-can_finalize-clause-brings
returns-then-can_finalize-clause-brings g c = step_finish g.E.Encodable.item c.args.call.now c.args.stream.now.state c.in-Finish.is

pub returns-in_default : goal.returns-in_default
returns-in_default g c = record {
  ok = admitted_other g.E.Encodable.item c.args.call.now c.args.stream.now.state c.in_default.not-Raw c.in_default.not-Finish;
  brings = step_other g.E.Encodable.item c.args.call.now c.args.stream.now.state c.in_default.not-Raw;
  refused = tt;
}
