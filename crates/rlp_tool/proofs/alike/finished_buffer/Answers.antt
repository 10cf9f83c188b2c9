use Rattle.std.proofs.Common.{List, ℕ, IfErr, Result, Ok, Err, inl, subst, sym}
use Rattle.rlp.specs.{Streams.Described.IsDescribed, Streams.Stream.Call}
use Rattle.rlp_tool.specs.{Building.{IsRefusal, IsRefusalOnCopy}, StreamCalls.calls_of, declared.building.BuildFault.BuildFault}
use Rattle.rlp_tool.proofs.alike.finished_buffer.Goals as goal

-- the calls over the copy fail
on_copy : {T : Type 0} (front : List ℕ) (calls : List Call) (r : Result T BuildFault) → IfErr r (IsRefusal front calls) → IfErr r (IsRefusalOnCopy front calls)
on_copy front calls (Ok x) e = tt
on_copy front calls (Err fault) e = inl e

pub returns-in-Ok-clause-joined : goal.returns-in-Ok-clause-joined
returns-in-Ok-clause-joined g c = rw c.in-Ok.ensures.ok at c.finished_over.ensures.joined

pub returns-in-Ok-clause-described : goal.returns-in-Ok-clause-described
returns-in-Ok-clause-described g c = λ items d.
    c.finished_over.ensures.described items
    (subst (λ (front : List ℕ). IsDescribed front (calls_of g.E.Encodable.item c.args.calls.now) items) (sym c.in-Ok.ensures.ok) d)

pub returns-in-Ok-clause-taken : goal.returns-in-Ok-clause-taken
returns-in-Ok-clause-taken g c = rw c.in-Ok.ensures.ok at c.finished_over.ensures.taken

pub returns-in-Ok-clause-left_open : goal.returns-in-Ok-clause-left_open
returns-in-Ok-clause-left_open g c = rw c.in-Ok.ensures.ok at c.finished_over.ensures.left_open

pub returns-in-Ok-clause-refused : goal.returns-in-Ok-clause-refused
returns-in-Ok-clause-refused g c = on_copy c.args.front.now (calls_of g.E.Encodable.item c.args.calls.now) c.finished_over.result
    (rw c.in-Ok.ensures.ok at c.finished_over.ensures.refused)
