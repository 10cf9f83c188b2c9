use Rattle.std.proofs.{Common.{◌∙◌, Bool, Ok, Err, ap, true}, lemmas.Result.{err_from_is_err_and}}
use Rattle.rlp_tool.specs.{Building.WantsMemory, StreamCalls.{call_of, calls_of}}
use Rattle.rlp_tool.proofs.CallsLemmas.{fails_at, makes_finishes, makes_one, skip_none}
use Rattle.rlp_tool.proofs.building.ValuesCalls.make_next.Goals as goal

pub returns-in_err-take_finishes-clause-made : goal.returns-in_err-take_finishes-clause-made
returns-in_err-take_finishes-clause-made g c =
    let p = err_from_is_err_and c.from_residual.result c.from_residual.ensures.1 in
    rw (p.1, p.2) (makes_finishes {T = Bool} WantsMemory _ _ _ _ _ _ (Err c.in_err-take_finishes.field-0.0)
    (ap (λ cs. Ok cs) c.leading_finishes-count.ensures.split) c.in_err-take_finishes.ensures)

pub returns-then-count-gt0-clause-made : goal.returns-then-count-gt0-clause-made
returns-then-count-gt0-clause-made g c =
    makes_finishes WantsMemory _ _ _ _ _ _ (Ok true) (ap (λ cs. Ok cs) c.leading_finishes-count.ensures.split) c.in_ok-take_finishes.ensures

pub returns-in_err-take_call-clause-made : goal.returns-in_err-take_call-clause-made
returns-in_err-take_call-clause-made g c =
    let item = g.E.Encodable.item in
    let p = err_from_is_err_and c.from_residual-in_err-take_call.result c.from_residual-in_err-take_call.ensures.1 in
    rw (p.1, p.2) (fails_at Bool WantsMemory (call_of item c.in-Some.call.now) _ _ _ _ _ _
    (skip_none _ _ _ (ap (λ cs. Ok cs) c.leading_finishes-count.ensures.split) c.if-count-gt0.false ∙ ap (λ cs. Ok (calls_of item cs)) c.in-Some.ensures.cases.0)
    c.in_err-take_call.ensures.refused)

pub returns-clause-made : goal.returns-clause-made
returns-clause-made g c =
    let item = g.E.Encodable.item in
    makes_one WantsMemory true (call_of item c.in-Some.call.now) _ _ _ _ _
    (skip_none _ _ _ (ap (λ cs. Ok cs) c.leading_finishes-count.ensures.split) c.if-count-gt0.false ∙ ap (λ cs. Ok (calls_of item cs)) c.in-Some.ensures.cases.0)
    (c.in_ok-take_call.ensures.admitted, c.in_ok-take_call.ensures.brings, c.in_ok-take_call.ensures.ok)
