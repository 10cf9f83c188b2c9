use Rattle.std.proofs.{Common.{◌∙◌, Bool, Ok, Err, Some, ap, true}, lemmas.Result.err_from_is_err_and}
use Rattle.rlp_tool.specs.{Making.WantsMemoryInScript, Pieces.piece_call}
use Rattle.rlp_tool.proofs.{CutLemmas.read-next, CallsLemmas.{fails_at, makes_finishes, makes_one, one_more, stopped_in_script}}
use Rattle.rlp_tool.proofs.making.ScriptCalls.make_next.Goals as goal

pub returns-in_err-take_finishes-clause-made : goal.returns-in_err-take_finishes-clause-made
returns-in_err-take_finishes-clause-made c =
    let p = err_from_is_err_and c.from_residual.result c.from_residual.ensures.1 in
    rw (p.1, p.2) (makes_finishes {T = Bool} WantsMemoryInScript _ _ _ _ _ _ (Err c.in_err-take_finishes.field-0.0)
    (one_more _ _ _ c.leading_finishes-count.result.0
    (read-next _ c.next_piece.result.1 _ _ _ _ c.in-Some.is c.next_piece.ensures.cut (c.in-Some-piece.is ∙ ap Some c.in-Finish.is) c.next_piece.ensures.read)
    c.leading_finishes-count.ensures.split) (stopped_in_script c.in_err-take_finishes.ensures))

pub returns-in-Finish-clause-made : goal.returns-in-Finish-clause-made
returns-in-Finish-clause-made c =
    makes_finishes WantsMemoryInScript _ _ _ _ _ _ (Ok true)
    (one_more _ _ _ c.leading_finishes-count.result.0
    (read-next _ c.next_piece.result.1 _ _ _ _ c.in-Some.is c.next_piece.ensures.cut (c.in-Some-piece.is ∙ ap Some c.in-Finish.is) c.next_piece.ensures.read)
    c.leading_finishes-count.ensures.split) c.in_ok-take_finishes.ensures

pub returns-in_err-take_piece-clause-made : goal.returns-in_err-take_piece-clause-made
returns-in_err-take_piece-clause-made c =
    let p = err_from_is_err_and c.from_residual-in_err-take_piece.result c.from_residual-in_err-take_piece.ensures.1 in
    rw (p.1, p.2) (fails_at Bool WantsMemoryInScript (piece_call c.in-Some-piece.piece) _ _ _ _ _ _
    (read-next _ c.next_piece.result.1 _ _ _ _ c.in-Some.is c.next_piece.ensures.cut c.in-Some-piece.is c.next_piece.ensures.read)
    c.in_err-take_piece.ensures.refused)

pub returns-clause-made : goal.returns-clause-made
returns-clause-made c =
    makes_one WantsMemoryInScript true (piece_call c.in-Some-piece.piece) _ _ _ _ _
    (read-next _ c.next_piece.result.1 _ _ _ _ c.in-Some.is c.next_piece.ensures.cut c.in-Some-piece.is c.next_piece.ensures.read)
    c.in_ok-take_piece.ensures.ok
