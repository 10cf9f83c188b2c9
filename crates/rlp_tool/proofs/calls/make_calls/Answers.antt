use Rattle.std.proofs.lemmas.Result.{err_from_is_err_and}
use Rattle.rlp_tool.proofs.CallsLemmas.{fails_more}
use Rattle.rlp_tool.proofs.calls.make_calls.Goals as goal

pub returns-in_err-make_next-clause-made : goal.returns-in_err-make_next-clause-made
returns-in_err-make_next-clause-made g c =
    let p = err_from_is_err_and c.from_residual.result c.from_residual.ensures.1 in
    rw (p.1, p.2) (fails_more c.loop.invariant.made c.in_err-make_next.ensures.made)
