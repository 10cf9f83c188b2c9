use Rattle.rlp_records.specs.KnownOrOther.{any_alone, with_others}
use Rattle.rlp_show.proofs.LineLemmas.{fault_put, placed, value_put}
use Rattle.rlp_show.proofs.known.put_alone.Goals as goal

pub returns-in-Ok : goal.returns-in-Ok
returns-in-Ok g c = λ shown same.
    value_put _ _ _ _ (any_alone g.T.Eip2718.types c.args.given.now.bytes.now) shown _ _ _ ((with_others g.T.Eip2718.types).reading.seen c.in-Ok.value) _
    c.in-Ok.ensures.value (same c.in-Ok.value) c.put_value.ensures

pub returns-in_ok-put_path_alone-in-Err : goal.returns-in_ok-put_path_alone-in-Err
returns-in_ok-put_path_alone-in-Err g c = λ shown same.
    fault_put _ _ _ _ (any_alone g.T.Eip2718.types c.args.given.now.bytes.now) shown _ _ _ c.in-Err.fault _
    (placed _ _ _ _ _ c.in-Err.ensures.fault c.in_ok-put_path_alone-in-Err.ensures (cc)) c.put_fault.ensures.memory c.put_fault.ensures.text
