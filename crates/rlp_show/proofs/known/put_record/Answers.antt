use Rattle.rlp.specs.Views.View.{strict_view_of}
use Rattle.rlp_show.proofs.LineLemmas.{fault_put, value_put}
use Rattle.rlp_show.proofs.known.put_record.Goals as goal

pub returns-in-Ok : goal.returns-in-Ok
returns-in-Ok g c = λ shown same.
    let is = rw c.new_strict.ensures at c.in-Ok.ensures.value in
    value_put _ _ _ _ (g.T.Decodable.reading.read (strict_view_of c.args.given.now.bytes.now)) shown _ _ _ (g.T.Decodable.reading.seen c.in-Ok.value) _ is
    (same c.in-Ok.value) c.put_value.ensures

pub returns-in-Err : goal.returns-in-Err
returns-in-Err g c = λ shown same.
    let told = rw c.new_strict.ensures at c.in-Err.ensures.fault in
    fault_put _ _ _ _ (g.T.Decodable.reading.read (strict_view_of c.args.given.now.bytes.now)) shown _ _ _ c.in-Err.fault.fault c.in-Err.fault.path.items told
    c.put_fault.ensures.memory c.put_fault.ensures.text
