use Rattle.std.proofs.Common.{rules, arith, inl}
use Rattle.rlp_reading.specs.Laws.{form_of}
use Rattle.rlp_records.proofs.{Bounds.{bounded_fails, bounded_given, read_within, refused_read}, Faults.fault_first}
use Rattle.rlp_records.proofs.bounded.decode_at_most.Goals as goal

pub returns-in-Ok-clause-bounded : goal.returns-in-Ok-clause-bounded
returns-in-Ok-clause-bounded g c =
    read_within g.R.Encodable.item g.R.Encodable.fits c.args.most c.args.envelopes c.args.bytes.now c.decode_whole.result (search rules) c.in-Ok.ensures.within
    c.decode_whole.ensures.whole

pub returns-in-Ok-clause-value : goal.returns-in-Ok-clause-value
returns-in-Ok-clause-value g c =
    bounded_given c.args.most c.args.envelopes c.args.bytes.now (form_of g.R.Encodable.fits g.R.Encodable.item g.R.Decodable.reading) g.met.R.StrictRead.strict (omega arith)
    c.in-Ok.ensures.fault c.decode_whole.result c.decode_whole.ensures.whole

pub returns-in-Ok-clause-fault : goal.returns-in-Ok-clause-fault
returns-in-Ok-clause-fault g c =
    bounded_fails c.args.most c.args.envelopes c.args.bytes.now g.R.Decodable.reading.read _ _ _ c.decode_whole.result c.in-Ok.ensures.fault c.in-Ok.ensures.within
    c.decode_whole.ensures.fault

pub returns-in-Ok-clause-memory : goal.returns-in-Ok-clause-memory
returns-in-Ok-clause-memory g c v fit bounded is = fault_first c.decode_whole.result _ _ (c.decode_whole.ensures.memory v fit is)

pub returns-in-Err-clause-fault : goal.returns-in-Err-clause-fault
returns-in-Err-clause-fault g c = inl (refused_read c.args.most c.args.envelopes c.args.bytes.now g.R.Decodable.reading.read _ c.in-Err.ensures.fault)

pub returns-in-Err-clause-memory : goal.returns-in-Err-clause-memory
returns-in-Err-clause-memory g c v fit bounded is =
    absurd (c.in-Err.ensures.within (record { x = g.R.Encodable.item v; is = is; bounded = bounded }))
