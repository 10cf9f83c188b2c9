use Rattle.std.proofs.Common.{arith}
use Rattle.rlp_reading.specs.Laws.{form_of}
use Rattle.rlp_records.{proofs.{AfterByte.{rest_fails, rest_given, rest_only, rest_whole, same_rest, with_first}, Faults.fault_first}, specs.Envelope.{another_type}}
use Rattle.rlp_records.proofs.envelope.from_envelope.Goals as goal

pub returns-in-len1-up-clause-value : goal.returns-in-len1-up-clause-value
returns-in-len1-up-clause-value g c =
    rest_given c.args.kind c.args.bytes.now _ (with_first c.args.kind c.args.bytes.now c.in-len1-up.len_at_least c.if-first-kind.true) another_type
    (form_of g.T.Encodable.fits g.T.Encodable.item g.T.Decodable.reading) g.met.T.StrictRead.strict (omega arith) c.decode_whole.result
    c.decode_whole.ensures.whole

pub returns-in-len1-up-clause-fault : goal.returns-in-len1-up-clause-fault
returns-in-len1-up-clause-fault g c =
    rest_fails c.args.kind c.args.bytes.now _ (with_first c.args.kind c.args.bytes.now c.in-len1-up.len_at_least c.if-first-kind.true) another_type
    (form_of g.T.Encodable.fits g.T.Encodable.item g.T.Decodable.reading) _ _ c.decode_whole.result c.decode_whole.ensures.fault

pub returns-in-len1-up-clause-whole : goal.returns-in-len1-up-clause-whole
returns-in-len1-up-clause-whole g c =
    rest_whole c.args.kind c.args.bytes.now _ (with_first c.args.kind c.args.bytes.now c.in-len1-up.len_at_least c.if-first-kind.true) c.decode_whole.result
    g.T.Encodable.fits g.T.Encodable.item c.decode_whole.ensures.whole

pub returns-in-len1-up-clause-only : goal.returns-in-len1-up-clause-only
returns-in-len1-up-clause-only g c v =
    rest_only c.args.kind c.args.bytes.now _ (with_first c.args.kind c.args.bytes.now c.in-len1-up.len_at_least c.if-first-kind.true) c.decode_whole.result
    g.T.Encodable.item v (c.decode_whole.ensures.only v)

pub returns-in-len1-up-clause-alike : goal.returns-in-len1-up-clause-alike
returns-in-len1-up-clause-alike g c v fit is =
    c.decode_whole.ensures.alike v fit
    (same_rest c.args.kind c.args.bytes.now _ (with_first c.args.kind c.args.bytes.now c.in-len1-up.len_at_least c.if-first-kind.true) _ is)

pub returns-in-len1-up-clause-memory : goal.returns-in-len1-up-clause-memory
returns-in-len1-up-clause-memory g c v fit is =
    fault_first c.decode_whole.result _ _ (c.decode_whole.ensures.memory v fit
    (same_rest c.args.kind c.args.bytes.now _ (with_first c.args.kind c.args.bytes.now c.in-len1-up.len_at_least c.if-first-kind.true) _ is))
