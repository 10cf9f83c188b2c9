use Rattle.std.proofs.Common.{◌<◌, ◌^◌, ◌≡◌, None, OnOk, arith, length, subst, sym}
use Rattle.std.specs.Prelude.{◌⊎◌, Err, IfErr, IsTrue, Some}
use Rattle.rlp.specs.{DecoderError.TheVariants.OutOfMemory, Form.fault_of, Views.View.strict_view_of}
use Rattle.rlp_p2p.proofs.WithinBounds.{bounded_fault, bounded_value, bounded_within}
use Rattle.rlp_p2p.specs.Message.{items_fault}
use Rattle.rlp_p2p.proofs.message.decode_within.Goals as goal

pub returns-in-Some-clause-value : goal.returns-in-Some-clause-value
returns-in-Some-clause-value g c =
    bounded_value c.in-Some.most c.args.envelopes c.args.bytes.now g.R.Decodable.reading.read g.R.Decodable.reading.seen c.decode_at_most.result c.decode_at_most.ensures.value

pub returns-in-Some-clause-within : goal.returns-in-Some-clause-within
returns-in-Some-clause-within g c =
    subst (λ most. OnOk c.decode_at_most.result (items_fault most c.args.envelopes c.args.bytes.now ≡ None)) (sym c.in-Some.is)
    (bounded_within c.in-Some.most c.args.envelopes c.args.bytes.now g.R.Decodable.reading.read g.R.Decodable.reading.seen c.decode_at_most.result c.decode_at_most.ensures.value)

pub returns-in-Some-clause-fault : goal.returns-in-Some-clause-fault
returns-in-Some-clause-fault g c =
    let short : length c.args.bytes.now < 2 ^ 64 = omega arith in
    subst (λ most. IfErr c.decode_at_most.result (λ e. (items_fault most c.args.envelopes c.args.bytes.now ≡ Some (fault_of e))
    ⊎ ((items_fault most c.args.envelopes c.args.bytes.now ≡ None) × (((g.R.Decodable.reading.read (strict_view_of c.args.bytes.now)).result ≡ Err (fault_of e)) ⊎ (e ≡ OutOfMemory)))))
    (sym c.in-Some.is)
    (bounded_fault c.in-Some.most c.args.envelopes c.args.bytes.now g.R.Decodable.reading.read g.R.Decodable.reading.seen c.decode_at_most.result
    (IsTrue g.R.Decodable.reading.takes_memory) short c.decode_at_most.ensures.fault)
