use Rattle.std.proofs.Common.{ℕ, ◌<◌, ◌^◌, length, arith, inl, Err}
use Rattle.rlp_format.proofs.Lemmas.Digits.{bytes_held}
use Rattle.rlp_p2p.proofs.{Messages.message_whole, WithinBounds.{fault_within, id_fails_within, memory_within, too_many_bytes, value_within}}
use Rattle.rlp_p2p.proofs.message.Message.from_message_at_most.Goals as goal

pub returns-then-bytes-most-clause-fault : goal.returns-then-bytes-most-clause-fault
returns-then-bytes-most-clause-fault g c = inl (too_many_bytes g.Self.Message.table c.args.offset c.args.most c.args.bytes.now c.if-bytes-most.true)

pub returns-in-Err-clause-fault : goal.returns-in-Err-clause-fault
returns-in-Err-clause-fault g c =
    inl (id_fails_within g.Self.Message.table c.args.offset c.args.most c.args.bytes.now c.if-bytes-most.false c.in-Err.fault c.in-Err.ensures.fault)

pub returns-in-Err-clause-memory : goal.returns-in-Err-clause-memory
returns-in-Err-clause-memory g c =
    let short : length c.args.bytes.now < 2 ^ 64 = omega arith in
    λ m fit is within. memory_within g.Self.Message.table c.args.offset c.args.most c.args.bytes.now within.0 c.ranges.offset.fits short m fit is within.1
    {R = ℕ} (Err c.in-Err.fault) (returns-in-Err-clause-fault g c)

pub returns-in-Ok-clause-whole : goal.returns-in-Ok-clause-whole
returns-in-Ok-clause-whole g c =
    message_whole g.Self.Message.table c.args.offset c.args.bytes.now (c.in-Ok.message.number, c.in-Ok.message.body.now) c.in-Ok.ensures.value
    (bytes_held c.args.bytes.now c.type_inv.bytes) (omega arith) c.decode_body.result c.decode_body.ensures.value

pub returns-in-Ok-clause-value : goal.returns-in-Ok-clause-value
returns-in-Ok-clause-value g c =
    value_within g.Self.Message.table c.args.offset c.args.most c.args.bytes.now c.if-bytes-most.false (c.in-Ok.message.number, c.in-Ok.message.body.now)
    c.in-Ok.ensures.value c.decode_body.result c.decode_body.ensures.value c.decode_body.ensures.within

pub returns-in-Ok-clause-fault : goal.returns-in-Ok-clause-fault
returns-in-Ok-clause-fault g c =
    fault_within g.Self.Message.table c.args.offset c.args.most c.args.bytes.now c.if-bytes-most.false (c.in-Ok.message.number, c.in-Ok.message.body.now)
    c.in-Ok.ensures.value c.decode_body.result c.decode_body.ensures.fault

pub returns-in-Ok-clause-memory : goal.returns-in-Ok-clause-memory
returns-in-Ok-clause-memory g c =
    let short : length c.args.bytes.now < 2 ^ 64 = omega arith in
    λ m fit is within. memory_within g.Self.Message.table c.args.offset c.args.most c.args.bytes.now within.0 c.ranges.offset.fits short m fit is within.1
    c.decode_body.result (returns-in-Ok-clause-fault g c)
