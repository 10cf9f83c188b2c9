use Rattle.std.proofs.Common.{ℕ, ◌<◌, ◌^◌, length, arith, inl, Err}
use Rattle.rlp_format.proofs.Lemmas.Digits.{bytes_held}
use Rattle.rlp_p2p.proofs.{Messages.{body_fails, body_value, id_fails, memory_message, message_whole}, WithinBounds.without_bound}
use Rattle.rlp_p2p.proofs.message.Message.from_message.Goals as goal

pub returns-in-Err-clause-fault : goal.returns-in-Err-clause-fault
returns-in-Err-clause-fault g c = inl (id_fails g.Self.Message.table c.args.offset c.args.bytes.now c.in-Err.fault c.in-Err.ensures.fault)

pub returns-in-Err-clause-memory : goal.returns-in-Err-clause-memory
returns-in-Err-clause-memory g c =
    let short : length c.args.bytes.now < 2 ^ 64 = omega arith in
    λ m fit is. memory_message g.Self.Message.table c.args.offset c.args.bytes.now c.ranges.offset.fits short m fit is {R = ℕ} (Err c.in-Err.fault)
    (inl (id_fails g.Self.Message.table c.args.offset c.args.bytes.now c.in-Err.fault c.in-Err.ensures.fault))

pub returns-in-Ok-clause-whole : goal.returns-in-Ok-clause-whole
returns-in-Ok-clause-whole g c =
    message_whole g.Self.Message.table c.args.offset c.args.bytes.now (c.in-Ok.message.number, c.in-Ok.message.body.now) c.in-Ok.ensures.value
    (bytes_held c.args.bytes.now c.type_inv.bytes) (omega arith) c.decode_body.result c.decode_body.ensures.value

pub returns-in-Ok-clause-value : goal.returns-in-Ok-clause-value
returns-in-Ok-clause-value g c =
    body_value g.Self.Message.table c.args.offset c.args.bytes.now (c.in-Ok.message.number, c.in-Ok.message.body.now) c.in-Ok.ensures.value
    c.decode_body.result c.decode_body.ensures.value

pub returns-in-Ok-clause-fault : goal.returns-in-Ok-clause-fault
returns-in-Ok-clause-fault g c =
    body_fails g.Self.Message.table c.args.offset c.args.bytes.now (c.in-Ok.message.number, c.in-Ok.message.body.now) c.in-Ok.ensures.value
    c.decode_body.result (without_bound g.Self.Message.table c.in-Ok.message.number c.in-Ok.message.body.now _
    c.decode_body.result c.decode_body.ensures.fault)

pub returns-in-Ok-clause-memory : goal.returns-in-Ok-clause-memory
returns-in-Ok-clause-memory g c =
    let short : length c.args.bytes.now < 2 ^ 64 = omega arith in
    λ m fit is. memory_message g.Self.Message.table c.args.offset c.args.bytes.now c.ranges.offset.fits short m fit is c.decode_body.result
    (returns-in-Ok-clause-fault g c)
