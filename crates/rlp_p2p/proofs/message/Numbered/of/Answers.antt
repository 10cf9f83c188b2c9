use Rattle.std.proofs.Common.{◌+◌, ◌-◌, ◌<◌, ◌^◌, ◌≡◌, arith, length}
use Rattle.rlp_format.proofs.Lemmas.Digits.{bytes_held}
use Rattle.rlp_p2p.proofs.Messages.{some_item, split_id, split_read}
use Rattle.rlp_p2p.proofs.message.Numbered.of.Goals as goal

pub returns-clause-whole : goal.returns-clause-whole
returns-clause-whole c =
    let fits : length c.args.bytes.now < 2 ^ 64 = omega arith in
    split_id c.new-view.result c.args.bytes.now c.in_ok-id.id c.new-view.ensures (bytes_held c.args.bytes.now c.type_inv.bytes) fits c.in_ok-id.ensures.value
    _ c.in_ok-body.body.now (c.args.offset + (c.in_ok-id.id - c.from-first.result)) (omega (arith, c.if-id-first.false, c.from-first.ensures))
    c.in_ok-body.ensures.item.0 c.in_ok-body.ensures.rest

pub returns-clause-value : goal.returns-clause-value
returns-clause-value c =
    let fits : length c.args.bytes.now < 2 ^ 64 = omega arith in
    let same : c.in_ok-id.id ≡ c.args.offset + (c.in_ok-id.id - c.from-first.result) = omega (arith, c.if-id-first.false, c.from-first.ensures) in
    split_read c.new-view.result c.args.bytes.now c.in_ok-id.id c.new-view.ensures (bytes_held c.args.bytes.now c.type_inv.bytes) fits c.in_ok-id.ensures.value
    c.args.offset (c.in_ok-id.id - c.from-first.result) c.in_ok-body.body.now same
    (split_id c.new-view.result c.args.bytes.now c.in_ok-id.id c.new-view.ensures (bytes_held c.args.bytes.now c.type_inv.bytes) fits c.in_ok-id.ensures.value
    _ c.in_ok-body.body.now (c.args.offset + (c.in_ok-id.id - c.from-first.result)) same c.in_ok-body.ensures.item.0 c.in_ok-body.ensures.rest)

pub returns-in_err-body-clause-fault : goal.returns-in_err-body-clause-fault
returns-in_err-body-clause-fault c =
    let fits : length c.args.bytes.now < 2 ^ 64 = omega arith in
    absurd (some_item c.new-view.result c.args.bytes.now c.in_ok-id.id c.new-view.ensures (bytes_held c.args.bytes.now c.type_inv.bytes) fits
    c.in_ok-id.ensures.value c.in_err-body.field-0.0 c.in_err-body.ensures.fault.0)
