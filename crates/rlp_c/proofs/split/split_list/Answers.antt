use Rattle.std.proofs.Common.{inl, inr, refl, arith}
use Rattle.rlp_c.proofs.Splitting.{itemized}
use Rattle.rlp_c.proofs.split.split_list.Goals as goal

pub returns-then-items-out : goal.returns-then-items-out
returns-then-items-out c =
    itemized c.args.place c.args.bytes.now c.in-Ok.list.content.now c.in-Ok.list.header c.if-not-begins_as_list.ensures c.args.out.now c.split_payload.new.out
    c.args.count.now c.in-Ok-split_payload.items 0 c.in-Ok.ensures.fault c.in-Ok.ensures.value c.in-Ok.ensures.header c.in-Ok-split_payload.ensures.fault
    c.in-Ok-split_payload.ensures.count c.in-Ok-split_payload.ensures.rows
    (inl (omega (arith, c.if-items-out.true, c.in-Ok-split_payload.ensures.rows.same_len), refl))

pub returns-else-items-out : goal.returns-else-items-out
returns-else-items-out c =
    itemized c.args.place c.args.bytes.now c.in-Ok.list.content.now c.in-Ok.list.header c.if-not-begins_as_list.ensures c.args.out.now c.split_payload.new.out
    c.args.count.now c.in-Ok-split_payload.items 13 c.in-Ok.ensures.fault c.in-Ok.ensures.value c.in-Ok.ensures.header c.in-Ok-split_payload.ensures.fault
    c.in-Ok-split_payload.ensures.count c.in-Ok-split_payload.ensures.rows
    (inr (omega (arith, c.if-items-out.false, c.in-Ok-split_payload.ensures.rows.same_len), refl))
