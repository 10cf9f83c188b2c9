use Rattle.std.proofs.Common.{arith, rules}
use Rattle.rlp_records.proofs.Bounds.{more_inside, more_items, no_fault, not_more, not_more_inside}
use Rattle.rlp_records.proofs.bounded.test_bounds.Goals as goal

pub returns-then-count-most-clause-within : goal.returns-then-count-most-clause-within
returns-then-count-most-clause-within c =
    not_more c.args.most c.in-Ok.count c.args.envelopes c.args.bytes.now _ _ c.in-Ok.ensures.walked (search rules) (omega arith)

pub returns-then-count-most-clause-fault : goal.returns-then-count-most-clause-fault
returns-then-count-most-clause-fault c =
    more_items c.args.most c.in-Ok.count c.args.envelopes c.args.bytes.now _ _ c.in-Ok.ensures.walked (search rules) (omega arith)

pub returns-then-enveloped_items-most-clause-within : goal.returns-then-enveloped_items-most-clause-within
returns-then-enveloped_items-most-clause-within c =
    not_more_inside c.args.most c.in-Ok.count c.args.envelopes c.args.bytes.now _ _ c.in-Ok.ensures.walked (search rules) c.enveloped_items.result
    c.enveloped_items.ensures (omega arith) (omega arith)

pub returns-then-enveloped_items-most-clause-fault : goal.returns-then-enveloped_items-most-clause-fault
returns-then-enveloped_items-most-clause-fault c =
    more_inside c.args.most c.in-Ok.count c.args.envelopes c.args.bytes.now _ _ c.in-Ok.ensures.walked (search rules) c.enveloped_items.result
    c.enveloped_items.ensures (omega arith) (omega arith)

pub returns-clause-fault : goal.returns-clause-fault
returns-clause-fault c =
    no_fault c.args.most c.in-Ok.count c.args.envelopes c.args.bytes.now _ _ c.in-Ok.ensures.walked (search rules) c.enveloped_items.result
    c.enveloped_items.ensures (omega arith) (omega arith)
