use Rattle.std.proofs.Common.{◌∙◌, sym, arith}
use Rattle.rlp_reading.proofs.{Lemmas.Numbered.{no_bytes, some_bytes}, Trees.Needless.{whole_item}, Trees.Canonical.{fault_refutes, walk_fault-deep, walk_fault-string}}
use Rattle.rlp_reading.proofs.{Trees.Walks.{fault_of_bytes, fault_of_item, fault_of_none, walked_within, walking_all, walking_one}}
use Rattle.rlp_reading.proofs.walking.+walk.Goals as goal

pub returns-then-left-eq0-clause-walked : goal.returns-then-left-eq0-clause-walked
returns-then-left-eq0-clause-walked g t c = fault_refutes _ _ _ (omega (arith, c.requires.room)) (walk_fault-deep _ _ (sym c.if-not-is_list.ensures) c.if-left-eq0.true)

pub returns-in-Err-clause-walked : goal.returns-in-Err-clause-walked
returns-in-Err-clause-walked g t c =
    fault_refutes _ _ _ (omega (arith, c.requires.room))
    (fault_of_bytes c.if-not-is_list.ensures c.if-left-eq0.false c.loop-rest.invariant _ c.in-Err.ensures.parts (some_bytes _ c.loop-rest-test.ensures) c.in-Err.ensures.whole)

pub returns-in-Err-clause-fault : goal.returns-in-Err-clause-fault
returns-in-Err-clause-fault g t c =
    fault_of_bytes c.if-not-is_list.ensures c.if-left-eq0.false c.loop-rest.invariant _ c.in-Err.ensures.parts (some_bytes _ c.loop-rest-test.ensures) c.in-Err.ensures.whole

pub returns-in-Err-walk-clause-walked : goal.returns-in-Err-walk-clause-walked
returns-in-Err-walk-clause-walked g t c =
    fault_refutes _ _ _ (omega (arith, c.requires.room))
    (fault_of_item c.if-not-is_list.ensures c.if-left-eq0.false c.loop-rest.invariant _ c.in-Ok.first.1.now _ c.in-Ok.ensures.parts c.in-Err-walk.ensures.fault)

pub returns-in-Err-walk-clause-fault : goal.returns-in-Err-walk-clause-fault
returns-in-Err-walk-clause-fault g t c =
    fault_of_item c.if-not-is_list.ensures c.if-left-eq0.false c.loop-rest.invariant _ c.in-Ok.first.1.now _ c.in-Ok.ensures.parts c.in-Err-walk.ensures.fault

pub loop-rest-preserved : goal.loop-rest-preserved
loop-rest-preserved g t c =
    walking_one c.loop-rest.invariant c.in-Ok.ensures.parts c.in-Ok.ensures.whole (walked_within c.in-Ok-put_string.ensures.walked)
    (walk_fault-string _ _ (sym c.if-is_list.ensures) ∙ c.in-Ok-put_string.ensures.fault)

pub returns-clause-walked : goal.returns-clause-walked
returns-clause-walked g t c =
    walking_all (whole_item c.requires.item c.requires.header c.args.framed.now.reads) c.if-not-is_list.ensures c.args.framed.now.reads c.if-left-eq0.false (no_bytes _ c.loop-rest-test.ensures) c.loop-rest.invariant

pub returns-clause-fault : goal.returns-clause-fault
returns-clause-fault g t c = fault_of_none c.if-not-is_list.ensures c.if-left-eq0.false c.loop-rest.invariant (no_bytes _ c.loop-rest-test.ensures)

pub returns-in-Err-put_string-clause-walked : goal.returns-in-Err-put_string-clause-walked
returns-in-Err-put_string-clause-walked g t c =
    fault_refutes _ _ _ (omega (arith, c.requires.room))
    (fault_of_item c.if-not-is_list.ensures c.if-left-eq0.false c.loop-rest.invariant _ c.in-Ok.first.1.now _ c.in-Ok.ensures.parts
    (walk_fault-string _ _ (sym c.if-is_list.ensures) ∙ c.in-Err-put_string.ensures.fault))

pub returns-in-Err-put_string-clause-fault : goal.returns-in-Err-put_string-clause-fault
returns-in-Err-put_string-clause-fault g t c =
    fault_of_item c.if-not-is_list.ensures c.if-left-eq0.false c.loop-rest.invariant _ c.in-Ok.first.1.now _ c.in-Ok.ensures.parts
    (walk_fault-string _ _ (sym c.if-is_list.ensures) ∙ c.in-Err-put_string.ensures.fault)
