use Rattle.std.proofs.{Common.{arith, ◌∙◌}, lemmas.Result.{err_from_is_err_and}}
use Rattle.rlp_reading.proofs.Lemmas.Skipping.{after-both, after-next, after-all}
use Rattle.rlp_reading.proofs.skipping.skip_items.Goals as goal

pub loop-skipped-init : goal.loop-skipped-init
loop-skipped-init c =
    after-both c.args.bytes.now c.skip_alike-left.result.0.now c.skip_short-left.result.0.now _ _ _ c.skip_alike-left.ensures.after
    c.skip_short-left.ensures.after (omega arith)

pub loop-skipped-preserved-in-Some : goal.loop-skipped-preserved-in-Some
loop-skipped-preserved-in-Some c =
    after-next c.args.bytes.now c.loop-skipped.rest.now c.in-Some.field-0-0.now c.in-Some.others.now _ _ c.loop-skipped.invariant c.in-Some.ensures.parts
    c.in-Some.ensures.whole (omega arith)

pub loop-skipped-preserved : goal.loop-skipped-preserved
loop-skipped-preserved c =
    after-next c.args.bytes.now c.loop-skipped.rest.now c.in_ok-others.field-0-0.item.now c.in_ok-others.others.now _ _ c.loop-skipped.invariant
    c.in_ok-others.ensures.parts c.in_ok-others.ensures.whole (omega arith)

pub returns-in_err-others : goal.returns-in_err-others
returns-in_err-others c =
    let p = err_from_is_err_and c.from_residual.result c.from_residual.ensures.1 in
    let all = after-all c.args.bytes.now c.loop-skipped.rest.now _ c.args.count c.loop-skipped.invariant c.in_err-others.ensures.parts (omega arith) in
    rw (p.1, p.2) (all.0, c.in_err-others.ensures.whole ∙ all.1)
