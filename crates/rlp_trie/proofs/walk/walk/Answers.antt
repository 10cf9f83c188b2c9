use Rattle.std.proofs.{Common.{◌≡◌, ap, length, rules, sym, ◌∙◌}, lemmas.List.length-map, lemmas.Result.err_from_is_err_and}
use Rattle.std.specs.Vec.{vec_items}
use Rattle.rlp_trie.specs.Next.{next_step}
use Rattle.rlp_trie.proofs.WalkLemmas.{early_ends, early_only, fault_ends, fault_only, on_way, value_ends, value_only}
use Rattle.rlp_trie.proofs.walk.walk.Goals as goal

pub returns-in_err-node-clause-ends : goal.returns-in_err-node-clause-ends
returns-in_err-node-clause-ends c =
    let p = err_from_is_err_and c.from_residual.result c.from_residual.ensures.1 in
    rw (p.1, p.2) (fault_ends _ _ _ _ _ _ c.loop-child.invariant c.in_err-node.field-0.0 c.in_err-node.ensures.fault)

pub returns-in_err-node-clause-only : goal.returns-in_err-node-clause-only
returns-in_err-node-clause-only c =
    let p = err_from_is_err_and c.from_residual.result c.from_residual.ensures.1 in
    rw (p.1, p.2) (fault_only _ _ _ _ _ _ c.loop-child.invariant c.in_err-node.field-0.0 c.in_err-node.ensures.fault)

pub returns-then-is_empty-clause-ends : goal.returns-then-is_empty-clause-ends
returns-then-is_empty-clause-ends c =
    let none : length c.in_ok-node.others.now ≡ 0 = search rules in
    value_ends _ _ _ _ _ _ c.loop-child.invariant _ _ c.in-Value.value c.in_ok-node.ensures.value (sym c.in_ok-value.ensures ∙ ap next_step c.in-Value.is)
    (length-map c.in_ok-node.others.now vec_items ∙ none)

pub returns-then-is_empty-clause-only : goal.returns-then-is_empty-clause-only
returns-then-is_empty-clause-only c =
    let none : length c.in_ok-node.others.now ≡ 0 = search rules in
    value_only _ _ _ _ _ _ c.loop-child.invariant _ _ c.in-Value.value c.in_ok-node.ensures.value (sym c.in_ok-value.ensures ∙ ap next_step c.in-Value.is)
    (length-map c.in_ok-node.others.now vec_items ∙ none)

pub returns-in-Value-clause-ends : goal.returns-in-Value-clause-ends
returns-in-Value-clause-ends c =
    let some : ¬ (length c.in_ok-node.others.now ≡ 0) = search rules in
    early_ends _ _ _ _ _ _ c.loop-child.invariant _ _ _ c.in_ok-node.ensures.value (sym c.in_ok-value.ensures ∙ ap next_step c.in-Value.is)
    (λ none. some (sym (length-map c.in_ok-node.others.now vec_items) ∙ none))

pub returns-in-Value-clause-only : goal.returns-in-Value-clause-only
returns-in-Value-clause-only c =
    let some : ¬ (length c.in_ok-node.others.now ≡ 0) = search rules in
    early_only _ _ _ _ _ _ c.loop-child.invariant _ _ _ c.in_ok-node.ensures.value (sym c.in_ok-value.ensures ∙ ap next_step c.in-Value.is)
    (λ none. some (sym (length-map c.in_ok-node.others.now vec_items) ∙ none))

pub loop-child-smaller : goal.loop-child-smaller
loop-child-smaller c =
    (on_way _ _ _ _ _ _ c.loop-child.invariant _ _ _ _ c.in_ok-node.ensures.value (sym c.in_ok-value.ensures ∙ ap next_step c.in-Below.is)).1

pub loop-child-preserved : goal.loop-child-preserved
loop-child-preserved c =
    (on_way _ _ _ _ _ _ c.loop-child.invariant _ _ _ _ c.in_ok-node.ensures.value (sym c.in_ok-value.ensures ∙ ap next_step c.in-Below.is)).0
