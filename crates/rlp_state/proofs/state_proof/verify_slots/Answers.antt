use Rattle.std.proofs.Common.{◌≡◌, ◌+◌, ◌++◌, ◌∷◌, [], arith, refl, rules, subst, sym}
use Rattle.std.specs.Vec.{vec_items}
use Rattle.rlp_state.proofs.StateProofLemmas.{IsOnWay, SameVec, ends_ok, fails_at, fails_only, one_more}
use Rattle.rlp_state.proofs.state_proof.verify_slots.Goals as goal

pub loop-index-preserved : goal.loop-index-preserved
loop-index-preserved c =
    let pushed : c.push.new.self.items ≡ c.loop-index.numbers.items ++ c.in-Ok.number ∷ [] = search rules in
    subst (λ numbers. IsOnWay c.args.root.now.0 c.args.slots.now (c.loop-index.index + 1) numbers) (sym pushed)
    (one_more _ _ _ _ c.loop-index.invariant c.index-slots-index.result c.loop-index-test.true c.index-slots-index.is c.in-Ok.number c.in-Ok.ensures.value
    c.in-Ok.ensures.found c.in-Ok.ensures.refused)

pub returns-clause-only : goal.returns-clause-only
returns-clause-only c = λ outcome gives. ends_ok _ _ _ _ c.loop-index.invariant vec_items c.loop-index.numbers refl (omega arith) outcome gives

pub returns-in-Err-clause-fault : goal.returns-in-Err-clause-fault
returns-in-Err-clause-fault c =
    fails_at _ _ _ _ c.loop-index.invariant c.index-slots-index.result c.loop-index-test.true c.index-slots-index.is c.in-Err.fault c.at_slot.result
    c.at_slot.ensures c.in-Err.ensures.fault

pub returns-in-Err-clause-only : goal.returns-in-Err-clause-only
returns-in-Err-clause-only c = λ outcome gives.
    fails_only _ _ _ _ c.loop-index.invariant c.index-slots-index.result c.loop-index-test.true c.index-slots-index.is
    SameVec c.in-Err.fault c.at_slot.result c.at_slot.ensures c.in-Err.ensures.memory
    c.in-Err.ensures.refused outcome gives
