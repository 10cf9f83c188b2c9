use Rattle.std.proofs.Common.{◌≡◌, ◌∙◌, ap, option_map, Some, refl, subst, sym, arith}
use Rattle.std.specs.Vec.{vec_items}
use Rattle.rlp.specs.{Codec.{uint}, Views.View.strict_view_of}
use Rattle.rlp_state.specs.State.{IsSlotValue}
use Rattle.rlp_state.proofs.Values.{faulty, slot_read, slot_unread}
use Rattle.rlp_state.proofs.slot_proof.number_of.Goals as goal

pub returns-in-Ok-clause-only : goal.returns-in-Ok-clause-only
returns-in-Ok-clause-only c = λ outcome given.
    let value : option_map vec_items c.args.value.now ≡ Some c.as_slice.result.now =
    ap (option_map vec_items) c.in-Some.is ∙ ap Some (sym c.as_slice.ensures.value) in
    slot_read c.as_slice.result.now (omega arith) c.in-Ok.number c.in-Ok.ensures.whole.0 c.in-Ok.ensures.whole.1 outcome
    (subst (λ v. IsSlotValue v outcome) value given)

pub returns-in-Err-clause-only : goal.returns-in-Err-clause-only
returns-in-Err-clause-only c = λ outcome given.
    let value : option_map vec_items c.args.value.now ≡ Some c.as_slice.result.now =
    ap (option_map vec_items) c.in-Some.is ∙ ap Some (sym c.as_slice.ensures.value) in
    slot_unread c.as_slice.result.now (omega arith) c.in-Err.fault
    (faulty (uint 32).reading (strict_view_of c.as_slice.result.now) c.in-Err.fault refl c.in-Err.ensures.fault) outcome
    (subst (λ v. IsSlotValue v outcome) value given)
