use Rattle.std.proofs.Common.{◌≡◌, ◌∙◌, ap, option_map, Some, refl, subst, sym, arith}
use Rattle.std.specs.Vec.{vec_items}
use Rattle.rlp.specs.{Views.View.strict_view_of}
use Rattle.rlp_headers.specs.Account.{account}
use Rattle.rlp_state.specs.State.{IsAccountValue}
use Rattle.rlp_state.proofs.Values.{account_read, account_unread, faulty}
use Rattle.rlp_state.proofs.account_proof.account_of.Goals as goal

pub returns-in-Ok-clause-only : goal.returns-in-Ok-clause-only
returns-in-Ok-clause-only c = λ outcome given.
    let value : option_map vec_items c.args.value.now ≡ Some c.as_slice.result.now =
    ap (option_map vec_items) c.in-Some.is ∙ ap Some (sym c.as_slice.ensures.value) in
    account_read c.as_slice.result.now (omega arith) c.in-Ok.account c.in-Ok.ensures.whole.0 c.in-Ok.ensures.whole.1 outcome
    (subst (λ v. IsAccountValue v outcome) value given)

pub returns-in-Err-clause-only : goal.returns-in-Err-clause-only
returns-in-Err-clause-only c = λ outcome given.
    let value : option_map vec_items c.args.value.now ≡ Some c.as_slice.result.now =
    ap (option_map vec_items) c.in-Some.is ∙ ap Some (sym c.as_slice.ensures.value) in
    account_unread c.as_slice.result.now (omega arith) c.in-Err.fault
    (faulty account.reading (strict_view_of c.as_slice.result.now) c.in-Err.fault refl c.in-Err.ensures.fault) outcome
    (subst (λ v. IsAccountValue v outcome) value given)
