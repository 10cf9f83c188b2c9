use Rattle.std.proofs.Common.{◌≡◌, [], ◌∷◌, Some, map, refl, rules}
use Rattle.std.specs.Vec.{vec_items}
use Rattle.rlp.specs.Format.Encoding.{list_of}
use Rattle.rlp_headers.specs.{Header.header, Withdrawal.withdrawal}
use Rattle.rlp_transactions.specs.Transaction.{any_transaction}
use Rattle.rlp_blocks.proofs.BoundLemmas.{some_root, with_withdrawals}
use Rattle.rlp_blocks.proofs.bound.withdrawals_root.Goals as goal

pub returns-in_err-root_at-in-Some : goal.returns-in_err-root_at-in-Some
returns-in_err-root_at-in-Some c =
    let b = c.args.block.now in
    let there : b.withdrawals ≡ Some c.in-Some.field-0 = cc in
    let memory =
    c.in_err-root_at-in-Some.ensures
    (header.item b.header ∷ list_of (map any_transaction.item (vec_items b.transactions)) ∷ list_of (map header.item (vec_items b.ommers)) ∷ []) []
    (map withdrawal.item (vec_items c.in-Some.field-0.0)) refl (with_withdrawals c.args.bytes.now b c.in-Some.field-0 there c.requires.bytes) in
    search rules

pub returns-in_ok-root_at-in-Some : goal.returns-in_ok-root_at-in-Some
returns-in_ok-root_at-in-Some c =
    let b = c.args.block.now in
    let there : b.withdrawals ≡ Some c.in-Some.field-0 = cc in
    some_root c.in_ok-root_at-in-Some.field-0 b.withdrawals c.in-Some.field-0 there
    (c.in_ok-root_at-in-Some.ensures
    (header.item b.header ∷ list_of (map any_transaction.item (vec_items b.transactions)) ∷ list_of (map header.item (vec_items b.ommers)) ∷ []) []
    (map withdrawal.item (vec_items c.in-Some.field-0.0)) refl (with_withdrawals c.args.bytes.now b c.in-Some.field-0 there c.requires.bytes))
