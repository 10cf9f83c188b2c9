use Rattle.std.proofs.Common.{List, [], ◌∷◌, map, refl, rules}
use Rattle.rlp.specs.{Format.Encoding.{Item, list_of}, Values.Value.items_if}
use Rattle.rlp_headers.specs.{Header.header, Withdrawal.withdrawals}
use Rattle.rlp_transactions.specs.Transaction.{any_transaction}
use Rattle.rlp_blocks.specs.declared.block.Body.{Body}
use Rattle.rlp_blocks.proofs.block.Body.decode_with_hashes.Goals as goal

-- the items after the transactions
abbrev later : Body → List Item
later b = list_of (map header.item b.ommers.items) ∷ items_if (λ w. withdrawals.item w ∷ []) b.withdrawals

pub returns-in_err-transactions-clause-fault : goal.returns-in_err-transactions-clause-fault
returns-in_err-transactions-clause-fault c =
    let b = c.in_ok-body.body in
    let memory = c.in_err-transactions.ensures [] (later b) (map any_transaction.item b.transactions.items) refl c.in_ok-body.ensures.whole.1 in
    search rules

pub returns-in_err-transactions-clause-memory : goal.returns-in_err-transactions-clause-memory
returns-in_err-transactions-clause-memory c =
    let b = c.in_ok-body.body in
    let memory = c.in_err-transactions.ensures [] (later b) (map any_transaction.item b.transactions.items) refl c.in_ok-body.ensures.whole.1 in
    search rules

pub returns-clause-transactions : goal.returns-clause-transactions
returns-clause-transactions c =
    let b = c.in_ok-body.body in
    c.in_ok-transactions.ensures [] (later b) (map any_transaction.item b.transactions.items) refl c.in_ok-body.ensures.whole.1
