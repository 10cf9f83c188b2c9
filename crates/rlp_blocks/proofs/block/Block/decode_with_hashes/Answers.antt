use Rattle.std.proofs.Common.{List, [], ◌∷◌, map, refl, rules}
use Rattle.rlp.specs.{Format.Encoding.{Item, list_of}, Values.Value.items_if}
use Rattle.rlp_headers.specs.{Header.header, Withdrawal.withdrawals}
use Rattle.rlp_transactions.specs.Transaction.{any_transaction}
use Rattle.rlp_blocks.specs.declared.block.Block.{Block}
use Rattle.rlp_blocks.proofs.block.Block.decode_with_hashes.Goals as goal

-- the items after the transactions
abbrev later : Block → List Item
later b = list_of (map header.item b.ommers.items) ∷ items_if (λ w. withdrawals.item w ∷ []) b.withdrawals

-- the items after the header
abbrev after_header : Block → List Item
after_header b = list_of (map any_transaction.item b.transactions.items) ∷ later b

pub returns-in_err-header-clause-fault : goal.returns-in_err-header-clause-fault
returns-in_err-header-clause-fault c =
    let b = c.in_ok-block.block in
    absurd (c.in_err-header.ensures [] (after_header b) (header.item b.header) refl c.in_ok-block.ensures.whole.1)

pub returns-in_err-header-clause-memory : goal.returns-in_err-header-clause-memory
returns-in_err-header-clause-memory c =
    let b = c.in_ok-block.block in
    absurd (c.in_err-header.ensures [] (after_header b) (header.item b.header) refl c.in_ok-block.ensures.whole.1)

pub returns-in_err-transactions-clause-fault : goal.returns-in_err-transactions-clause-fault
returns-in_err-transactions-clause-fault c =
    let b = c.in_ok-block.block in
    let memory = c.in_err-transactions.ensures (header.item b.header ∷ []) (later b) (map any_transaction.item b.transactions.items) refl c.in_ok-block.ensures.whole.1 in
    search rules

pub returns-in_err-transactions-clause-memory : goal.returns-in_err-transactions-clause-memory
returns-in_err-transactions-clause-memory c =
    let b = c.in_ok-block.block in
    let memory = c.in_err-transactions.ensures (header.item b.header ∷ []) (later b) (map any_transaction.item b.transactions.items) refl c.in_ok-block.ensures.whole.1 in
    search rules

pub returns-clause-header : goal.returns-clause-header
returns-clause-header c =
    let b = c.in_ok-block.block in
    c.in_ok-header.ensures [] (after_header b) (header.item b.header) refl c.in_ok-block.ensures.whole.1

pub returns-clause-transactions : goal.returns-clause-transactions
returns-clause-transactions c =
    let b = c.in_ok-block.block in
    c.in_ok-transactions.ensures (header.item b.header ∷ []) (later b) (map any_transaction.item b.transactions.items) refl c.in_ok-block.ensures.whole.1
