use Rattle.std.proofs.Common.{[], ◌∷◌, map, refl, rules}
use Rattle.std.specs.Vec.{vec_items}
use Rattle.rlp.specs.Format.Encoding.{list_of}
use Rattle.rlp_headers.specs.Header.{header}
use Rattle.rlp_transactions.specs.Transaction.{any_transaction}
use Rattle.rlp_blocks.specs.{BoundBlock.IsRootOf, Roots.{transaction_values}}
use Rattle.rlp_blocks.proofs.BoundLemmas.{last_items, later_items}
use Rattle.rlp_blocks.proofs.bound.block_roots.Goals as goal

pub returns-in_err-transactions : goal.returns-in_err-transactions
returns-in_err-transactions c =
    let b = c.args.block.now in
    let memory = c.in_err-transactions.ensures (header.item b.header ∷ []) (later_items b) (map any_transaction.item (vec_items b.transactions)) refl c.requires.bytes in
    search rules

pub returns-in_err-ommers : goal.returns-in_err-ommers
returns-in_err-ommers c =
    let b = c.args.block.now in
    absurd (c.in_err-ommers.ensures (header.item b.header ∷ list_of (map any_transaction.item (vec_items b.transactions)) ∷ []) (last_items b)
    (list_of (map header.item (vec_items b.ommers))) refl c.requires.bytes)

pub returns : goal.returns
returns c =
    let b = c.args.block.now in
    let first : IsRootOf c.in_ok-transactions.transactions (transaction_values (vec_items b.transactions)) =
    c.in_ok-transactions.ensures (header.item b.header ∷ []) (later_items b) (map any_transaction.item (vec_items b.transactions)) refl c.requires.bytes in
    let second =
    c.in_ok-ommers.ensures (header.item b.header ∷ list_of (map any_transaction.item (vec_items b.transactions)) ∷ []) (last_items b)
    (list_of (map header.item (vec_items b.ommers))) refl c.requires.bytes in
    let third = c.in_ok-withdrawals.ensures in
    let one = first.root in
    let three = third.root in
    record { roots = cc; transactions = first.listed; withdrawals = third.listed }
