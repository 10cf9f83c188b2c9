use Rattle.std.proofs.Common.{[], ◌∷◌, map, refl, rules}
use Rattle.std.specs.Vec.{vec_items}
use Rattle.rlp_headers.specs.Header.{header}
use Rattle.rlp_transactions.specs.Transaction.{any_transaction}
use Rattle.rlp_blocks.proofs.BoundLemmas.{body_items, later_items}
use Rattle.rlp_blocks.proofs.bound.block_hashes.Goals as goal

pub returns-in_err-header : goal.returns-in_err-header
returns-in_err-header c =
    let b = c.args.block.now in
    absurd (c.in_err-header.ensures [] (body_items b) (header.item b.header) refl c.requires.bytes)

pub returns-in_err-transactions : goal.returns-in_err-transactions
returns-in_err-transactions c =
    let b = c.args.block.now in
    let memory = c.in_err-transactions.ensures (header.item b.header ∷ []) (later_items b) (map any_transaction.item (vec_items b.transactions)) refl c.requires.bytes in
    search rules

pub returns : goal.returns
returns c =
    let b = c.args.block.now in
    record {
      header = c.in_ok-header.ensures [] (body_items b) (header.item b.header) refl c.requires.bytes;
      transactions =
          c.in_ok-transactions.ensures (header.item b.header ∷ []) (later_items b) (map any_transaction.item (vec_items b.transactions)) refl c.requires.bytes;
    }
