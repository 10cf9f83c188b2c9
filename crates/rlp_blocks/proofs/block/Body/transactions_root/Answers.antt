use Rattle.std.proofs.Common.{◌∙◌, ap, map}
use Rattle.rlp_records.specs.Alone.{bytes_alone}
use Rattle.rlp_transactions.specs.Transaction.{any_transaction}
use Rattle.rlp_blocks.proofs.RootsLemmas.{root_if_same, transaction_values_are}
use Rattle.rlp_blocks.proofs.block.Body.transactions_root.Goals as goal

pub returns : goal.returns
returns c =
    root_if_same c.standalone_root.result _ _
    (ap (map (λ t. bytes_alone (any_transaction.item t))) c.as_slice.ensures.value ∙ transaction_values_are c.args.self.now.transactions.items)
    c.standalone_root.ensures
