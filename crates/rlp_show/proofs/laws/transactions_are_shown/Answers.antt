use Rattle.std.proofs.Common.{◌∙◌, ap}
use Rattle.rlp_reading.specs.Form.{map_value}
use Rattle.rlp_records.specs.Alone.{bytes_alone}
use Rattle.rlp_records.proofs.OtherTypes.{any_strings}
use Rattle.rlp_transactions.proofs.Refused.{unread}
use Rattle.rlp_transactions.specs.Transaction.{any_transaction, transaction_types}
use Rattle.rlp_show.specs.Transactions.{any_transaction_display}
use Rattle.rlp_show.proofs.LineLemmas.{line_answered, unsigned_faulty}
use Rattle.rlp_show.specs.declared.kind.Kind.TheVariants as kind
use Rattle.rlp_show.proofs.laws.transactions_are_shown.Goals as goal

pub returns : goal.returns
returns c = λ t fit short is.
    let faulty = unread t fit short in
    line_answered kind.Transaction c.args.line.now _ _ is
    (ap (λ s. s.result) (unsigned_faulty (bytes_alone (any_transaction.item t)) faulty.0 faulty.1)
    ∙ ap (map_value any_transaction_display.shown) ((any_strings transaction_types).back t fit short))
