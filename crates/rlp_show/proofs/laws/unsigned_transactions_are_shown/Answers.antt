use Rattle.std.proofs.Common.{ap}
use Rattle.rlp_records.specs.Alone.{bytes_alone}
use Rattle.rlp_records.proofs.TypedSums.{typed_strings}
use Rattle.rlp_transactions.specs.UnsignedTransaction.{unsigned_transaction, unsigned_types}
use Rattle.rlp_show.specs.Shown.{signed_shown, unsigned_or}
use Rattle.rlp_show.proofs.LineLemmas.{line_answered}
use Rattle.rlp_show.specs.declared.kind.Kind.TheVariants as kind
use Rattle.rlp_show.proofs.laws.unsigned_transactions_are_shown.Goals as goal

pub returns : goal.returns
returns c = λ t fit short is.
    line_answered kind.Transaction c.args.line.now _ _ is
    (ap (λ r. (unsigned_or (signed_shown (bytes_alone (unsigned_transaction.item t))) r).result) ((typed_strings unsigned_types).back t fit short))
