use Rattle.rlp_records.proofs.{Bytes.bytes_tell, OtherTypes.any_strings}
use Rattle.rlp_transactions.specs.Transaction.{transaction_types}
use Rattle.rlp_transactions.proofs.laws.bytes_tell_transactions.Goals as goal

pub returns : goal.returns
returns c = bytes_tell _ _ _ _ _ (any_strings transaction_types) c.args.one.now c.args.other.now
