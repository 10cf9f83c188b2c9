use Rattle.rlp_records.proofs.{Bytes.bytes_tell, TypedSums.typed_strings}
use Rattle.rlp_pooled.proofs.Pooled.{consensus_same, hashed_same}
use Rattle.rlp_pooled.specs.PooledTransaction.{pooled_types}
use Rattle.rlp_pooled.proofs.laws.bytes_tell_pooled_transactions.Goals as goal

pub returns-clause-fields : goal.returns-clause-fields
returns-clause-fields c = bytes_tell _ _ _ _ _ (typed_strings pooled_types) c.args.one.now c.args.other.now

pub returns-clause-consensus : goal.returns-clause-consensus
returns-clause-consensus c = consensus_same c.args.one.now c.args.other.now

pub returns-clause-hashed : goal.returns-clause-hashed
returns-clause-hashed c = hashed_same c.args.one.now c.args.other.now
