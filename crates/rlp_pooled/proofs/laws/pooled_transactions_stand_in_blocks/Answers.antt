use Rattle.rlp_pooled.proofs.Pooled.{consensus_fits, consensus_item}
use Rattle.rlp_pooled.proofs.laws.pooled_transactions_stand_in_blocks.Goals as goal

pub returns-clause-fits : goal.returns-clause-fits
returns-clause-fits c = consensus_fits c.args.pooled.now

pub returns-clause-bytes : goal.returns-clause-bytes
returns-clause-bytes c = consensus_item c.args.pooled.now
