use Rattle.rlp_transactions.proofs.Parities.{no_chain_said}
use Rattle.rlp_transactions.specs.TransactionParts.{number_of}
use Rattle.rlp_transactions.proofs.legacy_transaction.Signed+LegacyTransaction+Uint+32.chain_id.Goals as goal

pub returns-in-None : goal.returns-in-None
returns-in-None c = no_chain_said (number_of c.args.self.now.v) c.in-None.ensures.none
