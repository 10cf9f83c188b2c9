use Rattle.rlp_transactions.proofs.Signing.{one_meaning}
use Rattle.rlp_transactions.proofs.laws.no_bytes_are_signed_for_two_meanings.Goals as goal

pub returns : goal.returns
returns c = one_meaning
