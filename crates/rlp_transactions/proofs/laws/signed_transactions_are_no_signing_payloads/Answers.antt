use Rattle.rlp_transactions.proofs.{Refused.unread, Signing.signed_apart}
use Rattle.rlp_transactions.proofs.laws.signed_transactions_are_no_signing_payloads.Goals as goal

pub returns-clause-apart : goal.returns-clause-apart
returns-clause-apart c = signed_apart

pub returns-clause-unread : goal.returns-clause-unread
returns-clause-unread c = unread
