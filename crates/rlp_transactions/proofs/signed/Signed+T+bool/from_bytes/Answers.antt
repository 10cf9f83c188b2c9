use Rattle.rlp_transactions.proofs.signed.Signed+T+bool.from_bytes.Goals as goal

pub returns-clause-fault : goal.returns-clause-fault
returns-clause-fault g c = rw c.TAG.ensures at c.from_envelope.ensures.fault
