use Rattle.rlp_transactions.proofs.signed.Tagged.from_signing_payload.Goals as goal

pub returns-in-Err-clause-fault : goal.returns-in-Err-clause-fault
returns-in-Err-clause-fault g c = rw c.TAG.ensures at c.in-Err.ensures.fault

pub returns-in-Err-clause-memory : goal.returns-in-Err-clause-memory
returns-in-Err-clause-memory g c = λ p fit is. c.in-Err.ensures.memory (record { 0 = p }) fit (rw c.TAG.ensures is)
