use Rattle.rlp_records.proofs.enveloped.Enveloped.from_bytes.Goals as goal

pub returns-clause-fault : goal.returns-clause-fault
returns-clause-fault g c = rw c.TYPE.ensures at c.from_envelope.ensures.fault

pub returns-clause-value : goal.returns-clause-value
returns-clause-value g c = rw c.TYPE.ensures at c.from_envelope.ensures.value
