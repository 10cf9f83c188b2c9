use Rattle.rlp_pooled.proofs.pooled_transaction.PooledTransaction.consensus_bytes.Goals as goal

pub returns-in-Blob-clause-bytes : goal.returns-in-Blob-clause-bytes
returns-in-Blob-clause-bytes c = rw c.in-Blob.is (rw c.transaction.ensures at c.to_envelope-in-Blob.ensures.bytes)
