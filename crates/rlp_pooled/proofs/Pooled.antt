-- Transactions as they are sent, and as they stand in blocks.
use Rattle.std.proofs.Common.{◌≡◌, ◌≢◌, refl, sym, ap, ◌∙◌}
use Rattle.rlp_records.specs.{Alone.bytes_alone, Eip2718.type_of}
use Rattle.rlp_transactions.specs.Transaction.{transaction, transaction_types}
use Rattle.rlp_pooled.specs.PooledTransaction.{consensus_form, pooled_transaction, seen_consensus}
use Rattle.rlp_pooled.specs.declared.blob_wrapper.PooledBlobTransaction.TheVariants.{CellProofs, Proofs}
use Rattle.rlp_pooled.specs.declared.pooled_transaction.PooledTransaction.{PooledTransaction}
use Rattle.rlp_pooled.specs.declared.pooled_transaction.PooledTransaction.TheVariants.{AccessList, Blob, FeeMarket, Legacy, SetCode}

-- a transaction that can be sent can stand in a block
pub consensus_fits : (p : PooledTransaction) → pooled_transaction.Fits p → transaction.Fits (consensus_form p)
consensus_fits (Blob (Proofs t)) fit = fit.0
consensus_fits (Blob (CellProofs t)) fit = fit.0
consensus_fits p fit = fit

-- a transaction of another type than 3 is sent as it stands in a block
pub consensus_item : (p : PooledTransaction) → type_of transaction_types (consensus_form p) ≢ 3 → pooled_transaction.item p ≡ transaction.item (consensus_form p)
consensus_item (Blob t) other = absurd (other refl)
consensus_item p other = refl

-- ---- what contracts see of a transaction in a block

pub consensus_seen : (p : PooledTransaction) → seen_consensus (pooled_transaction.reading.seen p) ≡ transaction.reading.seen (consensus_form p)
consensus_seen (Blob (Proofs t)) = refl
consensus_seen (Blob (CellProofs t)) = refl
consensus_seen p = refl

-- transactions that contracts see alike stand alike in blocks
pub consensus_same : (p q : PooledTransaction) → pooled_transaction.reading.seen p ≡ pooled_transaction.reading.seen q
    → transaction.reading.seen (consensus_form p) ≡ transaction.reading.seen (consensus_form q)
consensus_same p q same = sym (consensus_seen p) ∙ ap seen_consensus same ∙ consensus_seen q

-- what a transaction is written as in a block, by what contracts see of the transaction as it is sent
pub consensus_written : (p : PooledTransaction) → transaction.item (consensus_form p) ≡ transaction.reading.item (seen_consensus (pooled_transaction.reading.seen p))
consensus_written p =
    sym (transaction.reads_strictly.told.written (consensus_form p)) ∙ ap transaction.reading.item (sym (consensus_seen p))

pub hashed_same : (p q : PooledTransaction) → pooled_transaction.reading.seen p ≡ pooled_transaction.reading.seen q
    → bytes_alone (transaction.item (consensus_form p)) ≡ bytes_alone (transaction.item (consensus_form q))
hashed_same p q same =
    ap bytes_alone (consensus_written p ∙ ap (λ m. transaction.reading.item (seen_consensus m)) same ∙ sym (consensus_written q))
