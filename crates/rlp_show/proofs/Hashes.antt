-- Hashes of what transactions are written as, by what contracts see of the transactions.
use Rattle.std.proofs.Common.{◌≡◌, ◌∙◌, List, ℕ, [], ◌∷◌, Bool, map, refl, sym, ap}
use Rattle.rlp_records.specs.{Keccak.keccak256, Alone.bytes_alone, declared.known_or_other.KnownOrOther.KnownOrOther}
use Rattle.rlp.specs.Format.Encoding.{encoding}
use Rattle.rlp_transactions.specs.{declared.blob_transaction.BlobTransaction.BlobTransaction, declared.transaction.Transaction.Transaction}
use Rattle.rlp_transactions.specs.{declared.signed.Signed.Signed, declared.unsigned_transaction.UnsignedTransaction.UnsignedTransaction}
use Rattle.rlp_transactions.specs.{BlobTransaction.signed_blob_transaction, Transaction.any_transaction, Transaction.transaction}
use Rattle.rlp_transactions.specs.UnsignedTransaction.{unsigned_transaction}
use Rattle.rlp_pooled.specs.{PooledTransaction.consensus_form, PooledTransaction.pooled_transaction}
use Rattle.rlp_pooled.specs.declared.pooled_transaction.PooledTransaction.{PooledTransaction}
use Rattle.rlp_pooled.proofs.Pooled.{consensus_written}
use Rattle.rlp_headers.specs.{Header.header, declared.header.Header.Header}
use Rattle.rlp_show.specs.{Transactions.{blob_hash, payload_hash, pooled_hash, transaction_hash}, Blocks.{header_hash, seen_hash}}

pub transaction_written : (t : KnownOrOther Transaction) (d : List ℕ) → d ≡ keccak256 (bytes_alone (any_transaction.item t)) → d ≡ transaction_hash (any_transaction.reading.seen t)
unfolding transaction_hash
transaction_written t d is = is ∙ ap (λ x. keccak256 (bytes_alone x)) (sym (any_transaction.reads_strictly.told.written t))

pub pooled_written : (t : PooledTransaction) (d : List ℕ) → d ≡ keccak256 (bytes_alone (transaction.item (consensus_form t)))
    → d ≡ pooled_hash (pooled_transaction.reading.seen t)
unfolding pooled_hash
pooled_written t d is = is ∙ ap (λ x. keccak256 (bytes_alone x)) (consensus_written t)

pub payload_written : (t : UnsignedTransaction) (d : List ℕ) → d ≡ keccak256 (bytes_alone (unsigned_transaction.item t))
    → d ≡ payload_hash (unsigned_transaction.reading.seen t)
unfolding payload_hash
payload_written t d is = is ∙ ap (λ x. keccak256 (bytes_alone x)) (sym (unsigned_transaction.reads_strictly.told.written t))

pub blob_written : (t : Signed BlobTransaction Bool) (d : List ℕ) → d ≡ 3 ∷ encoding (signed_blob_transaction.item t)
    → keccak256 d ≡ blob_hash (signed_blob_transaction.reading.seen t)
unfolding blob_hash
blob_written t d is = ap keccak256 (is ∙ ap (λ x. 3 ∷ encoding x) (sym (signed_blob_transaction.reads_strictly.told.written t)))

pub hashes_seen : (hs : List Header) → map (λ (d : List ℕ). d) (map seen_hash hs) ≡ map header_hash (map header.reading.seen hs)
unfolding seen_hash
hashes_seen [] = refl
hashes_seen (h ∷ hs) = cc (hashes_seen hs)
