-- How transactions are written and read as they are sent: transactions of type 3 have their blobs.
use Rattle.std.proofs.Common.{inl, inr}
use Rattle.std.specs.Prelude.{◌⊎◌, Bool, refl}
use Rattle.rlp.specs.{Codec.Codec, Uint.Uint}
use Rattle.rlp_records.specs.Eip2718.{TypedSum, typed, typed_by}
use Rattle.rlp_transactions.specs.{AccessListTransaction.signed_access_list_transaction, BlobTransaction.signed_blob_transaction}
use Rattle.rlp_transactions.specs.{FeeMarketTransaction.signed_fee_market_transaction, LegacyTransaction.signed_legacy_transaction}
use Rattle.rlp_transactions.specs.{SetCodeTransaction.signed_set_code_transaction, Transaction.transaction}
use Rattle.rlp_transactions.specs.declared.access_list_transaction.AccessListTransaction.{AccessListTransaction}
use Rattle.rlp_transactions.specs.declared.fee_market_transaction.FeeMarketTransaction.{FeeMarketTransaction}
use Rattle.rlp_transactions.specs.declared.legacy_transaction.LegacyTransaction.{LegacyTransaction}
use Rattle.rlp_transactions.specs.{declared.set_code_transaction.SetCodeTransaction.SetCodeTransaction, declared.signed.Signed.Signed}
use Rattle.rlp_transactions.specs.declared.transaction.Transaction.{Transaction}
use Rattle.rlp_pooled.specs.{BlobWrapper.{pooled_blob_transaction, without_blobs}, declared.blob_wrapper.PooledBlobTransaction.{PooledBlobTransaction}}
use Rattle.rlp_pooled.specs.declared.pooled_transaction.PooledTransaction.{PooledTransaction}
use Rattle.rlp_pooled.specs.declared.pooled_transaction.PooledTransaction.TheVariants.{AccessList, Blob, FeeMarket, Legacy, SetCode}
use Rattle.rlp_transactions.specs.declared.transaction.Transaction.TheVariants as block

-- a transaction of one of the types
abbrev pub pooled_sum : PooledTransaction → Signed LegacyTransaction (Uint 32)
    ⊎ (Signed AccessListTransaction Bool ⊎ (Signed FeeMarketTransaction Bool ⊎ (PooledBlobTransaction ⊎ Signed SetCodeTransaction Bool)))
pooled_sum (Legacy t) = inl t
pooled_sum (AccessList t) = inr (inl t)
pooled_sum (FeeMarket t) = inr (inr (inl t))
pooled_sum (Blob t) = inr (inr (inr (inl t)))
pooled_sum (SetCode t) = inr (inr (inr (inr t)))

-- a legacy transaction is a list, and a typed transaction is an envelope; the payload of type 3 has the blobs
abbrev pub pooled_types : TypedSum PooledTransaction
pooled_types =
    typed_by pooled_sum signed_legacy_transaction (λ t. refl)
    signed_access_list_transaction signed_fee_market_transaction pooled_blob_transaction signed_set_code_transaction

-- how transactions are written and read as they are sent
abbrev pub pooled_transaction : Codec PooledTransaction
pooled_transaction = typed pooled_types

-- the transaction as it is in a block: without blobs
abbrev pub consensus_form : PooledTransaction → Transaction
consensus_form (Legacy t) = block.Legacy t
consensus_form (AccessList t) = block.AccessList t
consensus_form (FeeMarket t) = block.FeeMarket t
consensus_form (Blob t) = block.Blob (without_blobs t)
consensus_form (SetCode t) = block.SetCode t

-- what contracts see of a transaction of type 3 without its blobs
abbrev pub seen_without_blobs : pooled_blob_transaction.reading.M → signed_blob_transaction.reading.M
seen_without_blobs (inl m) = m.0
seen_without_blobs (inr m) = m.0

-- what contracts see of a transaction as it is in a block
abbrev pub seen_consensus : pooled_transaction.reading.M → transaction.reading.M
seen_consensus (inl m) = inl m
seen_consensus (inr (inl m)) = inr (inl m)
seen_consensus (inr (inr (inl m))) = inr (inr (inl m))
seen_consensus (inr (inr (inr (inl m)))) = inr (inr (inr (inl (seen_without_blobs m))))
seen_consensus (inr (inr (inr (inr m)))) = inr (inr (inr (inr m)))
