-- How transactions of every type are written and read before they are signed.
use Rattle.std.proofs.Common.{inl, inr}
use Rattle.std.specs.Prelude.{◌⊎◌, refl}
use Rattle.rlp.specs.Codec.{Codec, struct_of}
use Rattle.rlp_records.specs.Eip2718.{TypedSum, typed, typed_by}
use Rattle.rlp_transactions.specs.{AccessListTransaction.access_list_transaction_fields, BlobTransaction.blob_transaction_fields}
use Rattle.rlp_transactions.specs.{FeeMarketTransaction.fee_market_transaction_fields, LegacyTransaction.unsigned_legacy_transaction}
use Rattle.rlp_transactions.specs.{SetCodeTransaction.{set_code_transaction_fields}, declared.access_list_transaction.AccessListTransaction.{AccessListTransaction}}
use Rattle.rlp_transactions.specs.{declared.blob_transaction.BlobTransaction.{BlobTransaction}, declared.fee_market_transaction.FeeMarketTransaction.{FeeMarketTransaction}}
use Rattle.rlp_transactions.specs.declared.legacy_transaction.UnsignedLegacyTransaction.{UnsignedLegacyTransaction}
use Rattle.rlp_transactions.specs.{declared.set_code_transaction.SetCodeTransaction.{SetCodeTransaction}, declared.unsigned_transaction.UnsignedTransaction.{UnsignedTransaction}}
use Rattle.rlp_transactions.specs.declared.unsigned_transaction.UnsignedTransaction.TheVariants.{AccessList, Blob, FeeMarket, Legacy, SetCode}

-- a transaction of one of the types
abbrev pub unsigned_sum : UnsignedTransaction → UnsignedLegacyTransaction
    ⊎ (AccessListTransaction ⊎ (FeeMarketTransaction ⊎ (BlobTransaction ⊎ SetCodeTransaction)))
unsigned_sum (Legacy t) = inl t
unsigned_sum (AccessList t) = inr (inl t)
unsigned_sum (FeeMarket t) = inr (inr (inl t))
unsigned_sum (Blob t) = inr (inr (inr (inl t)))
unsigned_sum (SetCode t) = inr (inr (inr (inr t)))

-- a legacy transaction is a list, and a typed transaction is the number of the type and a list
abbrev pub unsigned_types : TypedSum UnsignedTransaction
unsigned_types =
    typed_by unsigned_sum unsigned_legacy_transaction (λ t. refl)
    (struct_of access_list_transaction_fields) (struct_of fee_market_transaction_fields)
    (struct_of blob_transaction_fields) (struct_of set_code_transaction_fields)

-- how transactions are written and read before they are signed
abbrev pub unsigned_transaction : Codec UnsignedTransaction
unsigned_transaction = typed unsigned_types
