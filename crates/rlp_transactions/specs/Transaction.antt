-- How transactions of every type are written and read.
use Rattle.std.specs.Prelude.{Bool, ◌⊎◌, refl}
use Rattle.std.proofs.Common.{inl, inr}
use Rattle.rlp.specs.{Uint.Uint, Codec.Codec}
use Rattle.rlp_records.specs.{Eip2718.{TypedSum, typed, typed_by}, KnownOrOther.with_others, declared.known_or_other.KnownOrOther.KnownOrOther}
use Rattle.rlp_transactions.specs.{declared.access_list_transaction.AccessListTransaction.{AccessListTransaction}, declared.blob_transaction.BlobTransaction.{BlobTransaction}}
use Rattle.rlp_transactions.specs.{declared.fee_market_transaction.FeeMarketTransaction.{FeeMarketTransaction}, declared.legacy_transaction.LegacyTransaction.{LegacyTransaction}}
use Rattle.rlp_transactions.specs.{declared.set_code_transaction.SetCodeTransaction.SetCodeTransaction, declared.signed.Signed.Signed}
use Rattle.rlp_transactions.specs.{declared.transaction.Transaction.{Transaction}, declared.transaction.Transaction.TheVariants.{AccessList, Blob, FeeMarket, Legacy, SetCode}}
use Rattle.rlp_transactions.specs.{AccessListTransaction.signed_access_list_transaction, BlobTransaction.signed_blob_transaction, SetCodeTransaction.{signed_set_code_transaction}}
use Rattle.rlp_transactions.specs.{FeeMarketTransaction.signed_fee_market_transaction, LegacyTransaction.signed_legacy_transaction}

-- a transaction of one of the types
abbrev pub as_sum : Transaction → Signed LegacyTransaction (Uint 32)
    ⊎ (Signed AccessListTransaction Bool ⊎ (Signed FeeMarketTransaction Bool ⊎ (Signed BlobTransaction Bool ⊎ Signed SetCodeTransaction Bool)))
as_sum (Legacy t) = inl t
as_sum (AccessList t) = inr (inl t)
as_sum (FeeMarket t) = inr (inr (inl t))
as_sum (Blob t) = inr (inr (inr (inl t)))
as_sum (SetCode t) = inr (inr (inr (inr t)))

-- a legacy transaction is a list, and a typed transaction is an envelope
abbrev pub transaction_types : TypedSum Transaction
transaction_types =
    typed_by as_sum signed_legacy_transaction (λ t. refl)
    signed_access_list_transaction signed_fee_market_transaction signed_blob_transaction signed_set_code_transaction

-- how transactions are written and read
abbrev pub transaction : Codec Transaction
transaction = typed transaction_types

-- a transaction of one of the types, or the bytes of a transaction of another type
abbrev pub any_transaction : Codec (KnownOrOther Transaction)
any_transaction = with_others transaction_types
