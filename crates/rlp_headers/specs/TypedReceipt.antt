-- How receipts of transactions of every type are written and read.
use Rattle.std.{specs.Prelude.{◌⊎◌, refl}, proofs.Common.{inl, inr}}
use Rattle.rlp.specs.Codec.{Codec}
use Rattle.rlp_headers.specs.{declared.receipt.Receipt.Receipt, declared.typed_receipt.TypedReceipt.TypedReceipt}
use Rattle.rlp_headers.specs.{declared.typed_receipt.TypedReceipt.TheVariants.{AccessList, Blob, FeeMarket, Legacy, SetCode}, Receipt.receipt}
use Rattle.rlp_records.specs.{Eip2718.{TypedSum, typed, typed_by}, KnownOrOther.with_others, declared.known_or_other.KnownOrOther.KnownOrOther}

-- the receipt of a transaction of one of the types
abbrev pub receipt_as_sum : TypedReceipt → Receipt ⊎ (Receipt ⊎ (Receipt ⊎ (Receipt ⊎ Receipt)))
receipt_as_sum (Legacy r) = inl r
receipt_as_sum (AccessList r) = inr (inl r)
receipt_as_sum (FeeMarket r) = inr (inr (inl r))
receipt_as_sum (Blob r) = inr (inr (inr (inl r)))
receipt_as_sum (SetCode r) = inr (inr (inr (inr r)))

-- the receipt of a legacy transaction is a list, and the receipt of a typed one an envelope; all types have one payload
abbrev pub receipt_types : TypedSum TypedReceipt
receipt_types = typed_by receipt_as_sum receipt (λ r. refl) receipt receipt receipt receipt

-- how receipts are written and read
abbrev pub typed_receipt : Codec TypedReceipt
typed_receipt = typed receipt_types

-- a receipt of one of the types, or the bytes of a receipt of another type
abbrev pub any_receipt : Codec (KnownOrOther TypedReceipt)
any_receipt = with_others receipt_types
