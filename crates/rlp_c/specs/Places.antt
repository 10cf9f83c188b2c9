-- Where the fields of a transaction and of a header are, by the codecs of `rlp_transactions` and `rlp_headers`.
use Rattle.std.specs.Prelude.{ℕ, ◌≡◌, ◌⊎◌, List, [], map}
use Rattle.rlp_format.specs.Format.Encoding.{Item, list, listed, string, encoding}
use Rattle.rlp_transactions.specs.{declared.transaction.Transaction.{Transaction}, declared.transaction.Transaction.TheVariants.{AccessList, Blob, FeeMarket, Legacy, SetCode}}
use Rattle.rlp_transactions.specs.{AccessListTransaction.signed_access_list_transaction, BlobTransaction.signed_blob_transaction, SetCodeTransaction.{signed_set_code_transaction}}
use Rattle.rlp_transactions.specs.{FeeMarketTransaction.signed_fee_market_transaction, LegacyTransaction.signed_legacy_transaction}

-- the encodings of the items of a list
abbrev pub fields_in : Item → List (List ℕ)
fields_in (string d) = []
fields_in (list xs) = map encoding (listed xs)

-- the list of the fields of a transaction and its signature
abbrev pub fields_of : Transaction → Item
fields_of (Legacy t) = signed_legacy_transaction.item t
fields_of (AccessList t) = signed_access_list_transaction.item t
fields_of (FeeMarket t) = signed_fee_market_transaction.item t
fields_of (Blob t) = signed_blob_transaction.item t
fields_of (SetCode t) = signed_set_code_transaction.item t

-- where the list begins: behind the byte of the type, or at the first byte of a legacy transaction
abbrev pub place_of : Transaction → ℕ
place_of (Legacy t) = 0
place_of (AccessList t) = 1
place_of (FeeMarket t) = 1
place_of (Blob t) = 1
place_of (SetCode t) = 1

-- the status says that all fields were found, though the array may have no room for their places
abbrev pub IsFound : ℕ → Type 0
IsFound status = (status ≡ 0) ⊎ (status ≡ 13)
