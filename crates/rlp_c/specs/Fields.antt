-- What bytes give as a record, read by the codecs of `rlp_transactions` and `rlp_headers`, and which item has a fault.
use Rattle.std.specs.Prelude.{ℕ, ◌+◌, ⊤, [], ◌∷◌, Result}
use Rattle.rlp_reading.specs.{Views.View.View, Form.{Answer, Fault, Path, map_fault, map_value}}
use Rattle.rlp_transactions.specs.{AccessListTransaction.signed_access_list_transaction, BlobTransaction.signed_blob_transaction, SetCodeTransaction.{signed_set_code_transaction}}
use Rattle.rlp_transactions.specs.{FeeMarketTransaction.signed_fee_market_transaction, LegacyTransaction.signed_legacy_transaction}
use Rattle.rlp_headers.specs.Header.{header}
use Rattle.rlp_c.specs.declared.records.fields.Record.{Record}
use Rattle.rlp_c.specs.declared.records.fields.Record.TheVariants.{Legacy, AccessListPayload, FeeMarketPayload, BlobPayload, SetCodePayload, Header}

-- the number of the item of a list that a path leads through, from 1 on, and 0 for the list as a whole
abbrev pub number_of : Path → ℕ
number_of [] = 0
number_of (i ∷ path) = i + 1

-- the result, without the value
abbrev pub without_value : {M : Type 0} → Result M Fault → Result ⊤ Fault
without_value r = map_value (λ x. tt) r

-- the answer without the value; a fault is given with the number of the item that has it
abbrev pub numbered : {M : Type 0} → Answer M Fault → Result ⊤ (ℕ × Fault)
numbered a = map_fault (λ e. (number_of a.path, e)) (without_value a.result)

-- what a view gives as a record, read by the codec of the record
abbrev pub record_result : Record → View → Result ⊤ (ℕ × Fault)
record_result Legacy v = numbered (signed_legacy_transaction.reading.read v)
record_result AccessListPayload v = numbered (signed_access_list_transaction.reading.read v)
record_result FeeMarketPayload v = numbered (signed_fee_market_transaction.reading.read v)
record_result BlobPayload v = numbered (signed_blob_transaction.reading.read v)
record_result SetCodePayload v = numbered (signed_set_code_transaction.reading.read v)
record_result Header v = numbered (header.reading.read v)
