-- How transactions of type 2 are written and read.
use Rattle.std.specs.{Prelude.{Bool, refl}, Vec.vec_items}
use Rattle.rlp.specs.Codec.{Codec, Fields, byte_string, end, field, number, truth_value, uint}
use Rattle.rlp_transactions.specs.{AccessListTransaction.access_list, Recipient.recipient, Signed.signed}
use Rattle.rlp_transactions.specs.{declared.fee_market_transaction.FeeMarketTransaction.FeeMarketTransaction, declared.signed.Signed.Signed}

-- EIP-1559: rlp([chain_id, nonce, max_priority_fee_per_gas, max_fee_per_gas, gas_limit, destination, amount, data, access_list, signature_y_parity,
-- signature_r, signature_s]). Here are the fields before the signature.
abbrev pub fee_market_transaction_fields : Fields FeeMarketTransaction
fee_market_transaction_fields =
    field (λ (f : FeeMarketTransaction). f.chain_id) (number 8) (
    field (λ (f : FeeMarketTransaction). f.nonce) (number 8) (
    field (λ (f : FeeMarketTransaction). f.max_priority_fee_per_gas) (uint 32) (
    field (λ (f : FeeMarketTransaction). f.max_fee_per_gas) (uint 32) (
    field (λ (f : FeeMarketTransaction). f.gas_limit) (number 8) (
    field (λ (f : FeeMarketTransaction). f.to) recipient (
    field (λ (f : FeeMarketTransaction). f.value) (uint 32) (
    field (λ (f : FeeMarketTransaction). f.data) (byte_string vec_items) (
    field (λ (f : FeeMarketTransaction). f.access_list) access_list end))))))))

-- the list of these fields, and of the signature
abbrev pub signed_fee_market_transaction : Codec (Signed FeeMarketTransaction Bool)
signed_fee_market_transaction = signed fee_market_transaction_fields refl truth_value
