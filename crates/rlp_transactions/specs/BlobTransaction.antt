-- How transactions of type 3 are written and read.
use Rattle.std.specs.{Prelude.{Bool, refl}, Vec.vec_items}
use Rattle.rlp.specs.Codec.{Codec, Fields, byte_string, end, field, list_type, number, truth_value, uint}
use Rattle.rlp_records.specs.{Address.address, Hash.hash}
use Rattle.rlp_transactions.specs.{AccessListTransaction.access_list, Signed.signed, declared.blob_transaction.BlobTransaction.BlobTransaction, declared.signed.Signed.{Signed}}

-- EIP-4844: rlp([chain_id, nonce, max_priority_fee_per_gas, max_fee_per_gas, gas_limit, to, value, data, access_list, max_fee_per_blob_gas,
-- blob_versioned_hashes, y_parity, r, s]). Here are the fields before the signature.
abbrev pub blob_transaction_fields : Fields BlobTransaction
blob_transaction_fields =
    field (λ (b : BlobTransaction). b.chain_id) (number 8) (
    field (λ (b : BlobTransaction). b.nonce) (number 8) (
    field (λ (b : BlobTransaction). b.max_priority_fee_per_gas) (uint 32) (
    field (λ (b : BlobTransaction). b.max_fee_per_gas) (uint 32) (
    field (λ (b : BlobTransaction). b.gas_limit) (number 8) (
    field (λ (b : BlobTransaction). b.to) address (
    field (λ (b : BlobTransaction). b.value) (uint 32) (
    field (λ (b : BlobTransaction). b.data) (byte_string vec_items) (
    field (λ (b : BlobTransaction). b.access_list) access_list (
    field (λ (b : BlobTransaction). b.max_fee_per_blob_gas) (uint 32) (
    field (λ (b : BlobTransaction). b.blob_versioned_hashes) (list_type vec_items hash) end))))))))))

-- the list of these fields, and of the signature
abbrev pub signed_blob_transaction : Codec (Signed BlobTransaction Bool)
signed_blob_transaction = signed blob_transaction_fields refl truth_value
