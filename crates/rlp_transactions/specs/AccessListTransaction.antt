-- How transactions of type 1 and access lists are written and read.
use Rattle.std.specs.{Prelude.{Bool, refl}, Vec.vec_items}
use Rattle.rlp.specs.Codec.{Codec, Fields, byte_string, end, field, list_type, number, struct_of, truth_value, uint}
use Rattle.rlp_records.specs.{Address.address, Hash.hash}
use Rattle.rlp_transactions.specs.{Recipient.recipient, Signed.signed, declared.access_list_transaction.AccessList.AccessList}
use Rattle.rlp_transactions.specs.declared.access_list_transaction.AccessListItem.{AccessListItem}
use Rattle.rlp_transactions.specs.{declared.access_list_transaction.AccessListTransaction.AccessListTransaction, declared.signed.Signed.Signed}

-- EIP-2930: [{20 bytes}, [{32 bytes}...]]
abbrev pub access_list_item : Codec AccessListItem
access_list_item = struct_of (
    field (λ (a : AccessListItem). a.address) address (
    field (λ (a : AccessListItem). a.storage_keys) (list_type vec_items hash) end))

-- the list of the accounts
abbrev pub access_list : Codec AccessList
access_list = list_type (λ (a : AccessList). vec_items a.0) access_list_item

-- EIP-2930: rlp([chainId, nonce, gasPrice, gasLimit, to, value, data, accessList, signatureYParity, signatureR, signatureS]). Here are the fields before the
-- signature.
abbrev pub access_list_transaction_fields : Fields AccessListTransaction
access_list_transaction_fields =
    field (λ (a : AccessListTransaction). a.chain_id) (number 8) (
    field (λ (a : AccessListTransaction). a.nonce) (number 8) (
    field (λ (a : AccessListTransaction). a.gas_price) (uint 32) (
    field (λ (a : AccessListTransaction). a.gas_limit) (number 8) (
    field (λ (a : AccessListTransaction). a.to) recipient (
    field (λ (a : AccessListTransaction). a.value) (uint 32) (
    field (λ (a : AccessListTransaction). a.data) (byte_string vec_items) (
    field (λ (a : AccessListTransaction). a.access_list) access_list end)))))))

-- the list of these fields, and of the signature
abbrev pub signed_access_list_transaction : Codec (Signed AccessListTransaction Bool)
signed_access_list_transaction = signed access_list_transaction_fields refl truth_value
