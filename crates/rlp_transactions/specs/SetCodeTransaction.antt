-- How transactions of type 4 and their authorizations are written and read.
use Rattle.std.specs.{Prelude.{◌≤◌, Bool, refl}, Vec.vec_items}
use Rattle.rlp.specs.Codec.{Codec, Fields, byte_string, end, field, group, list_type, number, struct_of, truth_value, uint}
use Rattle.rlp_records.specs.Address.{address}
use Rattle.rlp_transactions.specs.{AccessListTransaction.access_list, Secp256k1.{IsLow, IsScalar}, Signed.signed, declared.set_code_transaction.Authorization.Authorization}
use Rattle.rlp_transactions.specs.declared.set_code_transaction.SignedAuthorization.{SignedAuthorization}
use Rattle.rlp_transactions.specs.{declared.set_code_transaction.SetCodeTransaction.SetCodeTransaction, declared.signed.Signed.Signed}

-- EIP-7702: [chain_id, address, nonce, y_parity, r, s]. Here are the fields before the signature.
abbrev pub authorization_fields : Fields Authorization
authorization_fields =
    field (λ (a : Authorization). a.chain_id) (uint 32) (
    field (λ (a : Authorization). a.address) address (
    field (λ (a : Authorization). a.nonce) (number 8) end))

-- These fields, and then the signature. EIP-7702: "assert auth.y_parity < 2**8", "assert auth.r < 2**256", "assert auth.s < 2**256".
abbrev pub signed_authorization_fields : Fields SignedAuthorization
signed_authorization_fields =
    group (λ (x : SignedAuthorization). x.payload) authorization_fields refl (
    field (λ (x : SignedAuthorization). x.y_parity) (number 1) (
    field (λ (x : SignedAuthorization). x.r) (uint 32) (
    field (λ (x : SignedAuthorization). x.s) (uint 32) end)))

-- the list of these fields
abbrev pub signed_authorization : Codec SignedAuthorization
signed_authorization = struct_of signed_authorization_fields

-- The parity, r and s may be a signature. EIP-7702: "authority = ecrecover(msg, y_parity, r, s)", which fails for other parities than 0 and 1, and for numbers
-- that aren't from 1 to below the order; "Verify s is less than or equal to secp256k1n/2, as specified in EIP-2"; "If any step above fails, immediately stop
-- processing the tuple and continue to the next tuple in the list."
abbrev pub HasSignature : SignedAuthorization → Type 0
HasSignature x = (x.y_parity ≤ 1) × (IsScalar x.r × (IsScalar x.s × IsLow x.s))

-- EIP-7702: rlp([chain_id, nonce, max_priority_fee_per_gas, max_fee_per_gas, gas_limit, destination, value, data, access_list, authorization_list,
-- signature_y_parity, signature_r, signature_s]). Here are the fields before the signature.
abbrev pub set_code_transaction_fields : Fields SetCodeTransaction
set_code_transaction_fields =
    field (λ (s : SetCodeTransaction). s.chain_id) (number 8) (
    field (λ (s : SetCodeTransaction). s.nonce) (number 8) (
    field (λ (s : SetCodeTransaction). s.max_priority_fee_per_gas) (uint 32) (
    field (λ (s : SetCodeTransaction). s.max_fee_per_gas) (uint 32) (
    field (λ (s : SetCodeTransaction). s.gas_limit) (number 8) (
    field (λ (s : SetCodeTransaction). s.destination) address (
    field (λ (s : SetCodeTransaction). s.value) (uint 32) (
    field (λ (s : SetCodeTransaction). s.data) (byte_string vec_items) (
    field (λ (s : SetCodeTransaction). s.access_list) access_list (
    field (λ (s : SetCodeTransaction). s.authorization_list) (list_type vec_items signed_authorization) end)))))))))

-- the list of these fields, and of the signature
abbrev pub signed_set_code_transaction : Codec (Signed SetCodeTransaction Bool)
signed_set_code_transaction = signed set_code_transaction_fields refl truth_value
