-- How legacy transactions are written and read, with a signature and without.
use Rattle.std.specs.{Prelude.{ℕ, [], refl}, Vec.vec_items}
use Rattle.rlp.specs.{Codec.{Codec, Fields, byte_array, byte_string, end, field, group, number, optional_group, struct_of, uint}, Uint.Uint}
use Rattle.rlp_transactions.specs.{Recipient.recipient, Signed.signed_fields, declared.legacy_transaction.LegacyTransaction.LegacyTransaction}
use Rattle.rlp_transactions.specs.{declared.legacy_transaction.UnsignedLegacyTransaction.UnsignedLegacyTransaction, declared.signed.Signed.Signed}

-- EIP-2718: rlp([nonce, gasPrice, gasLimit, to, value, data, v, r, s]). Here are the fields before the signature.
abbrev pub legacy_transaction_fields : Fields LegacyTransaction
legacy_transaction_fields =
    field (λ (l : LegacyTransaction). l.nonce) (number 8) (
    field (λ (l : LegacyTransaction). l.gas_price) (uint 32) (
    field (λ (l : LegacyTransaction). l.gas_limit) (number 8) (
    field (λ (l : LegacyTransaction). l.to) recipient (
    field (λ (l : LegacyTransaction). l.value) (uint 32) (
    field (λ (l : LegacyTransaction). l.data) (byte_string vec_items) end)))))

-- these fields, and then the fields of the signature
abbrev pub signed_legacy_transaction_fields : Fields (Signed LegacyTransaction (Uint 32))
signed_legacy_transaction_fields = signed_fields legacy_transaction_fields refl (uint 32)

-- the list of all fields
abbrev pub signed_legacy_transaction : Codec (Signed LegacyTransaction (Uint 32))
signed_legacy_transaction = struct_of signed_legacy_transaction_fields

-- what EIP-155 adds: the number of the chain, 0 and 0, each of which is the empty string
abbrev pub chain_fields : Fields ℕ
chain_fields = field (λ (chain : ℕ). chain) (number 8) (field (λ (chain : ℕ). []) (byte_array 0) (field (λ (chain : ℕ). []) (byte_array 0) end))

-- EIP-155: (nonce, gasprice, startgas, to, value, data), or these six and (chainid, 0, 0) if the number of a chain is signed
abbrev pub unsigned_legacy_transaction : Codec UnsignedLegacyTransaction
unsigned_legacy_transaction = struct_of (
    group (λ (u : UnsignedLegacyTransaction). u.payload) legacy_transaction_fields refl (
    optional_group (λ (u : UnsignedLegacyTransaction). u.chain_id) chain_fields refl))
