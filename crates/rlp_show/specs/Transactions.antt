-- What is shown of transactions of all types, with their signatures and without, and as they are sent with their blobs.
use Rattle.std.proofs.Common.{ap, arith, inl, inr}
use Rattle.std.specs.Prelude.{ℕ, ⊤, ◌∷◌, ◌≡◌, Bool, List, None, Option, Some, [], codes, false, length, option_map, refl, true}
use Rattle.rlp.specs.{Form.FieldsReading, Format.Encoding.{encoding, list_of}}
use Rattle.rlp_records.specs.{Alone.bytes_alone, Keccak.keccak256}
use Rattle.rlp_transactions.specs.{AccessListTransaction.{access_list, access_list_item, access_list_transaction_fields}, declared.signed.Signed.{Signed}}
use Rattle.rlp_transactions.specs.BlobTransaction.{blob_transaction_fields, signed_blob_transaction}
use Rattle.rlp_transactions.specs.{Eip155.said_by, FeeMarketTransaction.{fee_market_transaction_fields}}
use Rattle.rlp_transactions.specs.LegacyTransaction.{chain_fields, legacy_transaction_fields, signed_legacy_transaction, unsigned_legacy_transaction}
use Rattle.rlp_transactions.specs.{NonZeroScalar.scalar_value, Recipient.recipient}
use Rattle.rlp_transactions.specs.SetCodeTransaction.{authorization_fields, set_code_transaction_fields, signed_authorization}
use Rattle.rlp_transactions.specs.{Transaction.{any_transaction, transaction}, UnsignedTransaction.unsigned_transaction, declared.eip155.Eip155.Eip155}
use Rattle.rlp_pooled.specs.{BlobWrapper.{pooled_blob_transaction, with_cell_proofs, with_proofs}, PooledTransaction.{pooled_transaction, seen_consensus}}
use Rattle.rlp_show.specs.Display.{a_bit, a_content, a_list, a_number, a_quantity, a_string, after_derived, an_object, and_type, bytes_as, content_bytes, derived, either, end, field, field_if, if_there, in_order, last_type, no_type_entries, number_as, of_type, one, one_if, same, through}
use Rattle.rlp_show.specs.{DisplayLaws.{back_apart}, Records.{hash_entries, or_other, written}}
use Rattle.rlp_show.specs.Value.{Content, Display, Entries, Fields, both, by_form, bytes, content, entries_if, entry, nothing, number}
use Rattle.rlp_show.specs.{declared.sink.BytesKind.TheVariants.{Any, Null, Sparse}, declared.sink.NumberKind.TheVariants.{Decimal, LegacyV}}

-- the account in a content, or none
abbrev recipient_of : Content → recipient.reading.M
recipient_of (bytes Any d) = (true, d)
recipient_of c = (false, content_bytes c)

-- the bytes of an account, or no bytes for a transaction that creates a contract
abbrev pub recipient_content : recipient.reading.M → Content
recipient_content (true, d) = bytes Any d
recipient_content (false, d) = bytes Null d

abbrev pub recipient_display : Display recipient.reading.M
recipient_display =
    a_content recipient_content (back_apart recipient_content recipient_of (λ r.
    elim r.0 as (λ calls. recipient_of (recipient_content (calls, r.1)) ≡ (calls, r.1)) [ true ↦ refl | false ↦ refl ]))

unfoldable pub access_list_item_display : Display access_list_item.reading.M
access_list_item_display = an_object (same (codes "address") a_string (same (codes "storage_keys") (a_list a_string) end))

abbrev pub access_list_display : Display access_list.reading.M
access_list_display = a_list access_list_item_display

-- ---- the fields before the signature, of which several types have the same

abbrev pub chain_and_nonce : {M : Type 0} → Fields M → Fields (ℕ × (ℕ × M))
chain_and_nonce more = same (codes "chain_id") a_number (same (codes "nonce") a_number more)

-- the fees for gas since EIP-1559
abbrev pub fees : {M : Type 0} → Fields M → Fields (ℕ × (ℕ × M))
fees more = same (codes "max_priority_fee_per_gas") a_number (same (codes "max_fee_per_gas") a_number more)

-- the gas, the account that is called, under this name in lines, the value and the data
abbrev pub call : {A M : Type 0} → List ℕ → Display A → Fields M → Fields (ℕ × (A × (ℕ × (List ℕ × M))))
call name account more =
    field (codes "gas_limit") (codes "gas") a_number (field name (codes "to") account (same (codes "value") a_number (
    field (codes "data") (codes "input") a_string more)))

abbrev pub access : {M : Type 0} → Fields M → Fields (access_list.reading.M × M)
access more = same (codes "access_list") access_list_display more

abbrev pub legacy_display : Fields legacy_transaction_fields.reading.M
legacy_display = same (codes "nonce") a_number (same (codes "gas_price") a_number (call (codes "to") recipient_display end))

unfoldable pub access_list_transaction_display : Fields access_list_transaction_fields.reading.M
access_list_transaction_display = chain_and_nonce (same (codes "gas_price") a_number (call (codes "to") recipient_display (access end)))

unfoldable pub fee_market_display : Fields fee_market_transaction_fields.reading.M
fee_market_display = chain_and_nonce (fees (call (codes "to") recipient_display (access end)))

unfoldable pub blob_display : Fields blob_transaction_fields.reading.M
blob_display =
    chain_and_nonce (fees (call (codes "to") a_string (access (same (codes "max_fee_per_blob_gas") a_number (
    same (codes "blob_versioned_hashes") (a_list a_string) end)))))

abbrev pub authorization_display : Fields authorization_fields.reading.M
authorization_display = same (codes "chain_id") a_number (same (codes "address") a_string (same (codes "nonce") a_number end))

-- the hash that is signed
abbrev pub signing_entries : List ℕ → Entries
signing_entries hash = entry (codes "signing_hash") (codes "signing_hash") (content (bytes Any hash))

-- the hash of these fields after a byte, which is signed
unfoldable pub signing_hash : {T : Type 0} → ℕ → (r : FieldsReading T) → r.M → List ℕ
signing_hash tag r m = keccak256 (tag ∷ encoding (list_of (r.items m)))

-- the two numbers of a signature, before other fields
abbrev pub signature_before : {M : Type 0} → Fields M → Fields (ℕ × (ℕ × M))
signature_before more = same (codes "r") a_quantity (same (codes "s") a_quantity more)

-- ---- transactions of a type of EIP-2718

-- The number of the type, the fields of the payload, the signature and the hash that is signed. In JSON the parity is also `v`.
abbrev pub typed_fields : {T M : Type 0} → ℕ → (r : FieldsReading T) → Fields M → Fields (M × (Bool × (ℕ × (ℕ × r.M))))
typed_fields tag r f =
    through (λ m. (m.0, (m.1.0, m.1))) (of_type tag (in_order f (same (codes "y_parity") a_bit (in_order (
    derived (λ v. by_form nothing (entry (codes "v") (codes "v") (a_bit.shown v)))) (signature_before (
    derived (λ t. signing_entries (signing_hash tag r t))))))))

-- a payload as it is shown, the signature, and the payload as it is signed
abbrev pub typed_seen : {T M N : Type 0} → (T → M) → (T → N) → Signed T Bool → M × (Bool × (ℕ × (ℕ × N)))
typed_seen seen signed x = (seen x.payload, (x.v, (scalar_value x.r, (scalar_value x.s, signed x.payload))))

-- a transaction with its signature, by what contracts see of it
abbrev pub typed_display : {T : Type 0} → ℕ → (r : FieldsReading T) → Fields r.M → Fields (r.M × (Bool × (ℕ × (ℕ × ⊤))))
typed_display tag r f = through (λ m. (m.0, (m.1.0, (m.1.1.0, (m.1.1.1.0, m.0))))) (typed_fields tag r f)

unfoldable pub signed_authorization_display : Display signed_authorization.reading.M
signed_authorization_display =
    an_object (through (λ m. (m.0, (m.1.0, (m.1.1.0, (m.1.1.1.0, m.0))))) (in_order authorization_display (same (codes "y_parity") a_number (signature_before (
    derived (λ m. signing_entries (signing_hash 5 authorization_fields.reading m)))))))

unfoldable pub set_code_display : Fields set_code_transaction_fields.reading.M
set_code_display =
    chain_and_nonce (fees (call (codes "destination") a_string (access (same (codes "authorization_list") (a_list signed_authorization_display) end))))

-- ---- transactions without a type

-- what `v` says: the number of the chain, if it is signed, and the parity
abbrev pub said_seen : Eip155 → Option ℕ × Bool
said_seen x = (option_map (λ n. n) x.chain_id, x.y_parity)

abbrev pub said_display : Fields (Option ℕ × Bool)
said_display = field_if (codes "chain_id") a_number (one (codes "y_parity") a_bit)

-- the hash that is signed of a payload, with the number of the chain if it is signed too
abbrev pub legacy_hash : legacy_transaction_fields.reading.M → Option ℕ → List ℕ
legacy_hash t chain = keccak256 (written unsigned_legacy_transaction.reading (t, option_map chain_fields.reading.seen chain))

-- the hash that is signed, if `v` says what is signed
abbrev pub legacy_signing_hash : legacy_transaction_fields.reading.M → Option Eip155 → Option (List ℕ)
legacy_signing_hash t None = None
legacy_signing_hash t (Some x) = Some (legacy_hash t x.chain_id)

abbrev pub signed_legacy_display : Fields signed_legacy_transaction.reading.M
signed_legacy_display =
    through (λ m. (m.0, (m.1.0, (m, (m.1.1.0, (m.1.1.1.0, m)))))) (after_derived (λ m. no_type_entries) (in_order legacy_display (
    same (codes "v") (number_as LegacyV) (in_order (derived (λ m. by_form nothing (entries_if said_display.shown (option_map said_seen (said_by m.1.0))))) (
    signature_before (derived (λ m. (one_if (codes "signing_hash") a_string).shown (legacy_signing_hash m.0 (said_by m.1.0)))))))))

-- transactions of the types that are known
abbrev pub transaction_display : Fields transaction.reading.M
transaction_display = (
    and_type 0 signed_legacy_display (λ m. refl) (
    and_type 1 (typed_display 1 access_list_transaction_fields.reading access_list_transaction_display) (λ m. refl) (
    and_type 2 (typed_display 2 fee_market_transaction_fields.reading fee_market_display) (λ m. refl) (
    and_type 3 (typed_display 3 blob_transaction_fields.reading blob_display) (λ m. refl) (
    last_type 4 (typed_display 4 set_code_transaction_fields.reading set_code_display) (λ m. refl)))))).fields

-- transactions of all types: for an unknown type the number of the type and the payload
abbrev pub by_type_display : Fields any_transaction.reading.M
by_type_display =
    or_other transaction_display (
    elim [ inl t ↦ refl | inr (inl t) ↦ refl | inr (inr (inl t)) ↦ refl | inr (inr (inr (inl t))) ↦ refl | inr (inr (inr (inr t))) ↦ refl ])

-- the hash of a transaction
unfoldable pub transaction_hash : any_transaction.reading.M → List ℕ
transaction_hash t = keccak256 (bytes_alone (any_transaction.reading.item t))

-- a transaction with its hash
unfoldable pub any_transaction_display : Display any_transaction.reading.M
any_transaction_display = an_object (after_derived (λ t. hash_entries (transaction_hash t)) by_type_display)

-- ---- before they are signed

abbrev pub unsigned_legacy_display : Fields unsigned_legacy_transaction.reading.M
unsigned_legacy_display = after_derived (λ t. no_type_entries) (in_order legacy_display (if_there (through (λ c. c.0) (one (codes "chain_id") a_number))))

abbrev pub payload_display : Fields unsigned_transaction.reading.M
payload_display =
    (and_type 0 unsigned_legacy_display (λ m. refl) (and_type 1 (of_type 1 access_list_transaction_display) (λ m. refl) (and_type 2 (of_type 2 fee_market_display) (λ m. refl) (and_type 3 (of_type 3 blob_display) (λ m. refl) (last_type 4 (of_type 4 set_code_display) (λ m. refl)))))).fields

-- the hash that is signed of a payload
unfoldable pub payload_hash : unsigned_transaction.reading.M → List ℕ
payload_hash t = keccak256 (bytes_alone (unsigned_transaction.reading.item t))

-- a payload, and the hash that is signed
abbrev pub unsigned_display : Display unsigned_transaction.reading.M
unsigned_display = an_object (through (λ t. (t, t)) (in_order payload_display (derived (λ t. signing_entries (payload_hash t)))))

-- ---- with their blobs, as they are sent

-- the hash of a transaction without its blobs, which names it
unfoldable pub blob_hash : signed_blob_transaction.reading.M → List ℕ
blob_hash t = keccak256 (3 ∷ encoding (signed_blob_transaction.reading.item t))

-- the transaction without its blobs
abbrev pub blob_transaction_display : Fields signed_blob_transaction.reading.M
blob_transaction_display = typed_display 3 blob_transaction_fields.reading blob_display

-- EIP-4844; blobs are mostly zero bytes
abbrev pub with_proofs_fields : Fields with_proofs.reading.M
with_proofs_fields =
    in_order blob_transaction_display (same (codes "blobs") (a_list (bytes_as Sparse)) (same (codes "commitments") (a_list a_string) (
    same (codes "proofs") (a_list a_string) end)))

abbrev pub with_proofs_display : Display with_proofs.reading.M
with_proofs_display = an_object (after_derived (λ m. hash_entries (blob_hash m.0)) with_proofs_fields)

-- EIP-7594, with the version of the list
abbrev pub with_cell_proofs_fields : Fields with_cell_proofs.reading.M
with_cell_proofs_fields =
    in_order blob_transaction_display (in_order (derived (λ version. entry (codes "wrapper_version") (codes "wrapper_version") (content (number Decimal 1)))) (
    same (codes "blobs") (a_list (bytes_as Sparse)) (same (codes "commitments") (a_list a_string) (
    field (codes "cell_proofs") (codes "proofs") (a_list a_string) end))))

abbrev pub with_cell_proofs_display : Display with_cell_proofs.reading.M
with_cell_proofs_display = an_object (after_derived (λ m. hash_entries (blob_hash m.0)) with_cell_proofs_fields)

-- the name of the first field after the transaction
abbrev name_after : Entries → List ℕ
name_after (both first (both (entry name json v) more)) = name
name_after es = []

-- a transaction with its blobs, in the form of EIP-4844 or of EIP-7594
abbrev pub with_blobs_fields : Fields pooled_blob_transaction.reading.M
with_blobs_fields =
    either with_proofs_fields with_cell_proofs_fields (λ m n is.
    let names : codes "blobs" ≡ codes "wrapper_version" = ap name_after is in let long : 5 ≡ 15 = ap length names in omega (arith, long))

-- transactions of all types as they are sent
abbrev pub pooled_fields : Fields pooled_transaction.reading.M
pooled_fields = (
    and_type 0 signed_legacy_display (λ m. refl) (
    and_type 1 (typed_display 1 access_list_transaction_fields.reading access_list_transaction_display) (λ m. refl) (
    and_type 2 (typed_display 2 fee_market_transaction_fields.reading fee_market_display) (λ m. refl) (
    and_type 3 with_blobs_fields (elim [ inl m ↦ refl | inr m ↦ refl ]) (
    last_type 4 (typed_display 4 set_code_transaction_fields.reading set_code_display) (λ m. refl)))))).fields

-- the hash of a transaction as it is sent: the hash of the transaction in a block
unfoldable pub pooled_hash : pooled_transaction.reading.M → List ℕ
pooled_hash t = keccak256 (bytes_alone (transaction.reading.item (seen_consensus t)))

-- a transaction as it is sent, with its hash
unfoldable pub pooled_transaction_display : Display pooled_transaction.reading.M
pooled_transaction_display = an_object (after_derived (λ t. hash_entries (pooled_hash t)) pooled_fields)
