-- How transactions of type 3 are written and read with their blobs, as they are sent between nodes.
use Rattle.std.proofs.Common.{inl, inr}
use Rattle.std.specs.{Prelude.{⊤, ◌==◌, ◌∷◌, ◌≡◌, ◌⊎◌, Bool, [], false, refl, true}, Str.bytes_eq, Vec.vec_items}
use Rattle.rlp.specs.Codec.{Codec, Fields, byte_array, end, field, lawful, list_type, newtype, plain_fields, string_type, struct_of}
use Rattle.rlp_transactions.specs.{BlobTransaction.signed_blob_transaction, declared.blob_transaction.BlobTransaction.{BlobTransaction}}
use Rattle.rlp_transactions.specs.declared.signed.Signed.{Signed}
use Rattle.rlp_pooled.specs.{Blob.blob, ItemCountLaws.by_count_lawful, ItemCounts.by_count, VersionLaws.version_by, Versions.{version_bytes, version_of}}
use Rattle.rlp_pooled.specs.declared.blob_wrapper.BlobTransactionWithCellProofs.{BlobTransactionWithCellProofs}
use Rattle.rlp_pooled.specs.declared.blob_wrapper.BlobTransactionWithProofs.{BlobTransactionWithProofs}
use Rattle.rlp_pooled.specs.declared.blob_wrapper.PooledBlobTransaction.{PooledBlobTransaction}
use Rattle.rlp_pooled.specs.{declared.blob_wrapper.PooledBlobTransaction.TheVariants.{CellProofs, Proofs}, declared.blob_wrapper.WrapperVersion.WrapperVersion}

-- EIP-4844: rlp([tx_payload_body, blobs, commitments, proofs])
abbrev pub proofs_fields : Fields BlobTransactionWithProofs
proofs_fields =
    field (λ (x : BlobTransactionWithProofs). x.transaction) signed_blob_transaction (
    field (λ (x : BlobTransactionWithProofs). x.blobs) (list_type vec_items blob) (
    field (λ (x : BlobTransactionWithProofs). x.commitments) (list_type vec_items (byte_array 48)) (
    field (λ (x : BlobTransactionWithProofs). x.proofs) (list_type vec_items (byte_array 48)) end)))

-- the list of the fields
abbrev pub with_proofs : Codec BlobTransactionWithProofs
with_proofs = struct_of proofs_fields

-- the string of the byte 1
abbrev pub wrapper_version : Codec WrapperVersion
wrapper_version = string_type (λ version. ⊤) version_bytes (λ version. tt) (λ seen. 1 ∷ []) version_of false (record {
  back = λ version fit short. refl;
  only = λ d version held short is. (tt, version_by d (bytes_eq d (1 ∷ [])) refl is);
  fits = λ version other same fit. tt;
  same = λ version. refl;
})

-- EIP-7594: rlp([tx_payload_body, wrapper_version, blobs, commitments, cell_proofs])
abbrev pub cell_proofs_fields : Fields BlobTransactionWithCellProofs
cell_proofs_fields =
    field (λ (x : BlobTransactionWithCellProofs). x.transaction) signed_blob_transaction (
    field (λ (x : BlobTransactionWithCellProofs). x.wrapper_version) wrapper_version (
    field (λ (x : BlobTransactionWithCellProofs). x.blobs) (list_type vec_items blob) (
    field (λ (x : BlobTransactionWithCellProofs). x.commitments) (list_type vec_items (byte_array 48)) (
    field (λ (x : BlobTransactionWithCellProofs). x.cell_proofs) (list_type vec_items (byte_array 48)) end))))

-- the list of the fields
abbrev pub with_cell_proofs : Codec BlobTransactionWithCellProofs
with_cell_proofs = struct_of cell_proofs_fields

-- A value of a first struct or of a second. `refl` proves that each struct always has the same number of fields, and that the two numbers differ.
abbrev pub struct_by_count : {A B : Type 0} (f : Fields A) (g : Fields B) → f.reading.is_fixed ≡ true → g.reading.is_fixed ≡ true
    → (g.reading.width == f.reading.width) ≡ false → Codec (A ⊎ B)
struct_by_count f g fixed also differ =
    lawful (by_count (plain_fields f) (plain_fields g)) (by_count_lawful (plain_fields f) (plain_fields g) fixed also differ f.laws g.laws)

-- a transaction in one of the two forms
abbrev pub blob_sum : PooledBlobTransaction → BlobTransactionWithProofs ⊎ BlobTransactionWithCellProofs
blob_sum (Proofs t) = inl t
blob_sum (CellProofs t) = inr t

-- the list of four fields of EIP-4844, or of five of EIP-7594
abbrev pub pooled_blob_transaction : Codec PooledBlobTransaction
pooled_blob_transaction = newtype blob_sum (struct_by_count proofs_fields cell_proofs_fields refl refl refl)

-- the transaction without its blobs
abbrev pub without_blobs : PooledBlobTransaction → Signed BlobTransaction Bool
without_blobs (Proofs t) = t.transaction
without_blobs (CellProofs t) = t.transaction
