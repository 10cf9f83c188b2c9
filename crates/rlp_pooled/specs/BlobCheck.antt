-- Whether a transaction of type 3 is sent with as many blobs as it has versioned hashes, and with the commitments of these hashes.
use Rattle.std.specs.{Prelude.{ℕ, suc, ◌*◌, ◌==◌, not, ⊤, Bool, if◌then◌else◌, List, [], ◌∷◌, ◌++◌, codes, decimal, length, drop, Result, Ok, Err}, Str.bytes_eq, Vec.vec_items}
use Rattle.sha2.specs.Sha256.{sha256}
use Rattle.rlp_records.specs.declared.hash.Hash.{Hash}
use Rattle.rlp_transactions.specs.{declared.blob_transaction.BlobTransaction.{BlobTransaction}, declared.signed.Signed.{Signed}}
use Rattle.rlp_pooled.specs.declared.blob_check.BlobFault.{BlobFault}
use Rattle.rlp_pooled.specs.declared.blob_check.BlobFault.TheVariants.{BlobCount, CommitmentCount, ProofCount, VersionedHash}
use Rattle.rlp_pooled.specs.declared.blob_wrapper.BlobTransactionWithCellProofs.{BlobTransactionWithCellProofs}
use Rattle.rlp_pooled.specs.declared.blob_wrapper.BlobTransactionWithProofs.{BlobTransactionWithProofs}
use Rattle.rlp_pooled.specs.declared.blob_wrapper.PooledBlobTransaction.{PooledBlobTransaction}
use Rattle.rlp_pooled.specs.declared.blob_wrapper.PooledBlobTransaction.TheVariants.{CellProofs, Proofs}

-- EIP-4844's "VERSIONED_HASH_VERSION_KZG + sha256(commitment)[1:]", where the version is 0x01
abbrev pub versioned_hash : List ℕ → List ℕ
versioned_hash commitment = 0x01 ∷ drop 1 (sha256 commitment)

-- The first versioned hash that isn't the hash of the commitment at its place is a fault. The first hash of the lists has the place k.
abbrev pub hash_check : ℕ → List Hash → List (List ℕ) → Result ⊤ BlobFault
hash_check k (h ∷ hashes) (commitment ∷ commitments) =
    if bytes_eq h.0 (versioned_hash commitment) then hash_check (suc k) hashes commitments else Err (VersionedHash k)
hash_check k [] commitments = Ok tt
hash_check k (h ∷ hashes) [] = Ok tt

-- For a transaction with these versioned hashes, first the number of blobs is tested, then the number of commitments, then the number of proofs, then each hash.
abbrev pub blob_check : List Hash → ℕ → List (List ℕ) → Bool → Result ⊤ BlobFault
blob_check hashes blobs commitments are_proofs =
    if not (blobs == length hashes) then Err BlobCount
    else if not (length commitments == length hashes) then Err CommitmentCount
    else if not are_proofs then Err ProofCount
    else hash_check 0 hashes commitments

-- the versioned hashes of a transaction
abbrev pub hashes_of : Signed BlobTransaction Bool → List Hash
hashes_of t = vec_items t.payload.blob_versioned_hashes

-- EIP-4844: there is a proof for each blob
abbrev pub proofs_check : BlobTransactionWithProofs → Result ⊤ BlobFault
proofs_check t =
    blob_check (hashes_of t.transaction) (length (vec_items t.blobs)) (vec_items t.commitments) (length (vec_items t.proofs) == length (vec_items t.blobs))

-- EIP-7594's "CELLS_PER_EXT_BLOB * len(blobs)" proofs: 128 for each blob
abbrev pub cell_proofs_check : BlobTransactionWithCellProofs → Result ⊤ BlobFault
cell_proofs_check t =
    blob_check (hashes_of t.transaction) (length (vec_items t.blobs)) (vec_items t.commitments)
    (length (vec_items t.cell_proofs) == 128 * length (vec_items t.blobs))

-- the first fault of a transaction in one of the two forms
abbrev pub pooled_check : PooledBlobTransaction → Result ⊤ BlobFault
pooled_check (Proofs t) = proofs_check t
pooled_check (CellProofs t) = cell_proofs_check t

-- the printed text of a fault
abbrev pub blob_fault_text : BlobFault → List ℕ
blob_fault_text BlobCount = codes "BlobCount"
blob_fault_text CommitmentCount = codes "CommitmentCount"
blob_fault_text ProofCount = codes "ProofCount"
blob_fault_text (VersionedHash k) = codes "VersionedHash(" ++ decimal k ++ codes ")"
