-- What the key of an account or of a node signs, and when two such contents mean the same.
use Rattle.std.specs.Prelude.{ℕ, ◌≡◌, ◌≢◌, ⊤, List, ◌∷◌}
use Rattle.rlp_records.specs.{Keccak.keccak256, OtherEnvelope.{IsOther, other_type}}
use Rattle.rlp.specs.Format.Encoding.{encoding}
use Rattle.rlp_node_record.specs.{NodeFields.signed_item, NodeRecord.IsNodeRecord, declared.node_fields.NodeFields.NodeFields}
use Rattle.rlp_transactions.specs.Signing.{FitsSigning, HaveOneMeaning, Signable, signed_bytes}

-- what a key signs: a transaction or an authorization, a transaction of another type, the content of a node record, or a message
pub data SignedContent : Type 0 where
  of_account : Signable → SignedContent
  of_other : List ℕ → SignedContent
  of_node : NodeFields → SignedContent
  of_message : List ℕ → SignedContent

-- The bytes that are hashed and signed. EIP-191, and EIP-712 with it, puts the byte 0x19 before a message. A transaction of another type is given as all its bytes.
abbrev pub content_bytes : SignedContent → List ℕ
content_bytes (of_account x) = signed_bytes x
content_bytes (of_other d) = d
content_bytes (of_node f) = encoding (signed_item f)
content_bytes (of_message m) = 0x19 ∷ m

-- Each field is within its limit; the fields of a node record are a node record; and another type, with which the bytes begin, isn't 0x19.
abbrev pub FitsContent : SignedContent → Type 0
FitsContent (of_account x) = FitsSigning x
FitsContent (of_other d) = IsOther d × (other_type d ≢ 0x19)
FitsContent (of_node f) = IsNodeRecord f
FitsContent (of_message m) = ⊤

-- The two are transactions of one known type, or authorizations, with the same fields; or are the contents of node records with the same sequence number, keys and
-- values; or are messages, or transactions of another type, with the same bytes.
abbrev pub MeanTheSame : SignedContent → SignedContent → Type 0
MeanTheSame (of_account x) (of_account y) = HaveOneMeaning x y
MeanTheSame (of_other d) (of_other e) = d ≡ e
MeanTheSame (of_node f) (of_node g) = signed_item f ≡ signed_item g
MeanTheSame (of_message m) (of_message n) = m ≡ n
MeanTheSame one other = ⊥

-- The two byte strings differ and have the same Keccak-256 hash.
pub record AreCollision (a b : List ℕ) : Type 0 where
  pub differ : a ≢ b
  pub hash : keccak256 a ≡ keccak256 b
