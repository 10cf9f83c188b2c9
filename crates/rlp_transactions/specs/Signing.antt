-- What a key signs, and when two such contents mean the same.
use Rattle.std.specs.Prelude.{ℕ, ◌∷◌, ◌≡◌, List}
use Rattle.rlp.specs.Format.Encoding.{encoding, list_of}
use Rattle.rlp_records.specs.Alone.{bytes_alone}
use Rattle.rlp_transactions.specs.{SetCodeTransaction.authorization_fields, UnsignedTransaction.unsigned_transaction, declared.set_code_transaction.Authorization.{Authorization}}
use Rattle.rlp_transactions.specs.declared.unsigned_transaction.UnsignedTransaction.{UnsignedTransaction}

-- what a key signs: a transaction of any type, or an authorization
pub data Signable : Type 0 where
  a_transaction : UnsignedTransaction → Signable
  an_authorization : Authorization → Signable

-- The bytes that are signed. For an authorization they are 5 and then the list of its fields, as in EIP-7702.
abbrev pub signed_bytes : Signable → List ℕ
signed_bytes (a_transaction t) = bytes_alone (unsigned_transaction.item t)
signed_bytes (an_authorization a) = 5 ∷ encoding (list_of (authorization_fields.items a))

-- each field is within its limit, so that the bytes can be written
abbrev pub FitsSigning : Signable → Type 0
FitsSigning (a_transaction t) = unsigned_transaction.Fits t
FitsSigning (an_authorization a) = authorization_fields.Fits a

-- the two are transactions of one type with the same fields, or authorizations with the same fields
abbrev pub HaveOneMeaning : Signable → Signable → Type 0
HaveOneMeaning (a_transaction t) (a_transaction u) = unsigned_transaction.reading.seen t ≡ unsigned_transaction.reading.seen u
HaveOneMeaning (a_transaction t) (an_authorization b) = ⊥
HaveOneMeaning (an_authorization a) (a_transaction u) = ⊥
HaveOneMeaning (an_authorization a) (an_authorization b) = authorization_fields.reading.seen a ≡ authorization_fields.reading.seen b
