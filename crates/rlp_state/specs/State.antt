-- What the tries of Ethereum's state say of accounts and of their storage: section 4.1 of the yellow paper, and the proofs of EIP-1186.
use Rattle.std.specs.Prelude.{ℕ, ◌≡◌, ⊤, List, Option, Some, None, Result, Ok, Err, IfSome, option_map}
use Rattle.rlp.specs.{Codec.uint, Form.Faults, Format.Encoding.{encoding, string}, Values.Value.{FitsBytes, number_item}, Views.View.strict_view_of}
use Rattle.rlp_records.specs.Keccak.{keccak256}
use Rattle.rlp_trie.specs.{HexPrefix.nibbles_of, Lookup.HasValue, ProofWalk.{IsKnown, ProofGives}, declared.proof.ProofFault.ProofFault}
use Rattle.rlp_headers.specs.{Account.account, declared.account.Account.Account}
use Rattle.rlp_state.specs.declared.fault.StateFault.{StateFault}
use Rattle.rlp_state.specs.declared.fault.StateFault.TheVariants.{FaultyAccount, FaultySlot, Proof}

-- ---- paths and values

-- the path of an account in the trie of the state: the nibbles of the hash of its address
abbrev pub account_path : List ℕ → List ℕ
account_path address = nibbles_of (keccak256 address)

-- the path of a slot in the trie of an account's storage: the nibbles of the hash of the 32 bytes of the slot's number
abbrev pub slot_path : List ℕ → List ℕ
slot_path slot = nibbles_of (keccak256 slot)

-- What a value of the trie of the state is read as: the account whose encoding it is, or why it is no account. No value says that there is no account.
abbrev pub IsAccountValue : Option (List ℕ) → Result (Option Account) StateFault → Type 0
IsAccountValue None (Ok None) = ⊤
IsAccountValue (Some b) (Ok (Some a)) = account.Fits a × (b ≡ encoding (account.item a))
IsAccountValue (Some b) (Err (FaultyAccount e)) = Faults account.reading (strict_view_of b) e
IsAccountValue value outcome = ⊥

-- What a value of the trie of an account's storage is read as: the number whose encoding it is, of at most 256 bits, or why it is no such number. No value says that
-- the slot holds 0.
abbrev pub IsSlotValue : Option (List ℕ) → Result ℕ StateFault → Type 0
IsSlotValue None (Ok n) = n ≡ 0
IsSlotValue (Some b) (Ok n) = FitsBytes 32 n × (b ≡ encoding (number_item n))
IsSlotValue (Some b) (Err (FaultySlot e)) = Faults (uint 32).reading (strict_view_of b) e
IsSlotValue value outcome = ⊥

-- ---- proofs

-- How a proof of a value ends, by what the nodes give: with what the value is read as, or with the fault of the nodes.
pub data Reads {A : Type 0} (Gives : Result (Option (List ℕ)) ProofFault → Type 0) (IsValue : Option (List ℕ) → Result A StateFault → Type 0)
    : Result A StateFault → Type 0 where
  reads_value : (value : Option (List ℕ)) (outcome : Result A StateFault) → Gives (Ok value) → IsValue value outcome → Reads Gives IsValue outcome
  proves_none : (e : ProofFault) → Gives (Err e) → Reads Gives IsValue (Err (Proof e))

-- What nodes say of a key: the value that the trie of which they are nodes has for it, or the fault with which the walk over them ends.
abbrev pub Says : List ℕ → List ℕ → List (List ℕ) → Result (Option (List ℕ)) ProofFault → Type 0
Says root key nodes (Ok value) = HasValue (IsKnown nodes) (string root) (nibbles_of key) value
Says root key nodes (Err e) = ProofGives root key nodes (Err e)

-- how the proof of an account ends, by the walk over the nodes
abbrev pub GivesAccount : List ℕ → List ℕ → List (List ℕ) → Result (Option Account) StateFault → Type 0
GivesAccount root address nodes outcome = Reads (ProofGives root (keccak256 address) nodes) IsAccountValue outcome

-- how the proof of the number in a slot ends, by the walk over the nodes
abbrev pub GivesSlot : List ℕ → List ℕ → List (List ℕ) → Result ℕ StateFault → Type 0
GivesSlot root slot nodes outcome = Reads (ProofGives root (keccak256 slot) nodes) IsSlotValue outcome

-- The trie of the state with this root, of which these nodes are known, has this account at an address, or no account if `None`.
pub record HasAccount (root address : List ℕ) (nodes : List (List ℕ)) (found : Option Account) : Type 0 where
  pub fits : IfSome found account.Fits
  pub has : HasValue (IsKnown nodes) (string root) (account_path address) (option_map (λ a. encoding (account.item a)) found)

-- why the trie of which these are nodes, or the nodes themselves, say no account for an address
abbrev pub HasAccountFault : List ℕ → List ℕ → List (List ℕ) → StateFault → Type 0
HasAccountFault root address nodes e = Reads (Says root (keccak256 address) nodes) IsAccountValue (Err e)

-- The trie of an account's storage with this root, of which these nodes are known, has a value for a slot that says that the slot holds the number, or no value if the
-- number is 0.
pub record HasSlot (root slot : List ℕ) (nodes : List (List ℕ)) (n : ℕ) : Type 0 where
  pub value : Option (List ℕ)
  pub is : IsSlotValue value (Ok n)
  pub has : HasValue (IsKnown nodes) (string root) (slot_path slot) value

-- why the trie of which these are nodes, or the nodes themselves, say no number for a slot
abbrev pub HasSlotFault : List ℕ → List ℕ → List (List ℕ) → StateFault → Type 0
HasSlotFault root slot nodes e = Reads (Says root (keccak256 slot) nodes) IsSlotValue (Err e)
