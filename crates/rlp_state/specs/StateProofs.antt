-- Proofs of an account together with slots of its storage: what `eth_getProof` of EIP-1186 answers.
use Rattle.std.specs.{Int.Digits.number_from_digits, List.{AllZip, slice_get}, Prelude.{ℕ, ◌≡◌, ◌+◌, ◌⊎◌, List, [], ◌∷◌, ◌++◌, codes, decimal, map, Option, Some, None, option_map, Result, Ok, Err, IsSomeAnd}, Vec.vec_items}
use Rattle.rlp.specs.{Form.map_value, Format.Encoding.{encoding, string}}
use Rattle.rlp_format.specs.declared.uint.Uint.{Uint}
use Rattle.rlp_records.specs.Keccak.{keccak256}
use Rattle.rlp_headers.specs.{Account.account, declared.account.Account.Account}
use Rattle.rlp_state.specs.{Faults.{IsSameFault, state_fault_text}, State.{GivesAccount, GivesSlot, HasAccount, HasAccountFault, HasSlot, HasSlotFault}}
use Rattle.rlp_state.specs.{declared.fault.StateFault.StateFault, declared.state_proof.ProvedState.ProvedState, declared.state_proof.SlotProof.SlotProof, declared.state_proof.StateProof.StateProof}
use Rattle.rlp_state.specs.declared.fault.StateFault.TheVariants as fault
use Rattle.rlp_state.specs.declared.state_proof.StateProofFault.{StateProofFault}
use Rattle.rlp_state.specs.declared.state_proof.StateProofFault.TheVariants as placed

-- ---- faults

-- the printed text of a fault
abbrev pub state_proof_fault_text : StateProofFault → List ℕ
state_proof_fault_text (placed.Account e) = codes "Account(" ++ state_fault_text e ++ codes ")"
state_proof_fault_text (placed.Slot place e) = codes "Slot(" ++ decimal place ++ codes ", " ++ state_fault_text e ++ codes ")"
state_proof_fault_text placed.OutOfMemory = codes "OutOfMemory"

-- the fault of a proof whose account has this fault
abbrev pub at_account : StateFault → StateProofFault
at_account fault.OutOfMemory = placed.OutOfMemory
at_account e = placed.Account e

-- the fault of a proof whose slot at this place has this fault
abbrev pub at_slot : ℕ → StateFault → StateProofFault
at_slot place fault.OutOfMemory = placed.OutOfMemory
at_slot place e = placed.Slot place e

-- faults of one kind at one place
abbrev pub IsSamePlaced : StateProofFault → StateProofFault → Type 0
IsSamePlaced (placed.Account d) (placed.Account e) = IsSameFault d e
IsSamePlaced (placed.Slot place d) (placed.Slot other e) = (place ≡ other) × IsSameFault d e
IsSamePlaced d e = d ≡ e

-- a result agrees with an outcome, unless memory was refused
abbrev pub StateAgrees : {A B : Type 0} → (A → B → Type 0) → Result A StateProofFault → Result B StateProofFault → Type 0
StateAgrees Same (Ok x) (Ok y) = Same x y
StateAgrees Same (Ok x) (Err f) = ⊥
StateAgrees Same (Err e) (Ok y) = e ≡ placed.OutOfMemory
StateAgrees Same (Err e) (Err f) = IsSamePlaced e f ⊎ (e ≡ placed.OutOfMemory)

-- ---- slots

-- the root of the storage of an account, or of the empty trie if there is no account
abbrev pub storage_root : Option Account → List ℕ
storage_root None = keccak256 (encoding (string []))
storage_root (Some a) = a.storage_root.0

-- a number as it stands in a slot
abbrev pub number_in : Uint 32 → ℕ
number_in u = number_from_digits 256 u.bytes

-- the slots of these proofs, in order, hold the numbers
abbrev pub HaveSlots : List ℕ → List SlotProof → List (Uint 32) → Type 0
HaveSlots root proofs numbers = AllZip (λ p u. HasSlot root p.slot (map vec_items p.nodes.now) (number_in u)) proofs numbers

-- the proof of a slot, which is at the place of the fault, has the fault
abbrev pub HasSlotsFault : List ℕ → List SlotProof → StateProofFault → Type 0
HasSlotsFault root proofs (placed.Slot place e) = IsSomeAnd (slice_get proofs place) (λ p. HasSlotFault root p.slot (map vec_items p.nodes.now) e)
HasSlotsFault root proofs e = ⊥

-- How proofs of slots end, of which the first has this place: with the numbers in order, or with the fault of the first proof that has a fault.
pub data GivesSlots (root : List ℕ) : ℕ → List SlotProof → Result (List ℕ) StateProofFault → Type 0 where
  no_slots : (place : ℕ) → GivesSlots root place [] (Ok [])
  faulty_slot : (place : ℕ) (p : SlotProof) (ps : List SlotProof) (e : StateFault) → GivesSlot root p.slot (map vec_items p.nodes.now) (Err e)
      → GivesSlots root place (p ∷ ps) (Err (placed.Slot place e))
  right_slot : (place n : ℕ) (p : SlotProof) (ps : List SlotProof) (outcome : Result (List ℕ) StateProofFault)
      → GivesSlot root p.slot (map vec_items p.nodes.now) (Ok n) → GivesSlots root (place + 1) ps outcome
      → GivesSlots root place (p ∷ ps) (map_value (λ ns. n ∷ ns) outcome)

-- ---- the whole proof

-- the state with this root has the account at the address, and the trie of the account's storage has the numbers in the slots
pub record HasState (root : List ℕ) (p : StateProof) (s : ProvedState) : Type 0 where
  pub account : HasAccount root p.address.0 (map vec_items p.account_nodes.now) s.account
  pub slots : HaveSlots (storage_root s.account) p.slots.now (vec_items s.slots)

-- why the proof proves no state: the proof of the account has a fault, or the state has an account, and a slot of its storage has a fault
abbrev pub HasStateFault : List ℕ → StateProof → StateProofFault → Type 0
HasStateFault root p (placed.Account e) = HasAccountFault root p.address.0 (map vec_items p.account_nodes.now) e
HasStateFault root p e =
    (found : Option Account) × HasAccount root p.address.0 (map vec_items p.account_nodes.now) found × HasSlotsFault (storage_root found) p.slots.now e

-- how the proof of an account ends, and then the proofs of the slots of its storage
pub data GivesState (root : List ℕ) (p : StateProof) : Result (Option Account × List ℕ) StateProofFault → Type 0 where
  faulty_account : (e : StateFault) → GivesAccount root p.address.0 (map vec_items p.account_nodes.now) (Err e) → GivesState root p (Err (placed.Account e))
  right_account : (found : Option Account) (outcome : Result (List ℕ) StateProofFault)
      → GivesAccount root p.address.0 (map vec_items p.account_nodes.now) (Ok found) → GivesSlots (storage_root found) 0 p.slots.now outcome
      → GivesState root p (map_value (λ ns. (found, ns)) outcome)

-- the state is this account and these numbers
abbrev pub IsState : ProvedState → Option Account × List ℕ → Type 0
IsState s wanted = (option_map account.item s.account ≡ option_map account.item wanted.0) × (map number_in (vec_items s.slots) ≡ wanted.1)
