-- Faults of proofs of the state: their text, and what they are made of.
use Rattle.std.specs.Prelude.{ℕ, ◌≡◌, ⊤, List, ◌++◌, codes}
use Rattle.rlp.specs.Views.Text.{error_name}
use Rattle.rlp_trie.specs.{ProofWalk.{IsSameKind, proof_fault_text}, declared.proof.ProofFault.ProofFault}
use Rattle.rlp_trie.specs.declared.proof.ProofFault.TheVariants as trie
use Rattle.rlp_state.specs.declared.fault.StateFault.{StateFault}
use Rattle.rlp_state.specs.declared.fault.StateFault.TheVariants.{FaultyAccount, FaultySlot, OutOfMemory, Proof}

-- the printed text of a fault
abbrev pub state_fault_text : StateFault → List ℕ
state_fault_text (Proof e) = codes "Proof(" ++ proof_fault_text e ++ codes ")"
state_fault_text (FaultyAccount e) = codes "FaultyAccount(" ++ error_name e ++ codes ")"
state_fault_text (FaultySlot e) = codes "FaultySlot(" ++ error_name e ++ codes ")"
state_fault_text OutOfMemory = codes "OutOfMemory"

-- the fault of a proof of the state that has this fault
abbrev pub proof_fault : ProofFault → StateFault
proof_fault trie.OutOfMemory = OutOfMemory
proof_fault fault = Proof fault

-- faults of one kind: equal faults, or two faults of one variant, where those of proofs are of one kind too
abbrev pub IsSameFault : StateFault → StateFault → Type 0
IsSameFault (Proof d) (Proof e) = IsSameKind d e
IsSameFault (FaultyAccount d) (FaultyAccount e) = ⊤
IsSameFault (FaultySlot d) (FaultySlot e) = ⊤
IsSameFault d e = d ≡ e
