use Rattle.rlp_state.proofs.StateProofLemmas.{IsOnWay}
use Rattle.rlp_state.proofs.state_proof.verify_slots.Given as goal

abbrev pub invariant-loop-index : goal.invariant-loop-index
invariant-loop-index l = IsOnWay l.root.0 l.slots l.index l.numbers.items
