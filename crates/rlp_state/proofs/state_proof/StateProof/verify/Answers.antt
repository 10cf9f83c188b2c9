use Rattle.std.proofs.Common.{Err, Ok}
use Rattle.rlp_state.proofs.StateProofLemmas.{account_fails, right_agrees}
use Rattle.rlp_state.proofs.state_proof.StateProof.verify.Goals as goal

pub returns-in-Ok-verify_slots-clause-found : goal.returns-in-Ok-verify_slots-clause-found
returns-in-Ok-verify_slots-clause-found c = λ wanted gives.
    right_agrees c.args.state_root.now.0 c.args.self.now c.in-Ok.account c.storage_root.result.0 (Ok c.in-Ok-verify_slots.slots) c.storage_root.ensures
    c.in-Ok.ensures.found c.in-Ok.ensures.refused c.in-Ok-verify_slots.ensures.only (Ok wanted) gives

pub returns-in-Ok-verify_slots-clause-refused : goal.returns-in-Ok-verify_slots-clause-refused
returns-in-Ok-verify_slots-clause-refused c = λ fault gives.
    right_agrees c.args.state_root.now.0 c.args.self.now c.in-Ok.account c.storage_root.result.0 (Ok c.in-Ok-verify_slots.slots) c.storage_root.ensures
    c.in-Ok.ensures.found c.in-Ok.ensures.refused c.in-Ok-verify_slots.ensures.only (Err fault) gives

pub returns-in-Err-verify_slots-clause-memory : goal.returns-in-Err-verify_slots-clause-memory
returns-in-Err-verify_slots-clause-memory c = λ wanted gives.
    right_agrees c.args.state_root.now.0 c.args.self.now c.in-Ok.account c.storage_root.result.0 (Err c.in-Err-verify_slots.fault) c.storage_root.ensures
    c.in-Ok.ensures.found c.in-Ok.ensures.refused c.in-Err-verify_slots.ensures.only (Ok wanted) gives

pub returns-in-Err-verify_slots-clause-refused : goal.returns-in-Err-verify_slots-clause-refused
returns-in-Err-verify_slots-clause-refused c = λ fault gives.
    right_agrees c.args.state_root.now.0 c.args.self.now c.in-Ok.account c.storage_root.result.0 (Err c.in-Err-verify_slots.fault) c.storage_root.ensures
    c.in-Ok.ensures.found c.in-Ok.ensures.refused c.in-Err-verify_slots.ensures.only (Err fault) gives

pub returns-in-Err-clause-fault : goal.returns-in-Err-clause-fault
returns-in-Err-clause-fault c = account_fails c.args.state_root.now.0 c.args.self.now c.in-Err.fault c.at_account.result c.at_account.ensures c.in-Err.ensures.fault
