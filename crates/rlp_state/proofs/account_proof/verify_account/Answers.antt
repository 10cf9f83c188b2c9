use Rattle.std.proofs.Common.{map, Ok}
use Rattle.std.specs.Vec.{vec_items}
use Rattle.rlp_records.specs.Keccak.{keccak256}
use Rattle.rlp_state.specs.State.{HasAccount, IsAccountValue}
use Rattle.rlp_state.proofs.{Agreements.{whole_ends, whole_faults, whole_holds}, Values.{SameAccount, account_has}}
use Rattle.rlp_state.proofs.account_proof.verify_account.Goals as goal

pub returns : goal.returns
returns c =
    let nodes = map vec_items c.args.nodes.now in
    let root = c.args.state_root.now.0 in
    let address = c.args.address.now.0 in
    let ends =
    whole_ends SameAccount IsAccountValue root c.keccak256.result (keccak256 address) nodes c.keccak256.ensures c.verify_proof-proof.result c.account_by.result
    c.verify_proof-proof.ensures.found c.verify_proof-proof.ensures.memory c.verify_proof-proof.ensures.refused c.account_by.ensures.refused c.account_by.ensures.only in
    record {
      value = whole_holds SameAccount IsAccountValue root c.keccak256.result (keccak256 address) nodes c.keccak256.ensures (HasAccount root address nodes)
          c.verify_proof-proof.result c.account_by.result c.verify_proof-proof.ensures.proved c.account_by.ensures.refused (λ v found. IsAccountValue v (Ok found))
          c.account_by.ensures.value (λ w has read. account_has root address nodes w c.account_by.result has read);
      fault = whole_faults SameAccount IsAccountValue root c.keccak256.result (keccak256 address) nodes c.keccak256.ensures c.verify_proof-proof.result
          c.account_by.result c.verify_proof-proof.ensures.proved c.verify_proof-proof.ensures.fault c.account_by.ensures.refused c.account_by.ensures.fault;
      found = ends.found;
      memory = ends.memory;
      refused = ends.refused;
    }
