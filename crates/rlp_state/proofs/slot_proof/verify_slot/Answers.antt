use Rattle.std.proofs.Common.{map, Ok}
use Rattle.std.specs.{Int.Digits.number_from_digits, Vec.vec_items}
use Rattle.rlp_records.specs.Keccak.{keccak256}
use Rattle.rlp_state.specs.State.{HasSlot, IsSlotValue}
use Rattle.rlp_state.proofs.{Agreements.{whole_ends, whole_faults, whole_holds}, Values.{SameNumber, slot_has}}
use Rattle.rlp_state.proofs.slot_proof.verify_slot.Goals as goal

pub returns : goal.returns
returns c =
    let nodes = map vec_items c.args.nodes.now in
    let root = c.args.storage_root.now.0 in
    let slot = c.args.slot.now in
    let ends =
    whole_ends SameNumber IsSlotValue root c.keccak256.result (keccak256 slot) nodes c.keccak256.ensures c.verify_proof-proof.result c.number_by.result
    c.verify_proof-proof.ensures.found c.verify_proof-proof.ensures.memory c.verify_proof-proof.ensures.refused c.number_by.ensures.refused c.number_by.ensures.only in
    record {
      value = whole_holds SameNumber IsSlotValue root c.keccak256.result (keccak256 slot) nodes c.keccak256.ensures (λ number. HasSlot root slot nodes (number_from_digits 256 number.bytes))
          c.verify_proof-proof.result c.number_by.result c.verify_proof-proof.ensures.proved c.number_by.ensures.refused (λ v number. IsSlotValue v (Ok (number_from_digits 256 number.bytes)))
          c.number_by.ensures.value (λ w has read. slot_has root slot nodes w c.number_by.result has read);
      fault = whole_faults SameNumber IsSlotValue root c.keccak256.result (keccak256 slot) nodes c.keccak256.ensures c.verify_proof-proof.result
          c.number_by.result c.verify_proof-proof.ensures.proved c.verify_proof-proof.ensures.fault c.number_by.ensures.refused c.number_by.ensures.fault;
      found = ends.found;
      memory = ends.memory;
      refused = ends.refused;
    }
