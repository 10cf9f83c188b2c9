-- How the accounts in an access list of a block are written and read: what the block read and changed of each account.
use Rattle.std.specs.Vec.{vec_items}
use Rattle.rlp.specs.{Codec.{Codec, byte_string, end, field, list_type, number, struct_of, uint}, Form.Form}
use Rattle.rlp.specs.Form as form
use Rattle.rlp_headers.specs.declared.block_access_list.changes.AccountChanges.{AccountChanges}
use Rattle.rlp_headers.specs.{declared.block_access_list.changes.StateChange.StateChange, declared.block_access_list.changes.SlotChanges.SlotChanges}
use Rattle.rlp_records.specs.Address.{address}

-- EIP-7928: [block_access_index, new_value]
abbrev pub change : {A : Type 0} → Codec A → Codec (StateChange A)
change {A} c = struct_of (
    field (λ (x : StateChange A). x.block_access_index) (number 4) (
    field (λ (x : StateChange A). x.new_value) c end))

-- the form of changes, without the laws
abbrev pub change_form : {A : Type 0} → Form A → Form (StateChange A)
change_form {A} c = form.struct_of (
    form.field (λ (x : StateChange A). x.block_access_index) (form.number 4) (
    form.field (λ (x : StateChange A). x.new_value) c form.end))

-- EIP-7928: [slot, [[block_access_index, new_value], ...]]
abbrev pub slot_changes : Codec SlotChanges
slot_changes = struct_of (
    field (λ (x : SlotChanges). x.slot) (uint 32) (
    field (λ (x : SlotChanges). x.changes) (list_type vec_items (change (uint 32))) end))

-- EIP-7928: [address, storage_changes, storage_reads, balance_changes, nonce_changes, code_changes]
abbrev pub account_changes : Codec AccountChanges
account_changes = struct_of (
    field (λ (x : AccountChanges). x.address) address (
    field (λ (x : AccountChanges). x.storage_changes) (list_type vec_items slot_changes) (
    field (λ (x : AccountChanges). x.storage_reads) (list_type vec_items (uint 32)) (
    field (λ (x : AccountChanges). x.balance_changes) (list_type vec_items (change (uint 32))) (
    field (λ (x : AccountChanges). x.nonce_changes) (list_type vec_items (change (number 8))) (
    field (λ (x : AccountChanges). x.code_changes) (list_type vec_items (change (byte_string vec_items))) end))))))
