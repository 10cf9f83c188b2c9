-- How answers with receipts are written and read, before eth/69 and since.
use Rattle.std.specs.Vec.{vec_items}
use Rattle.rlp.specs.Codec.{Codec, end, field, list_type, number, struct_of}
use Rattle.rlp_headers.specs.{Log.log, Receipt.receipt_status, TypedReceipt.any_receipt}
use Rattle.rlp_messages.specs.{declared.eth.receipts.BlockReceipts.BlockReceipts, declared.eth.receipts.BlockReceipts69.BlockReceipts69}
use Rattle.rlp_messages.specs.{declared.eth.receipts.Receipt69.Receipt69, declared.eth.receipts.Receipts.Receipts, declared.eth.receipts.Receipts69.Receipts69}

-- the list of the receipts of a block
abbrev pub block_receipts : Codec BlockReceipts
block_receipts = list_type (λ (b : BlockReceipts). vec_items b.0) any_receipt

-- the list of the lists of receipts
abbrev pub receipts : Codec Receipts
receipts = list_type (λ (r : Receipts). vec_items r.0) block_receipts

-- [tx-type, post-state-or-status, cumulative-gas, logs] of EIP-7642: the fields, in order
abbrev pub receipt69 : Codec Receipt69
receipt69 = struct_of (
    field (λ (r : Receipt69). r.transaction_type) (number 1) (
    field (λ (r : Receipt69). r.status_or_state_root) receipt_status (
    field (λ (r : Receipt69). r.cumulative_gas_used) (number 8) (
    field (λ (r : Receipt69). r.logs) (list_type vec_items log) end))))

-- the list of the receipts of a block
abbrev pub block_receipts69 : Codec BlockReceipts69
block_receipts69 = list_type (λ (b : BlockReceipts69). vec_items b.0) receipt69

-- [[receipt₁, receipt₂], ...] of EIP-7642: the list of the lists of receipts
abbrev pub receipts69 : Codec Receipts69
receipts69 = list_type (λ (r : Receipts69). vec_items r.0) block_receipts69
