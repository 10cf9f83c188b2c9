-- How receipts of deposits of the OP stack are written and read.
use Rattle.std.specs.{Prelude.refl, Vec.vec_items}
use Rattle.rlp.specs.Codec.{Codec, Fields, field, list_type, number, optional, optional_group, struct_of}
use Rattle.rlp_headers.specs.{Log.log, Receipt.{bloom, receipt_status}, declared.deposit_receipt.DepositReceipt.DepositReceipt, declared.deposit_receipt.Regolith.{Regolith}}

-- the fields since Regolith: depositNonce, and since Canyon depositReceiptVersion
abbrev pub regolith_fields : Fields Regolith
regolith_fields =
    field (λ (x : Regolith). x.deposit_nonce) (number 8) (
    optional (λ (x : Regolith). x.deposit_receipt_version) (number 8))

-- the specification of deposits: rlp([postStateOrStatus, cumulativeGasUsed, bloom, logs, depositNonce, depositReceiptVersion]), of which the last two are optional
abbrev pub deposit_receipt : Codec DepositReceipt
deposit_receipt = struct_of (
    field (λ (r : DepositReceipt). r.status_or_state_root) receipt_status (
    field (λ (r : DepositReceipt). r.cumulative_gas_used) (number 8) (
    field (λ (r : DepositReceipt). r.logs_bloom) bloom (
    field (λ (r : DepositReceipt). r.logs) (list_type vec_items log) (
    optional_group (λ (r : DepositReceipt). r.since_regolith) regolith_fields refl)))))
