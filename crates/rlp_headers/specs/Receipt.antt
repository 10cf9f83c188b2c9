-- How receipts, their statuses and the filters of their logs are written and read.
use Rattle.std.specs.{Prelude.false, Vec.vec_items}
use Rattle.rlp.specs.Codec.{Codec, Fields, byte_array, end, field, list_type, newtype, number, string_type, struct_of}
use Rattle.rlp_reading.{proofs.StringLaws.{kinds_read}, specs.Kinds.{read_kind}}
use Rattle.rlp_headers.specs.{Log.log, StatusKindLaws.status_kinds, StatusKinds.{IsStatus, status_bytes, status_kind, succeeded}}
use Rattle.rlp_headers.specs.{declared.receipt.Bloom.Bloom, declared.receipt.Receipt.Receipt, declared.receipt.ReceiptStatus.ReceiptStatus}

-- the string of its 256 bytes
abbrev pub bloom : Codec Bloom
bloom = newtype (λ (b : Bloom). b.0) (byte_array 256)

-- the string of these bytes
abbrev pub receipt_status : Codec ReceiptStatus
receipt_status = string_type IsStatus status_bytes (λ s. (succeeded s, status_bytes s)) (λ m. m.1) (read_kind status_kind) false
    (kinds_read IsStatus status_bytes succeeded status_kind status_kinds)

-- the fields of section 4.4.1 of the yellow paper, with EIP-658: rlp([status, cumulative_gas_used, logs_bloom, logs])
abbrev pub receipt_fields : Fields Receipt
receipt_fields =
    field (λ (r : Receipt). r.status_or_state_root) receipt_status (
    field (λ (r : Receipt). r.cumulative_gas_used) (number 8) (
    field (λ (r : Receipt). r.logs_bloom) bloom (
    field (λ (r : Receipt). r.logs) (list_type vec_items log) end)))

-- the list of the fields
abbrev pub receipt : Codec Receipt
receipt = struct_of receipt_fields
