-- How headers of blocks are written and read.
use Rattle.std.specs.{Option.option_and_then, Prelude.{Option, refl}, Vec.vec_items}
use Rattle.rlp.specs.Codec.{Codec, Fields, byte_array, byte_string, field, number, optional_group, struct_of, uint}
use Rattle.rlp_records.specs.{Address.address, Hash.hash}
use Rattle.rlp_headers.specs.{Forks.london_fields, Receipt.bloom, declared.header.Header.Header, declared.header.forks.Amsterdam.Amsterdam}
use Rattle.rlp_headers.specs.{declared.header.forks.Cancun.Cancun, declared.header.forks.Prague.Prague, declared.header.forks.Shanghai.Shanghai}

-- The protocol eth: [parent-hash, ommers-hash, coinbase, state-root, txs-root, receipts-root, bloom, difficulty, number, gas-limit, gas-used, time, extradata,
-- mix-digest, block-nonce, ...]. After these fifteen fields come the fields of the forks.
abbrev pub header_fields : Fields Header
header_fields =
    field (λ (h : Header). h.parent_hash) hash (
    field (λ (h : Header). h.ommers_hash) hash (
    field (λ (h : Header). h.beneficiary) address (
    field (λ (h : Header). h.state_root) hash (
    field (λ (h : Header). h.transactions_root) hash (
    field (λ (h : Header). h.receipts_root) hash (
    field (λ (h : Header). h.logs_bloom) bloom (
    field (λ (h : Header). h.difficulty) (uint 32) (
    field (λ (h : Header). h.number) (number 8) (
    field (λ (h : Header). h.gas_limit) (number 8) (
    field (λ (h : Header). h.gas_used) (number 8) (
    field (λ (h : Header). h.timestamp) (number 8) (
    field (λ (h : Header). h.extra_data) (byte_string vec_items) (
    field (λ (h : Header). h.mix_hash) hash (
    field (λ (h : Header). h.nonce) (byte_array 8) (
    optional_group (λ (h : Header). h.since_london) london_fields refl)))))))))))))))

-- a header of a block, as the list of its fields
abbrev pub header : Codec Header
header = struct_of header_fields

-- what a header has since Shanghai
abbrev pub since_shanghai : Header → Option Shanghai
since_shanghai h = option_and_then (λ l. l.since_shanghai) h.since_london

-- what a header has since Cancun
abbrev pub since_cancun : Header → Option Cancun
since_cancun h = option_and_then (λ s. s.since_cancun) (since_shanghai h)

-- what a header has since Prague
abbrev pub since_prague : Header → Option Prague
since_prague h = option_and_then (λ c. c.since_prague) (since_cancun h)

-- what a header has since Amsterdam
abbrev pub since_amsterdam : Header → Option Amsterdam
since_amsterdam h = option_and_then (λ p. p.since_amsterdam) (since_prague h)
