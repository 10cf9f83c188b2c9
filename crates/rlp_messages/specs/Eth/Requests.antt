-- How requests and their answers are written and read, without the number of the request and with it.
use Rattle.std.specs.Vec.{vec_items}
use Rattle.rlp.specs.{Codec.{Codec, Fields, end, field, list_type, number, struct_of, truth_value}, Form.{Reading, group_before, no_fields, one_field, struct_reading}}
use Rattle.rlp_records.specs.Hash.{hash}
use Rattle.rlp_pooled.specs.PooledTransaction.{pooled_transaction}
use Rattle.rlp_headers.specs.Header.{header}
use Rattle.rlp_blocks.specs.Block.{body}
use Rattle.rlp_messages.specs.{Eth.HashOrNumberLaws.hash_or_number, declared.eth.requests.BlockBodies.BlockBodies, declared.eth.requests.WithRequestId.{WithRequestId}}
use Rattle.rlp_messages.specs.{declared.eth.requests.BlockHeaders.BlockHeaders, declared.eth.requests.GetBlockBodies.GetBlockBodies}
use Rattle.rlp_messages.specs.{declared.eth.requests.GetBlockHeaders.GetBlockHeaders, declared.eth.requests.GetPooledTransactions.GetPooledTransactions}
use Rattle.rlp_messages.specs.{declared.eth.requests.GetReceipts.GetReceipts, declared.eth.requests.PooledTransactions.PooledTransactions}

-- [startblock: {P, B_32}, limit: P, skip: P, reverse: {0, 1}] of GetBlockHeaders
abbrev pub get_block_headers : Codec GetBlockHeaders
get_block_headers = struct_of (
    field (λ (g : GetBlockHeaders). g.start_block) hash_or_number (
    field (λ (g : GetBlockHeaders). g.limit) (number 8) (
    field (λ (g : GetBlockHeaders). g.skip) (number 8) (
    field (λ (g : GetBlockHeaders). g.reverse) truth_value end))))

-- the list of the headers
abbrev pub block_headers : Codec BlockHeaders
block_headers = list_type (λ (b : BlockHeaders). vec_items b.0) header

-- the list of the hashes
abbrev pub get_block_bodies : Codec GetBlockBodies
get_block_bodies = list_type (λ (g : GetBlockBodies). vec_items g.0) hash

-- the list of the bodies
abbrev pub block_bodies : Codec BlockBodies
block_bodies = list_type (λ (b : BlockBodies). vec_items b.0) body

-- the list of the hashes
abbrev pub get_pooled_transactions : Codec GetPooledTransactions
get_pooled_transactions = list_type (λ (g : GetPooledTransactions). vec_items g.0) hash

-- [tx₁, tx₂, ...] of PooledTransactions: the list of the transactions, where a transaction of type 3 has its blobs
abbrev pub pooled_transactions : Codec PooledTransactions
pooled_transactions = list_type (λ (p : PooledTransactions). vec_items p.0) pooled_transaction

-- the list of the hashes
abbrev pub get_receipts : Codec GetReceipts
get_receipts = list_type (λ (g : GetReceipts). vec_items g.0) hash

-- EIP-2481: [request-id: P, content]
abbrev pub with_request_id_fields : {A : Type 0} → Codec A → Fields (WithRequestId A)
with_request_id_fields {A} c = field (λ (w : WithRequestId A). w.request_id) (number 8) (field (λ (w : WithRequestId A). w.content) c end)

-- the list of the fields
abbrev pub with_request_id : {A : Type 0} → Codec A → Codec (WithRequestId A)
with_request_id c = struct_of (with_request_id_fields c)

-- the reading of this codec, for a type without known laws
abbrev pub with_request_id_reading : {A : Type 0} → Reading A → Reading (WithRequestId A)
with_request_id_reading {A} r =
    struct_reading (
    group_before (λ (w : WithRequestId A). w.request_id) (one_field (number 8).reading) (
    group_before (λ (w : WithRequestId A). w.content) (one_field r) no_fields))
