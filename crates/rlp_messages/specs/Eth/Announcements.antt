-- How announcements are written and read.
use Rattle.std.specs.Vec.{vec_items}
use Rattle.rlp.specs.Codec.{Codec, byte_string, end, field, list_type, number, struct_of, uint}
use Rattle.rlp_messages.specs.{declared.eth.announcements.NewBlockHash.NewBlockHash, declared.eth.announcements.NewBlockHashes.NewBlockHashes}
use Rattle.rlp_messages.specs.{declared.eth.announcements.NewPooledTransactionHashes.{NewPooledTransactionHashes}, declared.eth.announcements.Transactions.{Transactions}}
use Rattle.rlp_messages.specs.{declared.eth.announcements.BlockRangeUpdate.BlockRangeUpdate, declared.eth.announcements.NewBlock.NewBlock}
use Rattle.rlp_blocks.specs.Block.{block}
use Rattle.rlp_records.specs.Hash.{hash}
use Rattle.rlp_transactions.specs.Transaction.{any_transaction}

-- [blockhash: B_32, number: P] of NewBlockHashes
abbrev pub new_block_hash : Codec NewBlockHash
new_block_hash = struct_of (
    field (λ (n : NewBlockHash). n.hash) hash (
    field (λ (n : NewBlockHash). n.number) (number 8) end))

-- the list of the blocks
abbrev pub new_block_hashes : Codec NewBlockHashes
new_block_hashes = list_type (λ (n : NewBlockHashes). vec_items n.0) new_block_hash

-- [txtypes: B, [txsize₁: P, txsize₂: P, ...], [txhash₁: B_32, txhash₂: B_32, ...]] of NewPooledTransactionHashes
abbrev pub new_pooled_transaction_hashes : Codec NewPooledTransactionHashes
new_pooled_transaction_hashes = struct_of (
    field (λ (n : NewPooledTransactionHashes). n.types) (byte_string vec_items) (
    field (λ (n : NewPooledTransactionHashes). n.sizes) (list_type vec_items (number 8)) (
    field (λ (n : NewPooledTransactionHashes). n.hashes) (list_type vec_items hash) end)))

-- [earliestBlock: P, latestBlock: P, latestBlockHash: B_32] of EIP-7642
abbrev pub block_range_update : Codec BlockRangeUpdate
block_range_update = struct_of (
    field (λ (b : BlockRangeUpdate). b.earliest_block) (number 8) (
    field (λ (b : BlockRangeUpdate). b.latest_block) (number 8) (
    field (λ (b : BlockRangeUpdate). b.latest_block_hash) hash end)))

-- [block, td: P] of NewBlock
abbrev pub new_block : Codec NewBlock
new_block = struct_of (
    field (λ (n : NewBlock). n.block) block (
    field (λ (n : NewBlock). n.total_difficulty) (uint 32) end))

-- the list of the transactions
abbrev pub transactions : Codec Transactions
transactions = list_type (λ (t : Transactions). vec_items t.0) any_transaction
